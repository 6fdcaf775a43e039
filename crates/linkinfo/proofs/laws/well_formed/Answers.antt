use Rattle.linkinfo.proofs.Stated.{item_stated, list_stated}
use Rattle.linkinfo.proofs.laws.well_formed.Goals as goal
use Rattle.linkinfo.specs.declared.link_info.LinkInfoOf.TheVariants as info

pub returns-clause-list : goal.returns-clause-list
returns-clause-list g c = list_stated
    _ _ c.well_formed-2.ensures

pub returns-clause-kind : goal.returns-clause-kind
returns-clause-kind g c = λ t k. item_stated
    _ _ c.well_formed-2.ensures t (info.Kind k)

pub returns-clause-data : goal.returns-clause-data
returns-clause-data g c = λ t d. item_stated
    _ _ c.well_formed-2.ensures t (info.Data d)

pub returns-clause-statistics : goal.returns-clause-statistics
returns-clause-statistics g c = λ t x. item_stated
    _ _ c.well_formed-2.ensures t (info.Xstats x)

pub returns-clause-port_kind : goal.returns-clause-port_kind
returns-clause-port_kind g c = λ t k. item_stated
    _ _ c.well_formed-2.ensures t (info.PortKind k)

pub returns-clause-port_data : goal.returns-clause-port_data
returns-clause-port_data g c = λ t d. item_stated
    _ _ c.well_formed-2.ensures t (info.PortData d)

pub returns-clause-unknown : goal.returns-clause-unknown
returns-clause-unknown g c = λ t d. item_stated
    _ _ c.well_formed-2.ensures t (info.Other d)
