use Rattle.std.proofs.Common.{arith}
use Rattle.linkinfo_table.specs.ListLaws.{
  family_canonical,
  family_read_well,
  first_read_well,
  first_well_reads,
}
use Rattle.linkinfo_table.proofs.laws.reading_back.Goals as goal

pub returns-clause-list : goal.returns-clause-list
returns-clause-list g c = λ xs fits e.
    let lawful = g.met.F.LinkFamily.lawful c.args.ctx in
    family_canonical (g.F.LinkFamily.meaning c.args.ctx) g.F.Nla.attribute
    (g.F.LinkFamily.well c.args.ctx) lawful.read_well lawful.well_reads lawful.well_attribute
    c.args.bytes.now xs (λ i. omega (arith, c.type_inv.bytes i)) fits e

pub returns-clause-list_is_well : goal.returns-clause-list_is_well
returns-clause-list_is_well g c = λ xs e.
    let lawful = g.met.F.LinkFamily.lawful c.args.ctx in
    family_read_well (g.F.LinkFamily.meaning c.args.ctx) g.F.Nla.attribute
    (g.F.LinkFamily.well c.args.ctx) lawful.read_well lawful.well_reads lawful.well_attribute
    c.args.bytes.now xs (λ i. omega (arith, c.type_inv.bytes i)) e

pub returns-clause-first_is_well : goal.returns-clause-first_is_well
returns-clause-first_is_well g c = λ x e.
    let lawful = g.met.F.LinkFamily.lawful c.args.ctx in
    first_read_well (g.F.LinkFamily.meaning c.args.ctx) g.F.Nla.attribute
    (g.F.LinkFamily.well c.args.ctx) lawful.read_well lawful.well_reads lawful.well_attribute
    c.args.bytes.now x (λ i. omega (arith, c.type_inv.bytes i)) e

pub returns-clause-first : goal.returns-clause-first
returns-clause-first g c = λ x fits e.
    let lawful = g.met.F.LinkFamily.lawful c.args.ctx in (
      λ h. returns-clause-first_is_well g c x h,
      λ w.
          first_well_reads (g.F.LinkFamily.meaning c.args.ctx) g.F.Nla.attribute
          (g.F.LinkFamily.well c.args.ctx) lawful.read_well lawful.well_reads
          lawful.well_attribute c.args.bytes.now x fits e w,
    )
