use Rattle.linkinfo_peers.proofs.laws.well_formed.Goals as goal
-- Begin: written by tables/generate from tables/families (imports).
use Rattle.linkinfo_peers.specs.Conditions.{bat_adv_stated, wwan_stated}

-- End: written by tables/generate.

-- Begin: written by tables/generate from tables/families (clauses).
pub returns-clause-bat_adv : goal.returns-clause-bat_adv
returns-clause-bat_adv c = bat_adv_stated

pub returns-clause-wwan : goal.returns-clause-wwan
returns-clause-wwan c = wwan_stated

-- End: written by tables/generate.
