-- A name is a text, so storing one needs memory.
use Rattle.std.proofs.Common.{refl}
use Rattle.linkinfo_table.specs.FamilyRowLaws.{owner_needs}
use Rattle.linkinfo_table.specs.FamilyRows.{table_row}
use Rattle.linkinfo_peers.specs.Batadv.{bat_adv_rows}
use Rattle.linkinfo_peers.proofs.batadv.InfoBatAdvRowFamily.store_decoded.Goals as goal

pub returns-in-1-clause-certain : goal.returns-in-1-clause-certain
returns-in-1-clause-certain g c = λ certain none.
    absurd (owner_needs (λ n. table_row bat_adv_rows n) refl c.in-Typed-store_by_rows.is c.in-1.is
    c.requires refl none)
