-- Written by tables/generate from tables/batadv.
-- Which attributes are well formed, by the variant of each, in the data of
-- `batadv` links.
use Rattle.std.specs.Prelude.{◌≡◌, ◌↔◌, Bool, true, false, refl}
use Rattle.std.specs.Str.{is_utf8}
use Rattle.std.proofs.Common.{subst}
use Rattle.nla_frame.specs.Attribute.{IsBytes}
use Rattle.linkinfo_table.specs.Conditions.{IsUnknown, are_typed, unknown_label}
use Rattle.linkinfo_table.specs.FamilyRows.{row_of, table_row}
use Rattle.linkinfo_table.specs.Rows.{WellFormed}
use Rattle.linkinfo_peers.specs.Batadv.{bat_adv_attribute, bat_adv_rows}
use Rattle.linkinfo_peers.specs.declared.batadv.InfoBatAdv.{InfoBatAdv}
use Rattle.linkinfo_peers.specs.declared.batadv.InfoBatAdv.TheVariants as bat_adv

abbrev pub bat_adv_conditions : InfoBatAdv → Type 0
bat_adv_conditions (bat_adv.AlgoName text) = (is_utf8 text ≡ true) × IsBytes text
bat_adv_conditions (bat_adv.Other d) = IsUnknown bat_adv_rows d

abbrev bat_adv_is_other : InfoBatAdv → Bool
bat_adv_is_other (bat_adv.Other d) = true
bat_adv_is_other _ = false

pub bat_adv_stated : (x : InfoBatAdv) → WellFormed (λ d. bat_adv.Other d) bat_adv_attribute
    (λ n. row_of (table_row bat_adv_rows n)) x ↔ bat_adv_conditions x
unfolding WellFormed
bat_adv_stated = elim [
  | bat_adv.Other d ↦ unknown_label (λ z. bat_adv.Other z) bat_adv_attribute
      bat_adv_rows bat_adv_is_other (λ _. refl) (λ _. refl)
      (are_typed bat_adv_is_other bat_adv_rows refl) d
  | _ ↦ (λ w. subst bat_adv_conditions w.2 w.1, λ h. (_, h, refl))
]
