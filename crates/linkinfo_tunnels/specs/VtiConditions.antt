-- Written by tables/generate from tables/vti.
-- Which attributes are well formed, by the variant of each, in the data of
-- `vti` and `vti6` links.
use Rattle.std.specs.Prelude.{◌↔◌, ◌<◌, ◌^◌, Bool, true, false, refl}
use Rattle.std.proofs.Common.{subst}
use Rattle.linkinfo_shapes.specs.Shapes.{IsIp}
use Rattle.linkinfo_table.specs.Conditions.{IsUnknown, are_typed, unknown_label}
use Rattle.linkinfo_table.specs.FamilyRows.{row_of, table_row}
use Rattle.linkinfo_table.specs.Rows.{WellFormed}
use Rattle.linkinfo_tunnels.specs.Vti.{vti_attribute, vti_rows}
use Rattle.linkinfo_tunnels.specs.declared.vti.InfoVti.{InfoVti}
use Rattle.linkinfo_tunnels.specs.declared.vti.InfoVti.TheVariants as vti

abbrev pub vti_conditions : InfoVti → Type 0
vti_conditions (vti.Link n) = n < 2 ^ 32
vti_conditions (vti.IKey n) = n < 2 ^ 32
vti_conditions (vti.OKey n) = n < 2 ^ 32
vti_conditions (vti.Local a) = IsIp a
vti_conditions (vti.Remote a) = IsIp a
vti_conditions (vti.FwMark n) = n < 2 ^ 32
vti_conditions (vti.Other d) = IsUnknown vti_rows d

abbrev vti_is_other : InfoVti → Bool
vti_is_other (vti.Other d) = true
vti_is_other _ = false

pub vti_stated : (x : InfoVti) → WellFormed (λ d. vti.Other d) vti_attribute
    (λ n. row_of (table_row vti_rows n)) x ↔ vti_conditions x
unfolding WellFormed
vti_stated = elim [
  | vti.Other d ↦ unknown_label (λ z. vti.Other z) vti_attribute vti_rows vti_is_other
      (λ _. refl) (λ _. refl) (are_typed vti_is_other vti_rows refl) d
  | _ ↦ (λ w. subst vti_conditions w.2 w.1, λ h. (_, h, refl))
]
