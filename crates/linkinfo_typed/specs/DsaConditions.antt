-- Written by tables/generate from tables/dsa.
-- Which attributes are well formed, by the variant of each, in the data of
-- `dsa` links.
use Rattle.std.specs.Prelude.{◌↔◌, ◌<◌, ◌^◌, Bool, true, false, refl}
use Rattle.std.proofs.Common.{subst}
use Rattle.linkinfo_table.specs.Conditions.{IsUnknown, are_typed, unknown_label}
use Rattle.linkinfo_table.specs.FamilyRows.{row_of, table_row}
use Rattle.linkinfo_table.specs.Rows.{WellFormed}
use Rattle.linkinfo_typed.specs.Dsa.{dsa_attribute, dsa_rows}
use Rattle.linkinfo_typed.specs.declared.dsa.InfoDsa.{InfoDsa}
use Rattle.linkinfo_typed.specs.declared.dsa.InfoDsa.TheVariants as dsa

abbrev pub dsa_conditions : InfoDsa → Type 0
dsa_conditions (dsa.Conduit n) = n < 2 ^ 32
dsa_conditions (dsa.Other d) = IsUnknown dsa_rows d

abbrev dsa_is_other : InfoDsa → Bool
dsa_is_other (dsa.Other d) = true
dsa_is_other _ = false

pub dsa_stated : (x : InfoDsa) → WellFormed (λ d. dsa.Other d) dsa_attribute
    (λ n. row_of (table_row dsa_rows n)) x ↔ dsa_conditions x
unfolding WellFormed
dsa_stated = elim [
  | dsa.Other d ↦ unknown_label (λ z. dsa.Other z) dsa_attribute dsa_rows dsa_is_other
      (λ _. refl) (λ _. refl) (are_typed dsa_is_other dsa_rows refl) d
  | _ ↦ (λ w. subst dsa_conditions w.2 w.1, λ h. (_, h, refl))
]
