-- Written by tables/generate from tables/ppp.
-- Which attributes are well formed, by the variant of each, in the data of
-- `ppp` links.
use Rattle.std.specs.Prelude.{◌↔◌, Bool, true, false, FitsSigned, refl}
use Rattle.std.specs.Int.{w32}
use Rattle.std.proofs.Common.{subst}
use Rattle.linkinfo_table.specs.Conditions.{IsUnknown, are_typed, unknown_label}
use Rattle.linkinfo_table.specs.FamilyRows.{row_of, table_row}
use Rattle.linkinfo_table.specs.Rows.{WellFormed}
use Rattle.linkinfo_typed.specs.Ppp.{ppp_attribute, ppp_rows}
use Rattle.linkinfo_typed.specs.declared.ppp.InfoPpp.{InfoPpp}
use Rattle.linkinfo_typed.specs.declared.ppp.InfoPpp.TheVariants as ppp

abbrev pub ppp_conditions : InfoPpp → Type 0
ppp_conditions (ppp.DevFd z) = FitsSigned w32 z
ppp_conditions (ppp.Other d) = IsUnknown ppp_rows d

abbrev ppp_is_other : InfoPpp → Bool
ppp_is_other (ppp.Other d) = true
ppp_is_other _ = false

pub ppp_stated : (x : InfoPpp) → WellFormed (λ d. ppp.Other d) ppp_attribute
    (λ n. row_of (table_row ppp_rows n)) x ↔ ppp_conditions x
unfolding WellFormed
ppp_stated = elim [
  | ppp.Other d ↦ unknown_label (λ z. ppp.Other z) ppp_attribute ppp_rows ppp_is_other
      (λ _. refl) (λ _. refl) (are_typed ppp_is_other ppp_rows refl) d
  | _ ↦ (λ w. subst ppp_conditions w.2 w.1, λ h. (_, h, refl))
]
