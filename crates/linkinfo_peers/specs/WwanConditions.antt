-- Written by tables/generate from tables/wwan.
-- Which attributes are well formed, by the variant of each, in the data of
-- `wwan` links.
use Rattle.std.specs.Prelude.{◌↔◌, ◌<◌, ◌^◌, Bool, true, false, refl}
use Rattle.std.proofs.Common.{subst}
use Rattle.linkinfo_table.specs.Conditions.{IsUnknown, are_typed, unknown_label}
use Rattle.linkinfo_table.specs.FamilyRows.{row_of, table_row}
use Rattle.linkinfo_table.specs.Rows.{WellFormed}
use Rattle.linkinfo_peers.specs.Wwan.{wwan_attribute, wwan_rows}
use Rattle.linkinfo_peers.specs.declared.wwan.InfoWwan.{InfoWwan}
use Rattle.linkinfo_peers.specs.declared.wwan.InfoWwan.TheVariants as wwan

abbrev pub wwan_conditions : InfoWwan → Type 0
wwan_conditions (wwan.LinkId n) = n < 2 ^ 32
wwan_conditions (wwan.Other d) = IsUnknown wwan_rows d

abbrev wwan_is_other : InfoWwan → Bool
wwan_is_other (wwan.Other d) = true
wwan_is_other _ = false

pub wwan_stated : (x : InfoWwan) → WellFormed (λ d. wwan.Other d) wwan_attribute
    (λ n. row_of (table_row wwan_rows n)) x ↔ wwan_conditions x
unfolding WellFormed
wwan_stated = elim [
  | wwan.Other d ↦ unknown_label (λ z. wwan.Other z) wwan_attribute wwan_rows wwan_is_other
      (λ _. refl) (λ _. refl) (are_typed wwan_is_other wwan_rows refl) d
  | _ ↦ (λ w. subst wwan_conditions w.2 w.1, λ h. (_, h, refl))
]
