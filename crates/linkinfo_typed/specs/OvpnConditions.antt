-- Written by tables/generate from tables/ovpn.
-- Which attributes are well formed, by the variant of each, in the data of
-- `ovpn` links.
use Rattle.std.specs.Prelude.{◌↔◌, Bool, true, false, refl}
use Rattle.linkinfo_numbers.specs.Table.{IsNumber, number_label}
use Rattle.linkinfo_table.specs.Conditions.{IsUnknown, are_typed, unknown_label}
use Rattle.linkinfo_table.specs.FamilyRows.{row_of, table_row}
use Rattle.linkinfo_table.specs.Rows.{WellFormed}
use Rattle.linkinfo_numbers.specs.Ovpn.{ovpn_mode_table, ovpn_mode_table_holds}
use Rattle.linkinfo_typed.specs.Ovpn.{ovpn_attribute, ovpn_rows}
use Rattle.linkinfo_typed.specs.declared.ovpn.InfoOvpn.{InfoOvpn}
use Rattle.linkinfo_typed.specs.declared.ovpn.InfoOvpn.TheVariants as ovpn

abbrev pub ovpn_conditions : InfoOvpn → Type 0
ovpn_conditions (ovpn.Mode x) = IsNumber ovpn_mode_table 256 x
ovpn_conditions (ovpn.Other d) = IsUnknown ovpn_rows d

abbrev ovpn_is_other : InfoOvpn → Bool
ovpn_is_other (ovpn.Other d) = true
ovpn_is_other _ = false

pub ovpn_stated : (x : InfoOvpn) → WellFormed (λ d. ovpn.Other d) ovpn_attribute
    (λ n. row_of (table_row ovpn_rows n)) x ↔ ovpn_conditions x
unfolding WellFormed
ovpn_stated = elim [
  | ovpn.Mode x ↦ number_label ovpn_mode_table_holds 256
      (λ y. ovpn.Mode y) ovpn_conditions (λ _ is. is) (λ _ is. is) x
  | ovpn.Other d ↦ unknown_label (λ z. ovpn.Other z) ovpn_attribute ovpn_rows ovpn_is_other
      (λ _. refl) (λ _. refl) (are_typed ovpn_is_other ovpn_rows refl) d
]
