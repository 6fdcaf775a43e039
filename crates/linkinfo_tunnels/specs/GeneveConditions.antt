-- Written by tables/generate from tables/geneve.
-- Which attributes are well formed, by the variant of each, in the data of
-- `geneve` links.
use Rattle.std.specs.Prelude.{◌↔◌, ◌<◌, ◌^◌, Bool, true, false, refl}
use Rattle.std.proofs.Common.{subst}
use Rattle.linkinfo_shapes.specs.Shapes.{IsIpv4, IsIpv6}
use Rattle.linkinfo_numbers.specs.Table.{IsNumber, number_label}
use Rattle.linkinfo_table.specs.Conditions.{IsUnknown, are_typed, unknown_label}
use Rattle.linkinfo_table.specs.FamilyRows.{row_of, table_row}
use Rattle.linkinfo_table.specs.Rows.{WellFormed}
use Rattle.linkinfo_numbers.specs.Geneve.{geneve_df_table, geneve_df_table_holds}
use Rattle.linkinfo_tunnels.specs.Geneve.{geneve_attribute, geneve_rows}
use Rattle.linkinfo_tunnels.specs.declared.geneve.InfoGeneve.{InfoGeneve}
use Rattle.linkinfo_tunnels.specs.declared.geneve.InfoGeneve.TheVariants as geneve

abbrev pub geneve_conditions : InfoGeneve → Type 0
geneve_conditions (geneve.Id n) = n < 2 ^ 32
geneve_conditions (geneve.Remote a) = IsIpv4 a
geneve_conditions (geneve.Ttl n) = n < 256
geneve_conditions (geneve.Tos n) = n < 256
geneve_conditions (geneve.Port n) = n < 2 ^ 16
geneve_conditions (geneve.Remote6 a) = IsIpv6 a
geneve_conditions (geneve.Label n) = n < 2 ^ 32
geneve_conditions (geneve.Df x) = IsNumber geneve_df_table 256 x
geneve_conditions (geneve.Local a) = IsIpv4 a
geneve_conditions (geneve.Local6 a) = IsIpv6 a
geneve_conditions (geneve.Other d) = IsUnknown geneve_rows d
geneve_conditions _ = Unit {0}

abbrev geneve_is_other : InfoGeneve → Bool
geneve_is_other (geneve.Other d) = true
geneve_is_other _ = false

pub geneve_stated : (x : InfoGeneve) → WellFormed (λ d. geneve.Other d) geneve_attribute
    (λ n. row_of (table_row geneve_rows n)) x ↔ geneve_conditions x
unfolding WellFormed
geneve_stated = elim [
  | geneve.Df x ↦ number_label geneve_df_table_holds 256
      (λ y. geneve.Df y) geneve_conditions (λ _ is. is) (λ _ is. is) x
  | geneve.Other d ↦ unknown_label (λ z. geneve.Other z) geneve_attribute
      geneve_rows geneve_is_other (λ _. refl) (λ _. refl)
      (are_typed geneve_is_other geneve_rows refl) d
  | _ ↦ (λ w. subst geneve_conditions w.2 w.1, λ h. (_, h, refl))
]
