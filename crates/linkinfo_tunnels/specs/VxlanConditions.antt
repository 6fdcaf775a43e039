-- Written by tables/generate from tables/vxlan.
-- Which attributes are well formed, by the variant of each, in the data of
-- `vxlan` links.
use Rattle.std.specs.Prelude.{
  ◌≡◌,
  ◌↔◌,
  ℕ,
  ◌<◌,
  ◌^◌,
  Bool,
  true,
  false,
  drop,
  take,
  Option,
  Some,
  None,
  refl,
}
use Rattle.std.proofs.Common.{subst}
use Rattle.linkinfo_shapes.specs.Shapes.{Holds, IsIpv4, IsIpv6}
use Rattle.linkinfo_shapes.specs.declared.shape.Shape.TheVariants.{EmptyOrByte}
use Rattle.linkinfo_numbers.specs.Table.{IsNumber, number_label}
use Rattle.linkinfo_table.specs.Conditions.{
  AreTyped,
  IsUnknown,
  are_typed,
  typed_before,
  unknown_label,
}
use Rattle.linkinfo_table.specs.FamilyRows.{row_of, table_row}
use Rattle.linkinfo_table.specs.Rows.{WellFormed}
use Rattle.linkinfo_numbers.specs.Vxlan.{vxlan_df_table, vxlan_df_table_holds}
use Rattle.linkinfo_tunnels.specs.Vxlan.{ttl_inherit, vxlan_attribute, vxlan_rows}
use Rattle.linkinfo_tunnels.specs.declared.vxlan.InfoVxlan.{InfoVxlan}
use Rattle.linkinfo_tunnels.specs.declared.vxlan.InfoVxlan.TheVariants as vxlan

abbrev pub vxlan_conditions : InfoVxlan → Type 0
vxlan_conditions (vxlan.Id n) = n < 2 ^ 32
vxlan_conditions (vxlan.Group a) = IsIpv4 a
vxlan_conditions (vxlan.Link n) = n < 2 ^ 32
vxlan_conditions (vxlan.Local a) = IsIpv4 a
vxlan_conditions (vxlan.Ttl n) = n < 256
vxlan_conditions (vxlan.Tos n) = n < 256
vxlan_conditions (vxlan.Ageing n) = n < 2 ^ 32
vxlan_conditions (vxlan.Limit n) = n < 2 ^ 32
vxlan_conditions (vxlan.PortRange x) = (x.0 < 2 ^ 16) × (x.1 < 2 ^ 16)
vxlan_conditions (vxlan.Port n) = n < 2 ^ 16
vxlan_conditions (vxlan.Group6 a) = IsIpv6 a
vxlan_conditions (vxlan.Local6 a) = IsIpv6 a
vxlan_conditions (vxlan.Label n) = n < 2 ^ 32
vxlan_conditions (vxlan.TtlInherit n) = n < 256
vxlan_conditions (vxlan.Df x) = IsNumber vxlan_df_table 256 x
vxlan_conditions (vxlan.LabelPolicy n) = n < 2 ^ 32
vxlan_conditions (vxlan.ReservedBits n) = n < 2 ^ 64
vxlan_conditions (vxlan.Other d) = IsUnknown vxlan_rows d
vxlan_conditions _ = Unit {0}

abbrev vxlan_is_other : InfoVxlan → Bool
vxlan_is_other (vxlan.Other d) = true
vxlan_is_other _ = false

-- type 28 has two variants
ttl_typed : (x : Option ℕ) → vxlan_is_other (ttl_inherit x) ≡ false
ttl_typed None = refl
ttl_typed (Some n) = refl

ttl_byte : (x : Option ℕ) → Holds EmptyOrByte x → vxlan_conditions (ttl_inherit x)
ttl_byte None h = tt
ttl_byte (Some n) h = h

vxlan_typed : AreTyped vxlan_is_other vxlan_rows
vxlan_typed =
    typed_before vxlan_is_other (take 27 vxlan_rows) (drop 27 vxlan_rows)
    (are_typed vxlan_is_other (take 27 vxlan_rows) refl)
    (ttl_typed, are_typed vxlan_is_other (drop 28 vxlan_rows) refl)

pub vxlan_stated : (x : InfoVxlan) → WellFormed (λ d. vxlan.Other d) vxlan_attribute
    (λ n. row_of (table_row vxlan_rows n)) x ↔ vxlan_conditions x
unfolding WellFormed
vxlan_stated = elim [
  | vxlan.Df x ↦ number_label vxlan_df_table_holds 256
      (λ y. vxlan.Df y) vxlan_conditions (λ _ is. is) (λ _ is. is) x
  | vxlan.Other d ↦ unknown_label (λ z. vxlan.Other z) vxlan_attribute vxlan_rows vxlan_is_other
      (λ _. refl) (λ _. refl) vxlan_typed d
  | vxlan.TtlInheritFlag ↦ (λ w. tt, λ h. (None, tt, refl))
  | vxlan.TtlInherit n ↦
      (λ w. subst vxlan_conditions w.2 (ttl_byte w.0 w.1), λ h. (Some n, h, refl))
  | _ ↦ (λ w. subst vxlan_conditions w.2 w.1, λ h. (_, h, refl))
]
