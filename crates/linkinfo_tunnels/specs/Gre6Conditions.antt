-- Written by tables/generate from tables/gre6.
-- Which attributes are well formed, by the variant of each, in the data of
-- `ip6gre`, `ip6gretap` and `ip6erspan` links.
use Rattle.std.specs.Prelude.{◌↔◌, ◌<◌, ◌^◌, Bool, true, false, refl}
use Rattle.std.proofs.Common.{subst}
use Rattle.linkinfo_shapes.specs.Shapes.{IsIpv6}
use Rattle.linkinfo_numbers.specs.Table.{IsNumber, number_label}
use Rattle.linkinfo_table.specs.Conditions.{IsUnknown, are_typed, unknown_label}
use Rattle.linkinfo_table.specs.FamilyRows.{row_of, table_row}
use Rattle.linkinfo_table.specs.Rows.{WellFormed}
use Rattle.linkinfo_numbers.specs.Gre.{
  gre_encap_type_table,
  gre_encap_type_table_holds,
  er_span_dir_table,
  er_span_dir_table_holds,
}
use Rattle.linkinfo_tunnels.specs.Gre6.{gre6_attribute, gre6_rows}
use Rattle.linkinfo_tunnels.specs.declared.gre6.InfoGre6.{InfoGre6}
use Rattle.linkinfo_tunnels.specs.declared.gre6.InfoGre6.TheVariants as gre6

abbrev pub gre6_conditions : InfoGre6 → Type 0
gre6_conditions (gre6.Link n) = n < 2 ^ 32
gre6_conditions (gre6.IFlags x) = x.0 < 2 ^ 16
gre6_conditions (gre6.OFlags x) = x.0 < 2 ^ 16
gre6_conditions (gre6.IKey n) = n < 2 ^ 32
gre6_conditions (gre6.OKey n) = n < 2 ^ 32
gre6_conditions (gre6.Local a) = IsIpv6 a
gre6_conditions (gre6.Remote a) = IsIpv6 a
gre6_conditions (gre6.Ttl n) = n < 256
gre6_conditions (gre6.Tos n) = n < 256
gre6_conditions (gre6.EncapLimit n) = n < 256
gre6_conditions (gre6.FlowLabel n) = n < 2 ^ 32
gre6_conditions (gre6.EncapType x) = IsNumber gre_encap_type_table (2 ^ 16) x
gre6_conditions (gre6.EncapFlags x) = x.0 < 2 ^ 16
gre6_conditions (gre6.SourcePort n) = n < 2 ^ 16
gre6_conditions (gre6.DestinationPort n) = n < 2 ^ 16
gre6_conditions (gre6.FwMask n) = n < 2 ^ 32
gre6_conditions (gre6.ErSpanIndex n) = n < 2 ^ 32
gre6_conditions (gre6.ErSpanVer n) = n < 256
gre6_conditions (gre6.ErSpanDir x) = IsNumber er_span_dir_table 256 x
gre6_conditions (gre6.ErSpanHwId n) = n < 2 ^ 16
gre6_conditions (gre6.Other d) = IsUnknown gre6_rows d
gre6_conditions _ = Unit {0}

abbrev gre6_is_other : InfoGre6 → Bool
gre6_is_other (gre6.Other d) = true
gre6_is_other _ = false

pub gre6_stated : (x : InfoGre6) → WellFormed (λ d. gre6.Other d) gre6_attribute
    (λ n. row_of (table_row gre6_rows n)) x ↔ gre6_conditions x
unfolding WellFormed
gre6_stated = elim [
  | gre6.EncapType x ↦ number_label gre_encap_type_table_holds (2 ^ 16)
      (λ y. gre6.EncapType y) gre6_conditions (λ _ is. is) (λ _ is. is) x
  | gre6.ErSpanDir x ↦ number_label er_span_dir_table_holds 256
      (λ y. gre6.ErSpanDir y) gre6_conditions (λ _ is. is) (λ _ is. is) x
  | gre6.Other d ↦ unknown_label (λ z. gre6.Other z) gre6_attribute gre6_rows gre6_is_other
      (λ _. refl) (λ _. refl) (are_typed gre6_is_other gre6_rows refl) d
  | _ ↦ (λ w. subst gre6_conditions w.2 w.1, λ h. (_, h, refl))
]
