-- Written by tables/generate from tables/gre.
-- Which attributes are well formed, by the variant of each, in the data of
-- `gre`, `gretap` and `erspan` links.
use Rattle.std.specs.Prelude.{◌↔◌, ◌<◌, ◌^◌, Bool, true, false, refl}
use Rattle.std.proofs.Common.{subst}
use Rattle.linkinfo_shapes.specs.Shapes.{IsIpv4}
use Rattle.linkinfo_numbers.specs.Table.{IsNumber, number_label}
use Rattle.linkinfo_table.specs.Conditions.{IsUnknown, are_typed, unknown_label}
use Rattle.linkinfo_table.specs.FamilyRows.{row_of, table_row}
use Rattle.linkinfo_table.specs.Rows.{WellFormed}
use Rattle.linkinfo_numbers.specs.Gre.{
  gre_encap_type_table,
  gre_encap_type_table_holds,
  er_span_dir_table,
  er_span_dir_table_holds,
}
use Rattle.linkinfo_tunnels.specs.Gre.{gre_attribute, gre_rows}
use Rattle.linkinfo_tunnels.specs.declared.gre.InfoGre.{InfoGre}
use Rattle.linkinfo_tunnels.specs.declared.gre.InfoGre.TheVariants as gre

abbrev pub gre_conditions : InfoGre → Type 0
gre_conditions (gre.Link n) = n < 2 ^ 32
gre_conditions (gre.IFlags x) = x.0 < 2 ^ 16
gre_conditions (gre.OFlags x) = x.0 < 2 ^ 16
gre_conditions (gre.IKey n) = n < 2 ^ 32
gre_conditions (gre.OKey n) = n < 2 ^ 32
gre_conditions (gre.Local a) = IsIpv4 a
gre_conditions (gre.Remote a) = IsIpv4 a
gre_conditions (gre.Ttl n) = n < 256
gre_conditions (gre.Tos n) = n < 256
gre_conditions (gre.EncapType x) = IsNumber gre_encap_type_table (2 ^ 16) x
gre_conditions (gre.EncapFlags x) = x.0 < 2 ^ 16
gre_conditions (gre.SourcePort n) = n < 2 ^ 16
gre_conditions (gre.DestinationPort n) = n < 2 ^ 16
gre_conditions (gre.FwMask n) = n < 2 ^ 32
gre_conditions (gre.ErSpanIndex n) = n < 2 ^ 32
gre_conditions (gre.ErSpanVer n) = n < 256
gre_conditions (gre.ErSpanDir x) = IsNumber er_span_dir_table 256 x
gre_conditions (gre.ErSpanHwId n) = n < 2 ^ 16
gre_conditions (gre.Other d) = IsUnknown gre_rows d
gre_conditions _ = Unit {0}

abbrev gre_is_other : InfoGre → Bool
gre_is_other (gre.Other d) = true
gre_is_other _ = false

pub gre_stated : (x : InfoGre) → WellFormed (λ d. gre.Other d) gre_attribute
    (λ n. row_of (table_row gre_rows n)) x ↔ gre_conditions x
unfolding WellFormed
gre_stated = elim [
  | gre.EncapType x ↦ number_label gre_encap_type_table_holds (2 ^ 16)
      (λ y. gre.EncapType y) gre_conditions (λ _ is. is) (λ _ is. is) x
  | gre.ErSpanDir x ↦ number_label er_span_dir_table_holds 256
      (λ y. gre.ErSpanDir y) gre_conditions (λ _ is. is) (λ _ is. is) x
  | gre.Other d ↦ unknown_label (λ z. gre.Other z) gre_attribute gre_rows gre_is_other
      (λ _. refl) (λ _. refl) (are_typed gre_is_other gre_rows refl) d
  | _ ↦ (λ w. subst gre_conditions w.2 w.1, λ h. (_, h, refl))
]
