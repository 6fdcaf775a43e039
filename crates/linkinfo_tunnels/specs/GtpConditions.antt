-- Written by tables/generate from tables/gtp.
-- Which attributes are well formed, by the variant of each, in the data of
-- `gtp` links.
use Rattle.std.specs.Prelude.{◌↔◌, ◌<◌, ◌^◌, Bool, true, false, refl}
use Rattle.std.proofs.Common.{subst}
use Rattle.linkinfo_shapes.specs.Shapes.{IsIpv4, IsIpv6}
use Rattle.linkinfo_numbers.specs.Table.{IsNumber, number_label}
use Rattle.linkinfo_table.specs.Conditions.{IsUnknown, are_typed, unknown_label}
use Rattle.linkinfo_table.specs.FamilyRows.{row_of, table_row}
use Rattle.linkinfo_table.specs.Rows.{WellFormed}
use Rattle.linkinfo_numbers.specs.Gtp.{gtp_role_table, gtp_role_table_holds}
use Rattle.linkinfo_tunnels.specs.Gtp.{gtp_attribute, gtp_rows}
use Rattle.linkinfo_tunnels.specs.declared.gtp.InfoGtp.{InfoGtp}
use Rattle.linkinfo_tunnels.specs.declared.gtp.InfoGtp.TheVariants as gtp

abbrev pub gtp_conditions : InfoGtp → Type 0
gtp_conditions (gtp.Fd0 n) = n < 2 ^ 32
gtp_conditions (gtp.Fd1 n) = n < 2 ^ 32
gtp_conditions (gtp.PdpHashsize n) = n < 2 ^ 32
gtp_conditions (gtp.Role x) = IsNumber gtp_role_table (2 ^ 32) x
gtp_conditions (gtp.RestartCount n) = n < 256
gtp_conditions (gtp.Local a) = IsIpv4 a
gtp_conditions (gtp.Local6 a) = IsIpv6 a
gtp_conditions (gtp.Other d) = IsUnknown gtp_rows d
gtp_conditions _ = Unit {0}

abbrev gtp_is_other : InfoGtp → Bool
gtp_is_other (gtp.Other d) = true
gtp_is_other _ = false

pub gtp_stated : (x : InfoGtp) → WellFormed (λ d. gtp.Other d) gtp_attribute
    (λ n. row_of (table_row gtp_rows n)) x ↔ gtp_conditions x
unfolding WellFormed
gtp_stated = elim [
  | gtp.Role x ↦ number_label gtp_role_table_holds (2 ^ 32)
      (λ y. gtp.Role y) gtp_conditions (λ _ is. is) (λ _ is. is) x
  | gtp.Other d ↦ unknown_label (λ z. gtp.Other z) gtp_attribute gtp_rows gtp_is_other
      (λ _. refl) (λ _. refl) (are_typed gtp_is_other gtp_rows refl) d
  | _ ↦ (λ w. subst gtp_conditions w.2 w.1, λ h. (_, h, refl))
]
