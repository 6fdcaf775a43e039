-- Written by tables/generate from tables/bareudp.
-- Which attributes are well formed, by the variant of each, in the data of
-- `bareudp` links.
use Rattle.std.specs.Prelude.{◌↔◌, ◌<◌, ◌^◌, Bool, true, false, refl}
use Rattle.std.proofs.Common.{subst}
use Rattle.linkinfo_numbers.specs.Table.{IsNumber, number_label}
use Rattle.linkinfo_table.specs.Conditions.{IsUnknown, are_typed, unknown_label}
use Rattle.linkinfo_table.specs.FamilyRows.{row_of, table_row}
use Rattle.linkinfo_table.specs.Rows.{WellFormed}
use Rattle.linkinfo_numbers.specs.Ethernet.{ethernet_protocol_table, ethernet_protocol_table_holds}
use Rattle.linkinfo_tunnels.specs.BareUdp.{bare_udp_attribute, bare_udp_rows}
use Rattle.linkinfo_tunnels.specs.declared.bare_udp.InfoBareUdp.{InfoBareUdp}
use Rattle.linkinfo_tunnels.specs.declared.bare_udp.InfoBareUdp.TheVariants as bare_udp

abbrev pub bare_udp_conditions : InfoBareUdp → Type 0
bare_udp_conditions (bare_udp.Port n) = n < 2 ^ 16
bare_udp_conditions (bare_udp.Ethertype x) = IsNumber ethernet_protocol_table (2 ^ 16) x
bare_udp_conditions (bare_udp.SrcPortMin n) = n < 2 ^ 16
bare_udp_conditions (bare_udp.Other d) = IsUnknown bare_udp_rows d
bare_udp_conditions _ = Unit {0}

abbrev bare_udp_is_other : InfoBareUdp → Bool
bare_udp_is_other (bare_udp.Other d) = true
bare_udp_is_other _ = false

pub bare_udp_stated : (x : InfoBareUdp) → WellFormed (λ d. bare_udp.Other d) bare_udp_attribute
    (λ n. row_of (table_row bare_udp_rows n)) x ↔ bare_udp_conditions x
unfolding WellFormed
bare_udp_stated = elim [
  | bare_udp.Ethertype x ↦ number_label ethernet_protocol_table_holds (2 ^ 16)
      (λ y. bare_udp.Ethertype y) bare_udp_conditions (λ _ is. is) (λ _ is. is) x
  | bare_udp.Other d ↦ unknown_label (λ z. bare_udp.Other z) bare_udp_attribute
      bare_udp_rows bare_udp_is_other (λ _. refl) (λ _. refl)
      (are_typed bare_udp_is_other bare_udp_rows refl) d
  | _ ↦ (λ w. subst bare_udp_conditions w.2 w.1, λ h. (_, h, refl))
]
