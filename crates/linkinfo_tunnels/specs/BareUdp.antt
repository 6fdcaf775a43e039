-- Written by tables/generate from tables/bareudp.
-- The rows of `bareudp` links.
use Rattle.std.specs.Prelude.{List, [], ◌∷◌, refl}
use Rattle.std.proofs.Common.{ap}
use Rattle.nla_frame.specs.Attribute.{Attribute}
use Rattle.nla_frame.specs.Kept.{attribute_of}
use Rattle.linkinfo_table.specs.FamilyRows.{PlainRow, row, typed, EachKeeps}
use Rattle.linkinfo_shapes.specs.declared.shape.Shape.TheVariants.{Be16, Le16, Mark}
use Rattle.linkinfo_numbers.specs.Table.{key-value_of}
use Rattle.linkinfo_numbers.specs.Ethernet.{
  ethernet_protocol,
  ethernet_protocol_number,
  ethernet_protocol_table_holds,
}
use Rattle.linkinfo_table.specs.Labels.{each_keeps}
use Rattle.linkinfo_tunnels.specs.declared.bare_udp.InfoBareUdp.{InfoBareUdp}
use Rattle.linkinfo_tunnels.specs.declared.bare_udp.InfoBareUdp.TheVariants.{
  Port,
  Ethertype,
  SrcPortMin,
  MultiprotoMode,
  Other,
}

abbrev pub bare_udp_rows : List (PlainRow InfoBareUdp)
bare_udp_rows =
    row 1 Be16 (λ n. Port n) ∷
    row 2 Be16 (λ n. Ethertype (ethernet_protocol n)) ∷
    row 3 Le16 (λ n. SrcPortMin n) ∷
    row 4 Mark (λ _. MultiprotoMode) ∷
    []

abbrev pub bare_udp_attribute : InfoBareUdp → Attribute
bare_udp_attribute (Port n) = typed 1 Be16 n
bare_udp_attribute (Ethertype protocol) = typed 2 Be16 (ethernet_protocol_number protocol)
bare_udp_attribute (SrcPortMin n) = typed 3 Le16 n
bare_udp_attribute MultiprotoMode = typed 4 Mark tt
bare_udp_attribute (Other nla) = attribute_of nla

pub bare_udp_keeps : EachKeeps bare_udp_attribute bare_udp_rows
bare_udp_keeps = each_keeps bare_udp_attribute bare_udp_rows refl (
  λ n. refl,
  (
    λ n. ap (typed 2 Be16) (key-value_of ethernet_protocol_table_holds n),
    (λ n. refl, (λ _. refl, tt)),
  ),
)
