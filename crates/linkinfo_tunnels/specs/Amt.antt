-- Written by tables/generate from tables/amt.
-- The rows of `amt` links.
use Rattle.std.specs.Prelude.{List, [], ◌∷◌, refl}
use Rattle.std.proofs.Common.{ap}
use Rattle.nla_frame.specs.Attribute.{Attribute}
use Rattle.nla_frame.specs.Kept.{attribute_of}
use Rattle.nla_frame.specs.Pairs.{◌&◌}
use Rattle.linkinfo_table.specs.FamilyRows.{PlainRow, row, typed, EachKeeps}
use Rattle.linkinfo_shapes.specs.declared.shape.Shape.TheVariants.{Le32, Be16, Ip}
use Rattle.linkinfo_numbers.specs.Table.{key-value_of}
use Rattle.linkinfo_numbers.specs.Amt.{amt_mode, amt_mode_number, amt_mode_table_holds}
use Rattle.linkinfo_table.specs.Labels.{each_keeps}
use Rattle.linkinfo_tunnels.specs.declared.amt.InfoAmt.{InfoAmt}
use Rattle.linkinfo_tunnels.specs.declared.amt.InfoAmt.TheVariants.{
  Mode,
  RelayPort,
  GatewayPort,
  Link,
  LocalIp,
  RemoteIp,
  DiscoveryIp,
  MaxTunnels,
  Other,
}

abbrev pub amt_rows : List (PlainRow InfoAmt)
amt_rows =
    row 1 Le32 (λ n. Mode (amt_mode n)) ∷
    row 2 Be16 (λ n. RelayPort n) ∷
    row 3 Be16 (λ n. GatewayPort n) ∷
    row 4 Le32 (λ n. Link n) ∷
    row 5 Ip (λ a. LocalIp a) ∷
    row 6 Ip (λ a. RemoteIp a) ∷
    row 7 Ip (λ a. DiscoveryIp a) ∷
    row 8 Le32 (λ n. MaxTunnels n) ∷
    []

abbrev pub amt_attribute : InfoAmt → Attribute
amt_attribute (Mode mode) = typed 1 Le32 (amt_mode_number mode)
amt_attribute (RelayPort n) = typed 2 Be16 n
amt_attribute (GatewayPort n) = typed 3 Be16 n
amt_attribute (Link n) = typed 4 Le32 n
amt_attribute (LocalIp a) = typed 5 Ip a
amt_attribute (RemoteIp a) = typed 6 Ip a
amt_attribute (DiscoveryIp a) = typed 7 Ip a
amt_attribute (MaxTunnels n) = typed 8 Le32 n
amt_attribute (Other nla) = attribute_of nla

pub amt_keeps : EachKeeps amt_attribute amt_rows
amt_keeps = each_keeps amt_attribute amt_rows refl
    ((λ n. ap (typed 1 Le32) (key-value_of amt_mode_table_holds n))
    & (λ n. refl)
    & (λ n. refl)
    & (λ n. refl)
    & (λ a. refl)
    & (λ a. refl)
    & (λ a. refl)
    & (λ n. refl)
    & tt)
