-- Written by tables/generate from tables/bridgequerierstate.
-- The rows of `IFLA_BR_MCAST_QUERIER_STATE` of a `bridge` link.
use Rattle.std.specs.Prelude.{false, List, [], ◌∷◌, refl}
use Rattle.nla_frame.specs.Attribute.{Attribute}
use Rattle.nla_frame.specs.Kept.{attribute_of}
use Rattle.nla_frame.specs.declared.error.Family.TheVariants as family
use Rattle.linkinfo_table.specs.ByRows.{members_with, table_is_family}
use Rattle.linkinfo_table.specs.Contents.{single_value}
use Rattle.linkinfo_table.specs.FamilyRows.{PlainRow, row, table_row, typed, EachKeeps}
use Rattle.linkinfo_table.specs.Members.{IsFamily, Members}
use Rattle.linkinfo_shapes.specs.declared.shape.Shape.TheVariants.{V4, Le32, Le64, V6}
use Rattle.linkinfo_table.specs.Labels.{each_keeps}
use Rattle.linkinfo_typed.specs.declared.bridge_querier_state.BridgeQuerierState.{
  BridgeQuerierState,
}
use Rattle.linkinfo_typed.specs.declared.bridge_querier_state.BridgeQuerierState.TheVariants.{
  Ipv4Address,
  Ipv4Port,
  Ipv4OtherTimer,
  Ipv6Address,
  Ipv6Port,
  Ipv6OtherTimer,
  Other,
}

abbrev pub bridge_querier_state_rows : List (PlainRow BridgeQuerierState)
bridge_querier_state_rows =
    row 1 V4 (λ a. Ipv4Address a) ∷
    row 2 Le32 (λ n. Ipv4Port n) ∷
    row 3 Le64 (λ n. Ipv4OtherTimer n) ∷
    row 5 V6 (λ a. Ipv6Address a) ∷
    row 6 Le32 (λ n. Ipv6Port n) ∷
    row 7 Le64 (λ n. Ipv6OtherTimer n) ∷
    []

abbrev pub bridge_querier_state_attribute : BridgeQuerierState → Attribute
bridge_querier_state_attribute (Ipv4Address a) = typed 1 V4 a
bridge_querier_state_attribute (Ipv4Port n) = typed 2 Le32 n
bridge_querier_state_attribute (Ipv4OtherTimer n) = typed 3 Le64 n
bridge_querier_state_attribute (Ipv6Address a) = typed 5 V6 a
bridge_querier_state_attribute (Ipv6Port n) = typed 6 Le32 n
bridge_querier_state_attribute (Ipv6OtherTimer n) = typed 7 Le64 n
bridge_querier_state_attribute (Other nla) = attribute_of nla

pub bridge_querier_state_keeps : EachKeeps bridge_querier_state_attribute bridge_querier_state_rows
bridge_querier_state_keeps =
    each_keeps bridge_querier_state_attribute bridge_querier_state_rows refl
    (λ a. refl, (λ n. refl, (λ n. refl, (λ a. refl, (λ n. refl, (λ n. refl, tt))))))

-- what the family defines, and that it is lawful
abbrev pub bridge_querier_state_members : Members BridgeQuerierState
bridge_querier_state_members =
    members_with family.BridgeQuerierState (λ d. Other d) bridge_querier_state_attribute
    (λ n. table_row bridge_querier_state_rows n) (λ _. 0) (λ _. single_value) false

pub bridge_querier_state_lawful : IsFamily bridge_querier_state_members
bridge_querier_state_lawful =
    table_is_family family.BridgeQuerierState (λ d. Other d) bridge_querier_state_attribute
    bridge_querier_state_rows bridge_querier_state_keeps (λ _. refl)
