-- Written by tables/generate from tables/bondport.
-- The rows of ports of bonds.
use Rattle.std.specs.Prelude.{List, [], ◌∷◌, refl}
use Rattle.std.proofs.Common.{ap}
use Rattle.nla_frame.specs.Attribute.{Attribute}
use Rattle.nla_frame.specs.Kept.{attribute_of}
use Rattle.nla_frame.specs.Pairs.{◌&◌}
use Rattle.linkinfo_table.specs.FamilyRows.{PlainRow, row, typed, EachKeeps}
use Rattle.linkinfo_shapes.specs.declared.shape.Shape.TheVariants.{U8, Le32, Raw, Le16, I32}
use Rattle.linkinfo_numbers.specs.Table.{key-value_of}
use Rattle.linkinfo_numbers.specs.Bond.{
  bond_port_state,
  bond_port_state_number,
  bond_port_state_table_holds,
  mii_status,
  mii_status_number,
  mii_status_table_holds,
  churn_state,
  churn_state_number,
  churn_state_table_holds,
  lacp_state,
  lacp_state16,
}
use Rattle.linkinfo_table.specs.Labels.{each_keeps}
use Rattle.linkinfo_typed.specs.declared.bond_port.InfoBondPort.{InfoBondPort}
use Rattle.linkinfo_typed.specs.declared.bond_port.InfoBondPort.TheVariants.{
  BondPortState,
  MiiStatus,
  LinkFailureCount,
  PermHwaddr,
  QueueId,
  AdAggregatorId,
  AdActorOperPortState,
  AdPartnerOperPortState,
  Prio,
  ActorPortPrio,
  AdChurnActorState,
  AdChurnPartnerState,
  Other,
}

abbrev pub bond_port_rows : List (PlainRow InfoBondPort)
bond_port_rows =
    row 1 U8 (λ n. BondPortState (bond_port_state n)) ∷
    row 2 U8 (λ n. MiiStatus (mii_status n)) ∷
    row 3 Le32 (λ n. LinkFailureCount n) ∷
    row 4 Raw (λ bytes. PermHwaddr bytes) ∷
    row 5 Le16 (λ n. QueueId n) ∷
    row 6 Le16 (λ n. AdAggregatorId n) ∷
    row 7 U8 (λ n. AdActorOperPortState (lacp_state n)) ∷
    row 8 Le16 (λ n. AdPartnerOperPortState (lacp_state16 n)) ∷
    row 9 I32 (λ z. Prio z) ∷
    row 10 Le16 (λ n. ActorPortPrio n) ∷
    row 11 U8 (λ n. AdChurnActorState (churn_state n)) ∷
    row 12 U8 (λ n. AdChurnPartnerState (churn_state n)) ∷
    []

abbrev pub bond_port_attribute : InfoBondPort → Attribute
bond_port_attribute (BondPortState state) = typed 1 U8 (bond_port_state_number state)
bond_port_attribute (MiiStatus status) = typed 2 U8 (mii_status_number status)
bond_port_attribute (LinkFailureCount n) = typed 3 Le32 n
bond_port_attribute (PermHwaddr bytes) = typed 4 Raw bytes
bond_port_attribute (QueueId n) = typed 5 Le16 n
bond_port_attribute (AdAggregatorId n) = typed 6 Le16 n
bond_port_attribute (AdActorOperPortState x) = typed 7 U8 x.0
bond_port_attribute (AdPartnerOperPortState x) = typed 8 Le16 x.0
bond_port_attribute (Prio z) = typed 9 I32 z
bond_port_attribute (ActorPortPrio n) = typed 10 Le16 n
bond_port_attribute (AdChurnActorState churn) = typed 11 U8 (churn_state_number churn)
bond_port_attribute (AdChurnPartnerState churn) = typed 12 U8 (churn_state_number churn)
bond_port_attribute (Other nla) = attribute_of nla

pub bond_port_keeps : EachKeeps bond_port_attribute bond_port_rows
bond_port_keeps = each_keeps bond_port_attribute bond_port_rows refl
    ((λ n. ap (typed 1 U8) (key-value_of bond_port_state_table_holds n))
    & (λ n. ap (typed 2 U8) (key-value_of mii_status_table_holds n))
    & (λ n. refl)
    & (λ bytes. refl)
    & (λ n. refl)
    & (λ n. refl)
    & (λ n. refl)
    & (λ n. refl)
    & (λ z. refl)
    & (λ n. refl)
    & (λ n. ap (typed 11 U8) (key-value_of churn_state_table_holds n))
    & (λ n. ap (typed 12 U8) (key-value_of churn_state_table_holds n))
    & tt)
