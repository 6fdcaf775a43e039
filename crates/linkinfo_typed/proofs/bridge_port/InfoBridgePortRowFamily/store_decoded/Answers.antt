-- Written by tables/generate from tables/bridgeport.
-- A type without a row in the list has no row in the table. For any other type the table says which
-- value is stored. A search would read the whole table once per row.
use Rattle.std.proofs.Common.{ap, rules, refl}
use Rattle.linkinfo_table.specs.FamilyRowLaws.{no_row_read, row_stored}
use Rattle.linkinfo_typed.specs.declared.bridge_port.InfoBridgePort.TheVariants.{
  State,
  MulticastRouter,
  NeighVlanSupress,
  NeighForwardGrat,
  Other,
}
use Rattle.linkinfo_typed.specs.BridgePort.{bridge_port_plain, bridge_port_rows, bridge_port_suits}
use Rattle.linkinfo_typed.proofs.bridge_port.InfoBridgePortRowFamily.store_decoded.Goals as goal

pub store_by_rows-unreachable-requires : goal.store_by_rows-unreachable-requires
store_by_rows-unreachable-requires g c =
    no_row_read bridge_port_plain c.args.decoded c.in-Typed-store_by_rows.field-0
    c.in-Typed-store_by_rows.field-1 c.in-Typed-store_by_rows.is (search rules)
    (bridge_port_suits c.args.decoded c.requires)

pub unreachable-store_by_rows : goal.unreachable-store_by_rows
unreachable-store_by_rows g c =
    no_row_read bridge_port_plain c.args.decoded c.in-Typed-store_by_rows.field-0
    c.in-Typed-store_by_rows.field-1 c.in-Typed-store_by_rows.is (search rules)
    (bridge_port_suits c.args.decoded c.requires)

pub returns-in-1 : goal.returns-in-1
returns-in-1 g c =
    row_stored (g.P.Slot.with c.args.slot.now) (λ d. Other d) _ _ _ (λ n. bridge_port_rows n) refl
    c.in-Typed-store_by_rows.is c.in-1.is c.requires c.store_by_rows-u8_or_zero.ensures.0
    (ap (λ x. State x) c.store_by_rows-from.ensures) c.store_by_rows-store-in-1.ensures

pub returns-in-2 : goal.returns-in-2
returns-in-2 g c =
    row_stored (g.P.Slot.with c.args.slot.now) (λ d. Other d) _ _ _ (λ n. bridge_port_rows n) refl
    c.in-Typed-store_by_rows.is c.in-2.is c.requires c.store_by_rows-u16_or_zero.ensures.le16.0 refl
    c.store_by_rows-store-in-2.ensures

pub returns-in-3 : goal.returns-in-3
returns-in-3 g c =
    row_stored (g.P.Slot.with c.args.slot.now) (λ d. Other d) _ _ _ (λ n. bridge_port_rows n) refl
    c.in-Typed-store_by_rows.is c.in-3.is c.requires c.store_by_rows-u32_or_zero.ensures.le32.0 refl
    c.store_by_rows-store-in-3.ensures

pub returns-in-4 : goal.returns-in-4
returns-in-4 g c =
    row_stored (g.P.Slot.with c.args.slot.now) (λ d. Other d) _ _ _ (λ n. bridge_port_rows n) refl
    c.in-Typed-store_by_rows.is c.in-4.is c.requires c.store_by_rows-bool_or_false.ensures.truth.0
    refl c.store_by_rows-store-in-4.ensures

pub returns-in-5 : goal.returns-in-5
returns-in-5 g c =
    row_stored (g.P.Slot.with c.args.slot.now) (λ d. Other d) _ _ _ (λ n. bridge_port_rows n) refl
    c.in-Typed-store_by_rows.is c.in-5.is c.requires
    c.store_by_rows-bool_or_false-in-5.ensures.truth.0 refl c.store_by_rows-store-in-5.ensures

pub returns-in-6 : goal.returns-in-6
returns-in-6 g c =
    row_stored (g.P.Slot.with c.args.slot.now) (λ d. Other d) _ _ _ (λ n. bridge_port_rows n) refl
    c.in-Typed-store_by_rows.is c.in-6.is c.requires
    c.store_by_rows-bool_or_false-in-6.ensures.truth.0 refl c.store_by_rows-store-in-6.ensures

pub returns-in-7 : goal.returns-in-7
returns-in-7 g c =
    row_stored (g.P.Slot.with c.args.slot.now) (λ d. Other d) _ _ _ (λ n. bridge_port_rows n) refl
    c.in-Typed-store_by_rows.is c.in-7.is c.requires
    c.store_by_rows-bool_or_false-in-7.ensures.truth.0 refl c.store_by_rows-store-in-7.ensures

pub returns-in-8 : goal.returns-in-8
returns-in-8 g c =
    row_stored (g.P.Slot.with c.args.slot.now) (λ d. Other d) _ _ _ (λ n. bridge_port_rows n) refl
    c.in-Typed-store_by_rows.is c.in-8.is c.requires
    c.store_by_rows-bool_or_false-in-8.ensures.truth.0 refl c.store_by_rows-store-in-8.ensures

pub returns-in-9 : goal.returns-in-9
returns-in-9 g c =
    row_stored (g.P.Slot.with c.args.slot.now) (λ d. Other d) _ _ _ (λ n. bridge_port_rows n) refl
    c.in-Typed-store_by_rows.is c.in-9.is c.requires
    c.store_by_rows-bool_or_false-in-9.ensures.truth.0 refl c.store_by_rows-store-in-9.ensures

pub returns-in-10 : goal.returns-in-10
returns-in-10 g c =
    row_stored (g.P.Slot.with c.args.slot.now) (λ d. Other d) _ _ _ (λ n. bridge_port_rows n) refl
    c.in-Typed-store_by_rows.is c.in-10.is c.requires
    c.store_by_rows-bool_or_false-in-10.ensures.truth.0 refl c.store_by_rows-store-in-10.ensures

pub returns-in-11 : goal.returns-in-11
returns-in-11 g c =
    row_stored (g.P.Slot.with c.args.slot.now) (λ d. Other d) _ _ _ (λ n. bridge_port_rows n) refl
    c.in-Typed-store_by_rows.is c.in-11.is c.requires
    c.store_by_rows-bool_or_false-in-11.ensures.truth.0 refl c.store_by_rows-store-in-11.ensures

pub returns-in-12 : goal.returns-in-12
returns-in-12 g c =
    row_stored (g.P.Slot.with c.args.slot.now) (λ d. Other d) _ _ _ (λ n. bridge_port_rows n) refl
    c.in-Typed-store_by_rows.is c.in-12.is c.requires
    c.store_by_rows-bool_or_false-in-12.ensures.truth.0 refl c.store_by_rows-store-in-12.ensures

pub returns-in-15 : goal.returns-in-15
returns-in-15 g c =
    row_stored (g.P.Slot.with c.args.slot.now) (λ d. Other d) _ _ _ (λ n. bridge_port_rows n) refl
    c.in-Typed-store_by_rows.is c.in-15.is c.requires
    c.store_by_rows-u16_or_zero-in-15.ensures.le16.0 refl c.store_by_rows-store-in-15.ensures

pub returns-in-16 : goal.returns-in-16
returns-in-16 g c =
    row_stored (g.P.Slot.with c.args.slot.now) (λ d. Other d) _ _ _ (λ n. bridge_port_rows n) refl
    c.in-Typed-store_by_rows.is c.in-16.is c.requires
    c.store_by_rows-u16_or_zero-in-16.ensures.le16.0 refl c.store_by_rows-store-in-16.ensures

pub returns-in-17 : goal.returns-in-17
returns-in-17 g c =
    row_stored (g.P.Slot.with c.args.slot.now) (λ d. Other d) _ _ _ (λ n. bridge_port_rows n) refl
    c.in-Typed-store_by_rows.is c.in-17.is c.requires
    c.store_by_rows-u16_or_zero-in-17.ensures.le16.0 refl c.store_by_rows-store-in-17.ensures

pub returns-in-18 : goal.returns-in-18
returns-in-18 g c =
    row_stored (g.P.Slot.with c.args.slot.now) (λ d. Other d) _ _ _ (λ n. bridge_port_rows n) refl
    c.in-Typed-store_by_rows.is c.in-18.is c.requires
    c.store_by_rows-u16_or_zero-in-18.ensures.le16.0 refl c.store_by_rows-store-in-18.ensures

pub returns-in-19 : goal.returns-in-19
returns-in-19 g c =
    row_stored (g.P.Slot.with c.args.slot.now) (λ d. Other d) _ _ _ (λ n. bridge_port_rows n) refl
    c.in-Typed-store_by_rows.is c.in-19.is c.requires
    c.store_by_rows-bool_or_false-in-19.ensures.truth.0 refl c.store_by_rows-store-in-19.ensures

pub returns-in-20 : goal.returns-in-20
returns-in-20 g c =
    row_stored (g.P.Slot.with c.args.slot.now) (λ d. Other d) _ _ _ (λ n. bridge_port_rows n) refl
    c.in-Typed-store_by_rows.is c.in-20.is c.requires
    c.store_by_rows-bool_or_false-in-20.ensures.truth.0 refl c.store_by_rows-store-in-20.ensures

pub returns-in-21 : goal.returns-in-21
returns-in-21 g c =
    row_stored (g.P.Slot.with c.args.slot.now) (λ d. Other d) _ _ _ (λ n. bridge_port_rows n) refl
    c.in-Typed-store_by_rows.is c.in-21.is c.requires c.store_by_rows-u64_or_zero.ensures.le64.0
    refl c.store_by_rows-store-in-21.ensures

pub returns-in-22 : goal.returns-in-22
returns-in-22 g c =
    row_stored (g.P.Slot.with c.args.slot.now) (λ d. Other d) _ _ _ (λ n. bridge_port_rows n) refl
    c.in-Typed-store_by_rows.is c.in-22.is c.requires
    c.store_by_rows-u64_or_zero-in-22.ensures.le64.0 refl c.store_by_rows-store-in-22.ensures

pub returns-in-23 : goal.returns-in-23
returns-in-23 g c =
    row_stored (g.P.Slot.with c.args.slot.now) (λ d. Other d) _ _ _ (λ n. bridge_port_rows n) refl
    c.in-Typed-store_by_rows.is c.in-23.is c.requires
    c.store_by_rows-u64_or_zero-in-23.ensures.le64.0 refl c.store_by_rows-store-in-23.ensures

pub returns-in-24 : goal.returns-in-24
returns-in-24 g c =
    row_stored (g.P.Slot.with c.args.slot.now) (λ d. Other d) _ _ _ (λ n. bridge_port_rows n) refl
    c.in-Typed-store_by_rows.is c.in-24.is c.requires (λ _. refl) refl
    c.store_by_rows-store-in-24.ensures

pub returns-in-25 : goal.returns-in-25
returns-in-25 g c =
    row_stored (g.P.Slot.with c.args.slot.now) (λ d. Other d) _ _ _ (λ n. bridge_port_rows n) refl
    c.in-Typed-store_by_rows.is c.in-25.is c.requires c.store_by_rows-u8_or_zero-in-25.ensures.0
    (ap (λ x. MulticastRouter x) c.store_by_rows-from-in-25.ensures)
    c.store_by_rows-store-in-25.ensures

pub returns-in-27 : goal.returns-in-27
returns-in-27 g c =
    row_stored (g.P.Slot.with c.args.slot.now) (λ d. Other d) _ _ _ (λ n. bridge_port_rows n) refl
    c.in-Typed-store_by_rows.is c.in-27.is c.requires
    c.store_by_rows-bool_or_false-in-27.ensures.truth.0 refl c.store_by_rows-store-in-27.ensures

pub returns-in-28 : goal.returns-in-28
returns-in-28 g c =
    row_stored (g.P.Slot.with c.args.slot.now) (λ d. Other d) _ _ _ (λ n. bridge_port_rows n) refl
    c.in-Typed-store_by_rows.is c.in-28.is c.requires
    c.store_by_rows-bool_or_false-in-28.ensures.truth.0 refl c.store_by_rows-store-in-28.ensures

pub returns-in-29 : goal.returns-in-29
returns-in-29 g c =
    row_stored (g.P.Slot.with c.args.slot.now) (λ d. Other d) _ _ _ (λ n. bridge_port_rows n) refl
    c.in-Typed-store_by_rows.is c.in-29.is c.requires
    c.store_by_rows-bool_or_false-in-29.ensures.truth.0 refl c.store_by_rows-store-in-29.ensures

pub returns-in-30 : goal.returns-in-30
returns-in-30 g c =
    row_stored (g.P.Slot.with c.args.slot.now) (λ d. Other d) _ _ _ (λ n. bridge_port_rows n) refl
    c.in-Typed-store_by_rows.is c.in-30.is c.requires
    c.store_by_rows-bool_or_false-in-30.ensures.truth.0 refl c.store_by_rows-store-in-30.ensures

pub returns-in-31 : goal.returns-in-31
returns-in-31 g c =
    row_stored (g.P.Slot.with c.args.slot.now) (λ d. Other d) _ _ _ (λ n. bridge_port_rows n) refl
    c.in-Typed-store_by_rows.is c.in-31.is c.requires
    c.store_by_rows-u16_or_zero-in-31.ensures.le16.0 refl c.store_by_rows-store-in-31.ensures

pub returns-in-32 : goal.returns-in-32
returns-in-32 g c =
    row_stored (g.P.Slot.with c.args.slot.now) (λ d. Other d) _ _ _ (λ n. bridge_port_rows n) refl
    c.in-Typed-store_by_rows.is c.in-32.is c.requires
    c.store_by_rows-bool_or_false-in-32.ensures.truth.0 refl c.store_by_rows-store-in-32.ensures

pub returns-in-33 : goal.returns-in-33
returns-in-33 g c =
    row_stored (g.P.Slot.with c.args.slot.now) (λ d. Other d) _ _ _ (λ n. bridge_port_rows n) refl
    c.in-Typed-store_by_rows.is c.in-33.is c.requires
    c.store_by_rows-bool_or_false-in-33.ensures.truth.0 refl c.store_by_rows-store-in-33.ensures

pub returns-in-34 : goal.returns-in-34
returns-in-34 g c =
    row_stored (g.P.Slot.with c.args.slot.now) (λ d. Other d) _ _ _ (λ n. bridge_port_rows n) refl
    c.in-Typed-store_by_rows.is c.in-34.is c.requires
    c.store_by_rows-u32_or_zero-in-34.ensures.le32.0 refl c.store_by_rows-store-in-34.ensures

pub returns-in-35 : goal.returns-in-35
returns-in-35 g c =
    row_stored (g.P.Slot.with c.args.slot.now) (λ d. Other d) _ _ _ (λ n. bridge_port_rows n) refl
    c.in-Typed-store_by_rows.is c.in-35.is c.requires
    c.store_by_rows-bool_or_false-in-35.ensures.truth.0 refl c.store_by_rows-store-in-35.ensures

pub returns-in-36 : goal.returns-in-36
returns-in-36 g c =
    row_stored (g.P.Slot.with c.args.slot.now) (λ d. Other d) _ _ _ (λ n. bridge_port_rows n) refl
    c.in-Typed-store_by_rows.is c.in-36.is c.requires
    c.store_by_rows-bool_or_false-in-36.ensures.truth.0 refl c.store_by_rows-store-in-36.ensures

pub returns-in-37 : goal.returns-in-37
returns-in-37 g c =
    row_stored (g.P.Slot.with c.args.slot.now) (λ d. Other d) _ _ _ (λ n. bridge_port_rows n) refl
    c.in-Typed-store_by_rows.is c.in-37.is c.requires
    c.store_by_rows-u32_or_zero-in-37.ensures.le32.0 refl c.store_by_rows-store-in-37.ensures

pub returns-in-38 : goal.returns-in-38
returns-in-38 g c =
    row_stored (g.P.Slot.with c.args.slot.now) (λ d. Other d) _ _ _ (λ n. bridge_port_rows n) refl
    c.in-Typed-store_by_rows.is c.in-38.is c.requires
    c.store_by_rows-u32_or_zero-in-38.ensures.le32.0 refl c.store_by_rows-store-in-38.ensures

pub returns-in-39 : goal.returns-in-39
returns-in-39 g c =
    row_stored (g.P.Slot.with c.args.slot.now) (λ d. Other d) _ _ _ (λ n. bridge_port_rows n) refl
    c.in-Typed-store_by_rows.is c.in-39.is c.requires
    c.store_by_rows-bool_or_false-in-39.ensures.truth.0 refl c.store_by_rows-store-in-39.ensures

pub returns-in-40 : goal.returns-in-40
returns-in-40 g c =
    row_stored (g.P.Slot.with c.args.slot.now) (λ d. Other d) _ _ _ (λ n. bridge_port_rows n) refl
    c.in-Typed-store_by_rows.is c.in-40.is c.requires
    c.store_by_rows-bool_or_false-in-40.ensures.truth.0 refl c.store_by_rows-store-in-40.ensures

pub returns-in-41 : goal.returns-in-41
returns-in-41 g c =
    row_stored (g.P.Slot.with c.args.slot.now) (λ d. Other d) _ _ _ (λ n. bridge_port_rows n) refl
    c.in-Typed-store_by_rows.is c.in-41.is c.requires
    c.store_by_rows-u32_or_zero-in-41.ensures.le32.0 refl c.store_by_rows-store-in-41.ensures

pub returns-in-42 : goal.returns-in-42
returns-in-42 g c =
    row_stored (g.P.Slot.with c.args.slot.now) (λ d. Other d) _ _ _ (λ n. bridge_port_rows n) refl
    c.in-Typed-store_by_rows.is c.in-42.is c.requires
    c.store_by_rows-u32_or_zero-in-42.ensures.le32.0 refl c.store_by_rows-store-in-42.ensures

pub returns-in-43 : goal.returns-in-43
returns-in-43 g c =
    row_stored (g.P.Slot.with c.args.slot.now) (λ d. Other d) _ _ _ (λ n. bridge_port_rows n) refl
    c.in-Typed-store_by_rows.is c.in-43.is c.requires c.store_by_rows-u8_or_zero-in-43.ensures.0
    (ap (λ x. NeighVlanSupress x) c.store_by_rows-from-in-43.ensures)
    c.store_by_rows-store-in-43.ensures

pub returns-in-44 : goal.returns-in-44
returns-in-44 g c =
    row_stored (g.P.Slot.with c.args.slot.now) (λ d. Other d) _ _ _ (λ n. bridge_port_rows n) refl
    c.in-Typed-store_by_rows.is c.in-44.is c.requires
    c.store_by_rows-u32_or_zero-in-44.ensures.le32.0 refl c.store_by_rows-store-in-44.ensures

pub returns-in-45 : goal.returns-in-45
returns-in-45 g c =
    row_stored (g.P.Slot.with c.args.slot.now) (λ d. Other d) _ _ _ (λ n. bridge_port_rows n) refl
    c.in-Typed-store_by_rows.is c.in-45.is c.requires c.store_by_rows-u8_or_zero-in-45.ensures.0
    (ap (λ x. NeighForwardGrat x) c.store_by_rows-from-in-45.ensures)
    c.store_by_rows-store-in-45.ensures
