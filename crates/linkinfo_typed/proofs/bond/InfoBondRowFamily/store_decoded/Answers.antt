-- Written by tables/generate from tables/bond.
-- A type without a row in the list has no row in the table. For any other type the table says which
-- value is stored. A search would read the whole table once per row.
use Rattle.std.proofs.Common.{ap, rules, refl}
use Rattle.linkinfo_table.specs.FamilyRowLaws.{no_row_read, row_stored}
use Rattle.linkinfo_typed.specs.declared.bond.InfoBond.TheVariants.{
  Mode,
  UseCarrier,
  ArpValidate,
  ArpAllTargets,
  PrimaryReselect,
  FailOverMac,
  XmitHashPolicy,
  AllPortsActive,
  AdLacpRate,
  AdSelect,
  TlbDynamicLb,
  AdLacpActive,
  CoupledControl,
  BroadcastNeigh,
  LacpStrict,
  Other,
}
use Rattle.linkinfo_typed.specs.Bond.{bond_plain, bond_rows, bond_suits}
use Rattle.linkinfo_typed.proofs.bond.InfoBondRowFamily.store_decoded.Goals as goal

pub store_by_rows-unreachable-requires : goal.store_by_rows-unreachable-requires
store_by_rows-unreachable-requires g c =
    no_row_read bond_plain c.args.decoded c.in-Typed-store_by_rows.field-0
    c.in-Typed-store_by_rows.field-1 c.in-Typed-store_by_rows.is (search rules)
    (bond_suits c.args.decoded c.requires)

pub unreachable-store_by_rows : goal.unreachable-store_by_rows
unreachable-store_by_rows g c =
    no_row_read bond_plain c.args.decoded c.in-Typed-store_by_rows.field-0
    c.in-Typed-store_by_rows.field-1 c.in-Typed-store_by_rows.is (search rules)
    (bond_suits c.args.decoded c.requires)

pub returns-in-1 : goal.returns-in-1
returns-in-1 g c =
    row_stored (g.P.Slot.with c.args.slot.now) (λ d. Other d) _ _ _ (λ n. bond_rows n) refl
    c.in-Typed-store_by_rows.is c.in-1.is c.requires c.store_by_rows-u8_or_zero.ensures.0
    (ap (λ x. Mode x) c.store_by_rows-from.ensures) c.store_by_rows-store-in-1.ensures

pub returns-in-2 : goal.returns-in-2
returns-in-2 g c =
    row_stored (g.P.Slot.with c.args.slot.now) (λ d. Other d) _ _ _ (λ n. bond_rows n) refl
    c.in-Typed-store_by_rows.is c.in-2.is c.requires c.store_by_rows-u32_or_zero.ensures.le32.0 refl
    c.store_by_rows-store-in-2.ensures

pub returns-in-3 : goal.returns-in-3
returns-in-3 g c =
    row_stored (g.P.Slot.with c.args.slot.now) (λ d. Other d) _ _ _ (λ n. bond_rows n) refl
    c.in-Typed-store_by_rows.is c.in-3.is c.requires c.store_by_rows-u32_or_zero-in-3.ensures.le32.0
    refl c.store_by_rows-store-in-3.ensures

pub returns-in-4 : goal.returns-in-4
returns-in-4 g c =
    row_stored (g.P.Slot.with c.args.slot.now) (λ d. Other d) _ _ _ (λ n. bond_rows n) refl
    c.in-Typed-store_by_rows.is c.in-4.is c.requires c.store_by_rows-u32_or_zero-in-4.ensures.le32.0
    refl c.store_by_rows-store-in-4.ensures

pub returns-in-5 : goal.returns-in-5
returns-in-5 g c =
    row_stored (g.P.Slot.with c.args.slot.now) (λ d. Other d) _ _ _ (λ n. bond_rows n) refl
    c.in-Typed-store_by_rows.is c.in-5.is c.requires c.store_by_rows-u32_or_zero-in-5.ensures.le32.0
    refl c.store_by_rows-store-in-5.ensures

pub returns-in-6 : goal.returns-in-6
returns-in-6 g c =
    row_stored (g.P.Slot.with c.args.slot.now) (λ d. Other d) _ _ _ (λ n. bond_rows n) refl
    c.in-Typed-store_by_rows.is c.in-6.is c.requires c.store_by_rows-u8_or_zero-in-6.ensures.0
    (ap (λ x. UseCarrier x) c.store_by_rows-from-in-6.ensures) c.store_by_rows-store-in-6.ensures

pub returns-in-7 : goal.returns-in-7
returns-in-7 g c =
    row_stored (g.P.Slot.with c.args.slot.now) (λ d. Other d) _ _ _ (λ n. bond_rows n) refl
    c.in-Typed-store_by_rows.is c.in-7.is c.requires c.store_by_rows-u32_or_zero-in-7.ensures.le32.0
    refl c.store_by_rows-store-in-7.ensures

pub returns-in-9 : goal.returns-in-9
returns-in-9 g c =
    row_stored (g.P.Slot.with c.args.slot.now) (λ d. Other d) _ _ _ (λ n. bond_rows n) refl
    c.in-Typed-store_by_rows.is c.in-9.is c.requires c.store_by_rows-u32_or_zero-in-9.ensures.le32.0
    (ap (λ x. ArpValidate x) c.store_by_rows-from-in-9.ensures) c.store_by_rows-store-in-9.ensures

pub returns-in-10 : goal.returns-in-10
returns-in-10 g c =
    row_stored (g.P.Slot.with c.args.slot.now) (λ d. Other d) _ _ _ (λ n. bond_rows n) refl
    c.in-Typed-store_by_rows.is c.in-10.is c.requires
    c.store_by_rows-u32_or_zero-in-10.ensures.le32.0
    (ap (λ x. ArpAllTargets x) c.store_by_rows-from-in-10.ensures)
    c.store_by_rows-store-in-10.ensures

pub returns-in-11 : goal.returns-in-11
returns-in-11 g c =
    row_stored (g.P.Slot.with c.args.slot.now) (λ d. Other d) _ _ _ (λ n. bond_rows n) refl
    c.in-Typed-store_by_rows.is c.in-11.is c.requires
    c.store_by_rows-u32_or_zero-in-11.ensures.le32.0 refl c.store_by_rows-store-in-11.ensures

pub returns-in-12 : goal.returns-in-12
returns-in-12 g c =
    row_stored (g.P.Slot.with c.args.slot.now) (λ d. Other d) _ _ _ (λ n. bond_rows n) refl
    c.in-Typed-store_by_rows.is c.in-12.is c.requires c.store_by_rows-u8_or_zero-in-12.ensures.0
    (ap (λ x. PrimaryReselect x) c.store_by_rows-from-in-12.ensures)
    c.store_by_rows-store-in-12.ensures

pub returns-in-13 : goal.returns-in-13
returns-in-13 g c =
    row_stored (g.P.Slot.with c.args.slot.now) (λ d. Other d) _ _ _ (λ n. bond_rows n) refl
    c.in-Typed-store_by_rows.is c.in-13.is c.requires c.store_by_rows-u8_or_zero-in-13.ensures.0
    (ap (λ x. FailOverMac x) c.store_by_rows-from-in-13.ensures) c.store_by_rows-store-in-13.ensures

pub returns-in-14 : goal.returns-in-14
returns-in-14 g c =
    row_stored (g.P.Slot.with c.args.slot.now) (λ d. Other d) _ _ _ (λ n. bond_rows n) refl
    c.in-Typed-store_by_rows.is c.in-14.is c.requires c.store_by_rows-u8_or_zero-in-14.ensures.0
    (ap (λ x. XmitHashPolicy x) c.store_by_rows-from-in-14.ensures)
    c.store_by_rows-store-in-14.ensures

pub returns-in-15 : goal.returns-in-15
returns-in-15 g c =
    row_stored (g.P.Slot.with c.args.slot.now) (λ d. Other d) _ _ _ (λ n. bond_rows n) refl
    c.in-Typed-store_by_rows.is c.in-15.is c.requires
    c.store_by_rows-u32_or_zero-in-15.ensures.le32.0 refl c.store_by_rows-store-in-15.ensures

pub returns-in-16 : goal.returns-in-16
returns-in-16 g c =
    row_stored (g.P.Slot.with c.args.slot.now) (λ d. Other d) _ _ _ (λ n. bond_rows n) refl
    c.in-Typed-store_by_rows.is c.in-16.is c.requires c.store_by_rows-u8_or_zero-in-16.ensures.0
    refl c.store_by_rows-store-in-16.ensures

pub returns-in-17 : goal.returns-in-17
returns-in-17 g c =
    row_stored (g.P.Slot.with c.args.slot.now) (λ d. Other d) _ _ _ (λ n. bond_rows n) refl
    c.in-Typed-store_by_rows.is c.in-17.is c.requires c.store_by_rows-u8_or_zero-in-17.ensures.0
    (ap (λ x. AllPortsActive x) c.store_by_rows-from-in-17.ensures)
    c.store_by_rows-store-in-17.ensures

pub returns-in-18 : goal.returns-in-18
returns-in-18 g c =
    row_stored (g.P.Slot.with c.args.slot.now) (λ d. Other d) _ _ _ (λ n. bond_rows n) refl
    c.in-Typed-store_by_rows.is c.in-18.is c.requires
    c.store_by_rows-u32_or_zero-in-18.ensures.le32.0 refl c.store_by_rows-store-in-18.ensures

pub returns-in-19 : goal.returns-in-19
returns-in-19 g c =
    row_stored (g.P.Slot.with c.args.slot.now) (λ d. Other d) _ _ _ (λ n. bond_rows n) refl
    c.in-Typed-store_by_rows.is c.in-19.is c.requires
    c.store_by_rows-u32_or_zero-in-19.ensures.le32.0 refl c.store_by_rows-store-in-19.ensures

pub returns-in-20 : goal.returns-in-20
returns-in-20 g c =
    row_stored (g.P.Slot.with c.args.slot.now) (λ d. Other d) _ _ _ (λ n. bond_rows n) refl
    c.in-Typed-store_by_rows.is c.in-20.is c.requires
    c.store_by_rows-u32_or_zero-in-20.ensures.le32.0 refl c.store_by_rows-store-in-20.ensures

pub returns-in-21 : goal.returns-in-21
returns-in-21 g c =
    row_stored (g.P.Slot.with c.args.slot.now) (λ d. Other d) _ _ _ (λ n. bond_rows n) refl
    c.in-Typed-store_by_rows.is c.in-21.is c.requires c.store_by_rows-u8_or_zero-in-21.ensures.0
    (ap (λ x. AdLacpRate x) c.store_by_rows-from-in-21.ensures) c.store_by_rows-store-in-21.ensures

pub returns-in-22 : goal.returns-in-22
returns-in-22 g c =
    row_stored (g.P.Slot.with c.args.slot.now) (λ d. Other d) _ _ _ (λ n. bond_rows n) refl
    c.in-Typed-store_by_rows.is c.in-22.is c.requires c.store_by_rows-u8_or_zero-in-22.ensures.0
    (ap (λ x. AdSelect x) c.store_by_rows-from-in-22.ensures) c.store_by_rows-store-in-22.ensures

pub returns-in-24 : goal.returns-in-24
returns-in-24 g c =
    row_stored (g.P.Slot.with c.args.slot.now) (λ d. Other d) _ _ _ (λ n. bond_rows n) refl
    c.in-Typed-store_by_rows.is c.in-24.is c.requires c.store_by_rows-u16_or_zero.ensures.le16.0
    refl c.store_by_rows-store-in-24.ensures

pub returns-in-25 : goal.returns-in-25
returns-in-25 g c =
    row_stored (g.P.Slot.with c.args.slot.now) (λ d. Other d) _ _ _ (λ n. bond_rows n) refl
    c.in-Typed-store_by_rows.is c.in-25.is c.requires
    c.store_by_rows-u16_or_zero-in-25.ensures.le16.0 refl c.store_by_rows-store-in-25.ensures

pub returns-in-26 : goal.returns-in-26
returns-in-26 g c =
    row_stored (g.P.Slot.with c.args.slot.now) (λ d. Other d) _ _ _ (λ n. bond_rows n) refl
    c.in-Typed-store_by_rows.is c.in-26.is c.requires c.store_by_rows-mac_or_zeros.ensures.0 refl
    c.store_by_rows-store-in-26.ensures

pub returns-in-27 : goal.returns-in-27
returns-in-27 g c =
    row_stored (g.P.Slot.with c.args.slot.now) (λ d. Other d) _ _ _ (λ n. bond_rows n) refl
    c.in-Typed-store_by_rows.is c.in-27.is c.requires c.store_by_rows-u8_or_zero-in-27.ensures.0
    (ap (λ x. TlbDynamicLb x) c.store_by_rows-from-in-27.ensures)
    c.store_by_rows-store-in-27.ensures

pub returns-in-28 : goal.returns-in-28
returns-in-28 g c =
    row_stored (g.P.Slot.with c.args.slot.now) (λ d. Other d) _ _ _ (λ n. bond_rows n) refl
    c.in-Typed-store_by_rows.is c.in-28.is c.requires
    c.store_by_rows-u32_or_zero-in-28.ensures.le32.0 refl c.store_by_rows-store-in-28.ensures

pub returns-in-29 : goal.returns-in-29
returns-in-29 g c =
    row_stored (g.P.Slot.with c.args.slot.now) (λ d. Other d) _ _ _ (λ n. bond_rows n) refl
    c.in-Typed-store_by_rows.is c.in-29.is c.requires c.store_by_rows-u8_or_zero-in-29.ensures.0
    (ap (λ x. AdLacpActive x) c.store_by_rows-from-in-29.ensures)
    c.store_by_rows-store-in-29.ensures

pub returns-in-30 : goal.returns-in-30
returns-in-30 g c =
    row_stored (g.P.Slot.with c.args.slot.now) (λ d. Other d) _ _ _ (λ n. bond_rows n) refl
    c.in-Typed-store_by_rows.is c.in-30.is c.requires c.store_by_rows-u8_or_zero-in-30.ensures.0
    refl c.store_by_rows-store-in-30.ensures

pub returns-in-32 : goal.returns-in-32
returns-in-32 g c =
    row_stored (g.P.Slot.with c.args.slot.now) (λ d. Other d) _ _ _ (λ n. bond_rows n) refl
    c.in-Typed-store_by_rows.is c.in-32.is c.requires c.store_by_rows-u8_or_zero-in-32.ensures.0
    (ap (λ x. CoupledControl x) c.store_by_rows-from-in-32.ensures)
    c.store_by_rows-store-in-32.ensures

pub returns-in-33 : goal.returns-in-33
returns-in-33 g c =
    row_stored (g.P.Slot.with c.args.slot.now) (λ d. Other d) _ _ _ (λ n. bond_rows n) refl
    c.in-Typed-store_by_rows.is c.in-33.is c.requires c.store_by_rows-u8_or_zero-in-33.ensures.0
    (ap (λ x. BroadcastNeigh x) c.store_by_rows-from-in-33.ensures)
    c.store_by_rows-store-in-33.ensures

pub returns-in-34 : goal.returns-in-34
returns-in-34 g c =
    row_stored (g.P.Slot.with c.args.slot.now) (λ d. Other d) _ _ _ (λ n. bond_rows n) refl
    c.in-Typed-store_by_rows.is c.in-34.is c.requires c.store_by_rows-u8_or_zero-in-34.ensures.0
    (ap (λ x. LacpStrict x) c.store_by_rows-from-in-34.ensures) c.store_by_rows-store-in-34.ensures
