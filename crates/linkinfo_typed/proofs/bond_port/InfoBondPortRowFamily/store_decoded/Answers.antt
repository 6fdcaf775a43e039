-- Written by tables/generate from tables/bondport.
-- A type without a row in the list has no row in the table. For any other type the table says which
-- value is stored. A search would read the whole table once per row.
use Rattle.std.proofs.Common.{ap, rules, refl}
use Rattle.linkinfo_table.specs.FamilyRowLaws.{no_row_read, owner_needs, row_stored}
use Rattle.linkinfo_table.specs.FamilyRows.{table_row}
use Rattle.linkinfo_typed.specs.declared.bond_port.InfoBondPort.TheVariants.{
  BondPortState,
  MiiStatus,
  AdActorOperPortState,
  AdPartnerOperPortState,
  AdChurnActorState,
  AdChurnPartnerState,
  Other,
}
use Rattle.linkinfo_numbers.specs.Bond.{lacp_state, lacp_state16}
use Rattle.linkinfo_typed.specs.BondPort.{bond_port_rows}
use Rattle.linkinfo_typed.proofs.bond_port.InfoBondPortRowFamily.store_decoded.Goals as goal

pub store_by_rows-unreachable-requires : goal.store_by_rows-unreachable-requires
store_by_rows-unreachable-requires g c =
    no_row_read bond_port_rows c.args.decoded c.in-Typed-store_by_rows.field-0
    c.in-Typed-store_by_rows.field-1 c.in-Typed-store_by_rows.is (search rules) c.requires

pub unreachable-store_by_rows : goal.unreachable-store_by_rows
unreachable-store_by_rows g c =
    no_row_read bond_port_rows c.args.decoded c.in-Typed-store_by_rows.field-0
    c.in-Typed-store_by_rows.field-1 c.in-Typed-store_by_rows.is (search rules) c.requires

pub returns-in-1 : goal.returns-in-1
returns-in-1 g c =
    row_stored (g.P.Slot.with c.args.slot.now) (λ d. Other d) _ _ _
    (λ n. table_row bond_port_rows n) refl c.in-Typed-store_by_rows.is c.in-1.is c.requires
    c.store_by_rows-u8_or_zero.ensures.0 (ap (λ x. BondPortState x) c.store_by_rows-from.ensures)
    c.store_by_rows-store-in-1.ensures

pub returns-in-2 : goal.returns-in-2
returns-in-2 g c =
    row_stored (g.P.Slot.with c.args.slot.now) (λ d. Other d) _ _ _
    (λ n. table_row bond_port_rows n) refl c.in-Typed-store_by_rows.is c.in-2.is c.requires
    c.store_by_rows-u8_or_zero-in-2.ensures.0
    (ap (λ x. MiiStatus x) c.store_by_rows-from-in-2.ensures) c.store_by_rows-store-in-2.ensures

pub returns-in-3 : goal.returns-in-3
returns-in-3 g c =
    row_stored (g.P.Slot.with c.args.slot.now) (λ d. Other d) _ _ _
    (λ n. table_row bond_port_rows n) refl c.in-Typed-store_by_rows.is c.in-3.is c.requires
    c.store_by_rows-u32_or_zero.ensures.le32.0 refl c.store_by_rows-store-in-3.ensures

pub returns-in-4-clause-certain : goal.returns-in-4-clause-certain
returns-in-4-clause-certain g c = λ _ none.
    absurd (owner_needs (λ n. table_row bond_port_rows n) refl c.in-Typed-store_by_rows.is
    c.in-4.is c.requires refl none)

pub returns-in-5 : goal.returns-in-5
returns-in-5 g c =
    row_stored (g.P.Slot.with c.args.slot.now) (λ d. Other d) _ _ _
    (λ n. table_row bond_port_rows n) refl c.in-Typed-store_by_rows.is c.in-5.is c.requires
    c.store_by_rows-u16_or_zero.ensures.le16.0 refl c.store_by_rows-store-in-5.ensures

pub returns-in-6 : goal.returns-in-6
returns-in-6 g c =
    row_stored (g.P.Slot.with c.args.slot.now) (λ d. Other d) _ _ _
    (λ n. table_row bond_port_rows n) refl c.in-Typed-store_by_rows.is c.in-6.is c.requires
    c.store_by_rows-u16_or_zero-in-6.ensures.le16.0 refl c.store_by_rows-store-in-6.ensures

pub returns-in-7 : goal.returns-in-7
returns-in-7 g c =
    row_stored (g.P.Slot.with c.args.slot.now) (λ d. Other d) _ _ _
    (λ n. table_row bond_port_rows n) refl c.in-Typed-store_by_rows.is c.in-7.is c.requires
    c.store_by_rows-u8_or_zero-in-7.ensures.0
    (ap (λ n. AdActorOperPortState (lacp_state n)) (c.store_by_rows-from_bits_retain.ensures tt))
    c.store_by_rows-store-in-7.ensures

pub returns-in-8 : goal.returns-in-8
returns-in-8 g c =
    row_stored (g.P.Slot.with c.args.slot.now) (λ d. Other d) _ _ _
    (λ n. table_row bond_port_rows n) refl c.in-Typed-store_by_rows.is c.in-8.is c.requires
    c.store_by_rows-u16_or_zero-in-8.ensures.le16.0
    (ap (λ n. AdPartnerOperPortState (lacp_state16 n))
    (c.store_by_rows-from_bits_retain-in-8.ensures tt))
    c.store_by_rows-store-in-8.ensures

pub returns-in-10 : goal.returns-in-10
returns-in-10 g c =
    row_stored (g.P.Slot.with c.args.slot.now) (λ d. Other d) _ _ _
    (λ n. table_row bond_port_rows n) refl c.in-Typed-store_by_rows.is c.in-10.is c.requires
    c.store_by_rows-u16_or_zero-in-10.ensures.le16.0 refl c.store_by_rows-store-in-10.ensures

pub returns-in-11 : goal.returns-in-11
returns-in-11 g c =
    row_stored (g.P.Slot.with c.args.slot.now) (λ d. Other d) _ _ _
    (λ n. table_row bond_port_rows n) refl c.in-Typed-store_by_rows.is c.in-11.is c.requires
    c.store_by_rows-u8_or_zero-in-11.ensures.0
    (ap (λ x. AdChurnActorState x) c.store_by_rows-from-in-11.ensures)
    c.store_by_rows-store-in-11.ensures

pub returns-in-12 : goal.returns-in-12
returns-in-12 g c =
    row_stored (g.P.Slot.with c.args.slot.now) (λ d. Other d) _ _ _
    (λ n. table_row bond_port_rows n) refl c.in-Typed-store_by_rows.is c.in-12.is c.requires
    c.store_by_rows-u8_or_zero-in-12.ensures.0
    (ap (λ x. AdChurnPartnerState x) c.store_by_rows-from-in-12.ensures)
    c.store_by_rows-store-in-12.ensures
