-- Written by tables/generate from tables/cantdc.
-- A type without a row in the list has no row in the table. For any other type the table says which
-- value is stored. A search would read the whole table once per row.
use Rattle.std.proofs.Common.{rules, refl}
use Rattle.linkinfo_table.specs.FamilyRowLaws.{no_row_read, row_stored}
use Rattle.linkinfo_table.specs.FamilyRows.{table_row}
use Rattle.linkinfo_typed.specs.declared.can_tdc.CanTdc.TheVariants.{Other}
use Rattle.linkinfo_typed.specs.CanTdc.{can_tdc_rows}
use Rattle.linkinfo_typed.proofs.can_tdc.CanTdcRowFamily.store_decoded.Goals as goal

pub store_by_rows-unreachable-requires : goal.store_by_rows-unreachable-requires
store_by_rows-unreachable-requires g c =
    no_row_read can_tdc_rows c.args.decoded c.in-Typed-store_by_rows.field-0
    c.in-Typed-store_by_rows.field-1 c.in-Typed-store_by_rows.is (search rules) c.requires

pub unreachable-store_by_rows : goal.unreachable-store_by_rows
unreachable-store_by_rows g c =
    no_row_read can_tdc_rows c.args.decoded c.in-Typed-store_by_rows.field-0
    c.in-Typed-store_by_rows.field-1 c.in-Typed-store_by_rows.is (search rules) c.requires

pub returns-in-1 : goal.returns-in-1
returns-in-1 g c =
    row_stored (g.P.Slot.with c.args.slot.now) (λ d. Other d) _ _ _ (λ n. table_row can_tdc_rows n)
    refl c.in-Typed-store_by_rows.is c.in-1.is c.requires c.store_by_rows-u32_or_zero.ensures.le32.0
    refl c.store_by_rows-store-in-1.ensures

pub returns-in-2 : goal.returns-in-2
returns-in-2 g c =
    row_stored (g.P.Slot.with c.args.slot.now) (λ d. Other d) _ _ _ (λ n. table_row can_tdc_rows n)
    refl c.in-Typed-store_by_rows.is c.in-2.is c.requires
    c.store_by_rows-u32_or_zero-in-2.ensures.le32.0 refl c.store_by_rows-store-in-2.ensures

pub returns-in-3 : goal.returns-in-3
returns-in-3 g c =
    row_stored (g.P.Slot.with c.args.slot.now) (λ d. Other d) _ _ _ (λ n. table_row can_tdc_rows n)
    refl c.in-Typed-store_by_rows.is c.in-3.is c.requires
    c.store_by_rows-u32_or_zero-in-3.ensures.le32.0 refl c.store_by_rows-store-in-3.ensures

pub returns-in-4 : goal.returns-in-4
returns-in-4 g c =
    row_stored (g.P.Slot.with c.args.slot.now) (λ d. Other d) _ _ _ (λ n. table_row can_tdc_rows n)
    refl c.in-Typed-store_by_rows.is c.in-4.is c.requires
    c.store_by_rows-u32_or_zero-in-4.ensures.le32.0 refl c.store_by_rows-store-in-4.ensures

pub returns-in-5 : goal.returns-in-5
returns-in-5 g c =
    row_stored (g.P.Slot.with c.args.slot.now) (λ d. Other d) _ _ _ (λ n. table_row can_tdc_rows n)
    refl c.in-Typed-store_by_rows.is c.in-5.is c.requires
    c.store_by_rows-u32_or_zero-in-5.ensures.le32.0 refl c.store_by_rows-store-in-5.ensures

pub returns-in-6 : goal.returns-in-6
returns-in-6 g c =
    row_stored (g.P.Slot.with c.args.slot.now) (λ d. Other d) _ _ _ (λ n. table_row can_tdc_rows n)
    refl c.in-Typed-store_by_rows.is c.in-6.is c.requires
    c.store_by_rows-u32_or_zero-in-6.ensures.le32.0 refl c.store_by_rows-store-in-6.ensures

pub returns-in-7 : goal.returns-in-7
returns-in-7 g c =
    row_stored (g.P.Slot.with c.args.slot.now) (λ d. Other d) _ _ _ (λ n. table_row can_tdc_rows n)
    refl c.in-Typed-store_by_rows.is c.in-7.is c.requires
    c.store_by_rows-u32_or_zero-in-7.ensures.le32.0 refl c.store_by_rows-store-in-7.ensures

pub returns-in-8 : goal.returns-in-8
returns-in-8 g c =
    row_stored (g.P.Slot.with c.args.slot.now) (λ d. Other d) _ _ _ (λ n. table_row can_tdc_rows n)
    refl c.in-Typed-store_by_rows.is c.in-8.is c.requires
    c.store_by_rows-u32_or_zero-in-8.ensures.le32.0 refl c.store_by_rows-store-in-8.ensures

pub returns-in-9 : goal.returns-in-9
returns-in-9 g c =
    row_stored (g.P.Slot.with c.args.slot.now) (λ d. Other d) _ _ _ (λ n. table_row can_tdc_rows n)
    refl c.in-Typed-store_by_rows.is c.in-9.is c.requires
    c.store_by_rows-u32_or_zero-in-9.ensures.le32.0 refl c.store_by_rows-store-in-9.ensures
