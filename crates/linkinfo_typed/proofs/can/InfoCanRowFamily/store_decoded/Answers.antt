-- Written by tables/generate from tables/can.
-- A type without a row in the list has no row in the table. For any other type the table says which
-- value is stored. A search would read the whole table once per row.
use Rattle.std.proofs.Common.{ap, rules, refl}
use Rattle.linkinfo_table.specs.FamilyRowLaws.{no_row_read, row_stored}
use Rattle.linkinfo_typed.specs.declared.can.InfoCan.TheVariants.{Clock, State, CtrlMode, Other}
use Rattle.linkinfo_typed.specs.Can.{can_plain, can_rows, can_suits}
use Rattle.linkinfo_typed.proofs.can.InfoCanRowFamily.store_decoded.Goals as goal

pub store_by_rows-unreachable-requires : goal.store_by_rows-unreachable-requires
store_by_rows-unreachable-requires g c =
    no_row_read can_plain c.args.decoded c.in-Typed-store_by_rows.field-0
    c.in-Typed-store_by_rows.field-1 c.in-Typed-store_by_rows.is (search rules)
    (can_suits c.args.decoded c.requires)

pub unreachable-store_by_rows : goal.unreachable-store_by_rows
unreachable-store_by_rows g c =
    no_row_read can_plain c.args.decoded c.in-Typed-store_by_rows.field-0
    c.in-Typed-store_by_rows.field-1 c.in-Typed-store_by_rows.is (search rules)
    (can_suits c.args.decoded c.requires)

pub returns-in-3 : goal.returns-in-3
returns-in-3 g c =
    row_stored (g.P.Slot.with c.args.slot.now) (λ d. Other d) _ _ _ (λ n. can_rows n) refl
    c.in-Typed-store_by_rows.is c.in-3.is c.requires c.store_by_rows-u32_or_zero.ensures.le32.0
    (ap (λ x. Clock x) c.store_by_rows-from.ensures) c.store_by_rows-store-in-3.ensures

pub returns-in-4 : goal.returns-in-4
returns-in-4 g c =
    row_stored (g.P.Slot.with c.args.slot.now) (λ d. Other d) _ _ _ (λ n. can_rows n) refl
    c.in-Typed-store_by_rows.is c.in-4.is c.requires c.store_by_rows-u32_or_zero-in-4.ensures.le32.0
    (ap (λ x. State x) c.store_by_rows-from-in-4.ensures) c.store_by_rows-store-in-4.ensures

pub returns-in-5 : goal.returns-in-5
returns-in-5 g c =
    row_stored (g.P.Slot.with c.args.slot.now) (λ d. Other d) _ _ _ (λ n. can_rows n) refl
    c.in-Typed-store_by_rows.is c.in-5.is c.requires c.store_by_rows-u32_pair_or_zeros.ensures.0
    (ap (λ x. CtrlMode x) c.store_by_rows-flags_of.ensures) c.store_by_rows-store-in-5.ensures

pub returns-in-6 : goal.returns-in-6
returns-in-6 g c =
    row_stored (g.P.Slot.with c.args.slot.now) (λ d. Other d) _ _ _ (λ n. can_rows n) refl
    c.in-Typed-store_by_rows.is c.in-6.is c.requires c.store_by_rows-u32_or_zero-in-6.ensures.le32.0
    refl c.store_by_rows-store-in-6.ensures

pub returns-in-7 : goal.returns-in-7
returns-in-7 g c =
    row_stored (g.P.Slot.with c.args.slot.now) (λ d. Other d) _ _ _ (λ n. can_rows n) refl
    c.in-Typed-store_by_rows.is c.in-7.is c.requires c.store_by_rows-u32_or_zero-in-7.ensures.le32.0
    refl c.store_by_rows-store-in-7.ensures

pub returns-in-11 : goal.returns-in-11
returns-in-11 g c =
    row_stored (g.P.Slot.with c.args.slot.now) (λ d. Other d) _ _ _ (λ n. can_rows n) refl
    c.in-Typed-store_by_rows.is c.in-11.is c.requires c.store_by_rows-u16_or_zero.ensures.le16.0
    refl c.store_by_rows-store-in-11.ensures

pub returns-in-15 : goal.returns-in-15
returns-in-15 g c =
    row_stored (g.P.Slot.with c.args.slot.now) (λ d. Other d) _ _ _ (λ n. can_rows n) refl
    c.in-Typed-store_by_rows.is c.in-15.is c.requires
    c.store_by_rows-u32_or_zero-in-15.ensures.le32.0 refl c.store_by_rows-store-in-15.ensures
