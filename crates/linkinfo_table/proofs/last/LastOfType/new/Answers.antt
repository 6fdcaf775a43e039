use Rattle.std.proofs.Common.{ap, arith, get_or, if◌then◌else◌, refl, sym, ◌==◌, ◌∙◌, ◌-◌, ℕ}
use Rattle.std.proofs.Common.{Option, None, Some, length}
use Rattle.std.proofs.Math.ListN.{set}
use Rattle.std.proofs.lemmas.List.{get_or-replicate, length-set}
use Rattle.nla_frame.specs.Attribute.{masked}
use Rattle.linkinfo_table.proofs.Lasts.{
  entry_is,
  from_attribute,
  from_start,
  in_index,
  last_from,
  no_entry,
  not_covered,
  of_other,
  set_at,
}
use Rattle.linkinfo_table.proofs.last.LastOfType.new.Goals as goal

pub loop-nla-init : goal.loop-nla-init
loop-nla-init c = record {
  entries = refl;
  last = λ kind covered.
      ap (λ (o : Option ℕ). last_from o kind c.args.source.now c.args.source.now)
      (get_or-replicate 64 (kind - c.args.first) None None (in_index c.args.first kind covered).0)
      ∙ from_start kind c.args.source.now;
  room = omega (arith, c.new-count.ensures);
}

pub loop-nla-preserved-in-Some : goal.loop-nla-preserved-in-Some
loop-nla-preserved-in-Some c =
    let step = rw c.in-Some-Ok.field-0-is at c.in-Some-Ok.ensures in
    let before = c.loop-nla.invariant in
    let source = c.args.source.now in
    let first = c.args.first in
    let n = length source - length c.loop-nla.rest.now in
    let k = c.kind.result in
    let entry =
    entry_is first k c.in-Some.entry c.entry_of.result c.in-Some.is c.entry_of.ensures in
    record {
      entries = rw (length-set c.loop-nla.offsets c.in-Some.entry (Some n)) before.entries;
      last = λ kind covered.
          ap (λ (e : ℕ). last_from
          (get_or (set c.loop-nla.offsets e (Some n)) (kind - first) None) kind source
          c.in-Some-Ok.after.now) entry.1
          ∙ ap (λ (o : Option ℕ). last_from o kind source c.in-Some-Ok.after.now)
          (set_at c.loop-nla.offsets first k kind (Some n) before.entries entry.0 covered)
          ∙ ap (λ (k : ℕ). last_from
          (if k == kind then Some n else get_or c.loop-nla.offsets (kind - first) None) kind source
          c.in-Some-Ok.after.now) c.kind.ensures
          ∙ sym
          (from_attribute (get_or c.loop-nla.offsets (kind - first) None) kind source
          c.loop-nla.rest.now c.in-Some-Ok.after.now c.in-Some-Ok.nla _ _ step
          (omega (arith, before.room)))
          ∙ before.last kind covered;
      room = omega (arith, step.counted, step.room, before.room);
    }

pub loop-nla-preserved : goal.loop-nla-preserved
loop-nla-preserved c =
    let step = rw c.in-Some-Ok.field-0-is at c.in-Some-Ok.ensures in
    let before = c.loop-nla.invariant in
    let source = c.args.source.now in
    let first = c.args.first in
    let n = length source - length c.loop-nla.rest.now in
    let none =
    no_entry first c.kind.result c.entry_of.result c.in_default-entry_of.is c.entry_of.ensures in
    record {
      entries = before.entries;
      last = λ kind covered.
          ap (λ (o : Option ℕ). last_from o kind source c.in-Some-Ok.after.now)
          (sym
          (of_other (masked c.in-Some-Ok.nla.kind) kind (Some n)
          (get_or c.loop-nla.offsets (kind - first) None)
          (not_covered first c.kind.result kind (masked c.in-Some-Ok.nla.kind) c.kind.ensures none
          covered)))
          ∙ sym
          (from_attribute (get_or c.loop-nla.offsets (kind - first) None) kind source
          c.loop-nla.rest.now c.in-Some-Ok.after.now c.in-Some-Ok.nla _ _ step
          (omega (arith, before.room)))
          ∙ before.last kind covered;
      room = omega (arith, step.counted, step.room, before.room);
    }
