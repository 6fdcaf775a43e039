use Rattle.std.proofs.Common.{
  ◌≡◌,
  ℕ,
  List,
  [],
  ◌∷◌,
  ◌++◌,
  append_assoc,
  refl,
  sym,
  ap,
  ◌∙◌,
  arith,
  Result,
  Ok,
  Err,
}
use Rattle.nla_frame.specs.NlaItems.{nla_items}
use Rattle.nla_frame.specs.declared.error.DecodeError.{DecodeError}
use Rattle.linkinfo_table.specs.Lists.{◌>>=◌, Appends, append_to, headers_of, if_read, values}
use Rattle.linkinfo_table.proofs.list.list_read.Goals as goal

module _ {X : Type 0} where
  abbrev list : List X → Result (List X) DecodeError
  list xs = Ok xs

  -- a value pushed to those already read is the first of those that follow
  appended : (m : Result X DecodeError) (old new : List X) (tail : Result (List X) DecodeError) →
      Appends old new (Ok tt) m →
      append_to new tail ≡ append_to old (m >>= λ x. tail >>= λ xs. list (x ∷ xs))
  appended (Ok x) old new (Ok xs) e =
      let same : new ≡ old ++ x ∷ [] = cc in
      ap (λ (ys : List X). list (ys ++ xs)) same ∙ ap list (append_assoc old (x ∷ []) xs)
  appended (Ok x) old new (Err d) e = refl
  appended (Err d) old new tail e = absurd cc

  counted_on : (m : Result X DecodeError) (old new : List X) (n : ℕ) → Appends old new (Ok tt) m →
      if_read m n ≡ n
  counted_on (Ok x) old new n e = refl
  counted_on (Err d) old new n e = absurd cc

pub loop-next-preserved : goal.loop-next-preserved
loop-next-preserved g c =
    let m = g.F.LinkFamily.meaning c.args.ctx in
    let h = g.F.LinkFamily.headers c.args.ctx in
    let on = rw c.in_ok-nla-2.was at c.in-Some-next_attribute.ensures in
    let inv = c.loop-next.invariant in
    let pushed = c.in_ok-push.ensures.answer in
    let old = c.loop-next.items.items in
    let new = c.push.new.items.items in
    let means = m c.in_ok-nla-2.nla in
    let more = nla_items c.in_ok-nla-2.after.now in
    record {
      answer =
          appended means old new (values m more) pushed
          ∙ ap (λ ps. append_to old (values m ps)) (sym on.nla_items_are)
          ∙ inv.answer;
      certain = inv.certain;
      counted = omega (
        arith,
        inv.counted,
        on.counted,
        ap (λ ps. headers_of m h ps) on.nla_items_are,
        counted_on means old new (headers_of m h more) pushed,
        c.in_ok-push.ensures.counted,
      );
      rises = omega (arith, inv.rises, on.counted, c.in_ok-push.ensures.rises);
      room = omega (arith, inv.room, on.counted, on.room, c.in_ok-push.ensures.quarter);
    }
