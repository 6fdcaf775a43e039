-- Each step pairs the first attributes left; the counts are sums over both byte strings.
use Rattle.std.proofs.Common.{arith, ◌∙◌, sym, ap, subst, Result}
use Rattle.std.specs.Prelude.{IsOk}
use Rattle.nla_frame.specs.NlaItems.{nla_items}
use Rattle.nla_frame.specs.declared.error.DecodeError.{DecodeError}
use Rattle.linkinfo.specs.declared.role.CurrentKinds.{CurrentKinds}
use Rattle.linkinfo.specs.Strings.{values_from, headers_from, alike_from}
use Rattle.linkinfo.proofs.Pairs.{paired, entered_is, apart, along, on_true}
use Rattle.linkinfo.proofs.list.same_strings.Goals as goal

pub same_item-requires-clause-first : goal.same_item-requires-clause-first
same_item-requires-clause-first g c =
    let on_x = rw c.unwrap-p.ensures at c.in-Some.ensures in
    let on_y = rw c.unwrap-q.ensures at c.in-Some-next_attribute.ensures in
    let inv = c.loop-next.invariant in
    (paired g.P.DataLayer.families _ _ _ _ _ _ _ _ _ c.role_of-role.ensures
    c.kind.ensures on_x.nla_items_are on_y.nla_items_are inv.first inv.second).first

pub same_item-requires-clause-second : goal.same_item-requires-clause-second
same_item-requires-clause-second g c =
    let on_x = rw c.unwrap-p.ensures at c.in-Some.ensures in
    let on_y = rw c.unwrap-q.ensures at c.in-Some-next_attribute.ensures in
    let inv = c.loop-next.invariant in
    (paired g.P.DataLayer.families _ _ _ _ _ _ _ _ _ c.role_of-role.ensures
    c.kind.ensures on_x.nla_items_are on_y.nla_items_are inv.first inv.second).second

pub unwrap-kinds-requires : goal.unwrap-kinds-requires
unwrap-kinds-requires g c =
    let on_x = rw c.unwrap-p.ensures at c.in-Some.ensures in
    let on_y = rw c.unwrap-q.ensures at c.in-Some-next_attribute.ensures in
    let inv = c.loop-next.invariant in
    let pair =
    paired g.P.DataLayer.families _ _ _ _ _ _ _ _ _ c.role_of-role.ensures
    c.kind.ensures on_x.nla_items_are on_y.nla_items_are inv.first inv.second in
    subst (λ (r : Result CurrentKinds DecodeError). IsOk r) (sym c.kinds_after.ensures) pair.clean

pub returns-then-not-same_item : goal.returns-then-not-same_item
returns-then-not-same_item g c =
    let on_x = rw c.unwrap-p.ensures at c.in-Some.ensures in
    let on_y = rw c.unwrap-q.ensures at c.in-Some-next_attribute.ensures in
    let inv = c.loop-next.invariant in
    let pair =
    paired g.P.DataLayer.families _ _ _ _ _ _ _ _ _ c.role_of-role.ensures
    c.kind.ensures on_x.nla_items_are on_y.nla_items_are inv.first inv.second in
    let compared = c.same_item.ensures in
    record {
      same =
          sym (sym inv.same
          ∙ pair.same
          ∙ apart _ _ (sym compared.same ∙ c.if-not-same_item.true));
      counted = tt;
      rises = omega (arith, inv.rises, on_x.counted, on_y.counted, compared.rises);
      quarter = omega (
        arith,
        inv.room,
        on_x.counted,
        on_y.counted,
        on_x.room,
        on_y.room,
        compared.quarter,
      );
    }

pub loop-next-preserved : goal.loop-next-preserved
loop-next-preserved g c =
    let on_x = rw c.unwrap-p.ensures at c.in-Some.ensures in
    let on_y = rw c.unwrap-q.ensures at c.in-Some-next_attribute.ensures in
    let inv = c.loop-next.invariant in
    let pair =
    paired g.P.DataLayer.families _ _ _ _ _ _ _ _ _ c.role_of-role.ensures
    c.kind.ensures on_x.nla_items_are on_y.nla_items_are inv.first inv.second in
    let layer = g.P.DataLayer.families in
    let alike = sym c.same_item.ensures.same ∙ c.if-not-same_item.false in
    let kinds =
    entered_is layer _ _ _ _ _ c.role_of-role.ensures c.kind.ensures
    (sym c.kinds_after.ensures ∙ c.unwrap-kinds.ensures) in
    let other = sym (pair.goes_on alike) ∙ kinds in
    record {
      first =
          subst
          (λ (u : CurrentKinds). IsOk (values_from layer u (nla_items c.unwrap-p.result.1.now)))
          kinds
          pair.first_more;
      second =
          subst
          (λ (u : CurrentKinds). IsOk (values_from layer u (nla_items c.unwrap-q.result.1.now)))
          other
          pair.second_more;
      same =
          ap (λ (u : CurrentKinds).
          alike_from layer u (nla_items c.unwrap-p.result.1.now)
          (nla_items c.unwrap-q.result.1.now))
          (sym kinds)
          ∙ sym (pair.same ∙ along _ _ alike)
          ∙ inv.same;
      counted =
          omega (
            arith,
            inv.counted,
            on_x.counted,
            on_y.counted,
            pair.headers_x,
            pair.headers_y alike,
            ap
                (λ (u : CurrentKinds). headers_from layer u (nla_items c.unwrap-p.result.1.now))
                kinds,
            ap
                (λ (u : CurrentKinds). headers_from layer u (nla_items c.unwrap-q.result.1.now))
                other,
            on_true _ _ c.if-not-same_item.false c.same_item.ensures.counted,
          );
      rises = omega (arith, inv.rises, on_x.counted, on_y.counted, c.same_item.ensures.rises);
      room = omega (
        arith,
        inv.room,
        on_x.counted,
        on_y.counted,
        on_x.room,
        on_y.room,
        c.same_item.ensures.quarter,
      );
    }

pub same_item-requires-clause-room : goal.same_item-requires-clause-room
same_item-requires-clause-room g c =
    let on_x = rw c.unwrap-p.ensures at c.in-Some.ensures in
    let on_y = rw c.unwrap-q.ensures at c.in-Some-next_attribute.ensures in
    let inv = c.loop-next.invariant in
    omega (arith, c.requires.room, inv.room, on_x.counted, on_y.counted, on_x.room, on_y.room)

pub loop-next-smaller : goal.loop-next-smaller
loop-next-smaller g c =
    let on_x = rw c.unwrap-p.ensures at c.in-Some.ensures in
    omega (arith, on_x.room)
