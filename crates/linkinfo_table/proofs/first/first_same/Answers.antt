-- Each byte string begins with an attribute, and the two are compared.
use Rattle.std.proofs.Common.{arith, ap}
use Rattle.linkinfo_table.specs.Lists.{first_headers}
use Rattle.linkinfo_table.proofs.Firsts.{meanings_same, on_true, seen_room}
use Rattle.linkinfo_table.proofs.first.first_same.Goals as goal

pub next_attribute-requires : goal.next_attribute-requires
next_attribute-requires g c = omega (arith, c.requires.room, seen_room c.args.a.now)

pub next_attribute-requires-2 : goal.next_attribute-requires-2
next_attribute-requires-2 g c =
    let p = rw (c.unwrap.ensures, c.unwrap-p.ensures) at c.next_attribute.ensures in
    omega (arith, c.requires.room, p.counted, p.room, seen_room c.args.b.now)

pub same_value-requires-clause-first : goal.same_value-requires-clause-first
same_value-requires-clause-first g c =
    let p = rw (c.unwrap.ensures, c.unwrap-p.ensures) at c.next_attribute.ensures in
    rw p.nla_items_are at c.requires.first

pub same_value-requires-clause-second : goal.same_value-requires-clause-second
same_value-requires-clause-second g c =
    let q = rw (c.unwrap-2.ensures, c.unwrap-q.ensures) at c.next_attribute-2.ensures in
    rw q.nla_items_are at c.requires.second

pub same_value-requires-clause-room : goal.same_value-requires-clause-room
same_value-requires-clause-room g c =
    let p = rw (c.unwrap.ensures, c.unwrap-p.ensures) at c.next_attribute.ensures in
    let q = rw (c.unwrap-2.ensures, c.unwrap-q.ensures) at c.next_attribute-2.ensures in
    omega (arith, c.requires.room, p.counted, p.room, q.counted, q.room)

pub returns-clause-compared : goal.returns-clause-compared
returns-clause-compared g c =
    let p = rw (c.unwrap.ensures, c.unwrap-p.ensures) at c.next_attribute.ensures in
    let q = rw (c.unwrap-2.ensures, c.unwrap-q.ensures) at c.next_attribute-2.ensures in
    let compared = c.same_value.ensures in
    let h = g.F.LinkFamily.headers c.args.ctx in
    record {
      same = rw (p.nla_items_are, q.nla_items_are) compared.same;
      counted =
          on_true c.same_value.result
          (λ e.
          omega (
            arith,
            p.counted,
            q.counted,
            ap (first_headers h) p.nla_items_are,
            ap (first_headers h) q.nla_items_are,
            e,
          ))
          compared.counted;
      rises = omega (arith, p.counted, q.counted, compared.rises);
      quarter = omega (arith, p.counted, p.room, q.counted, q.room, compared.quarter);
    }

pub returns-clause-equal : goal.returns-clause-equal
returns-clause-equal g c =
    let p = rw (c.unwrap.ensures, c.unwrap-p.ensures) at c.next_attribute.ensures in
    let q = rw (c.unwrap-2.ensures, c.unwrap-q.ensures) at c.next_attribute-2.ensures in
    let a = c.unwrap-p.result.0 in
    let b = c.unwrap-q.result.0 in
    let m = g.F.LinkFamily.meaning c.args.ctx in
    rw (p.nla_items_are, q.nla_items_are)
    (meanings_same (m a) (m b) (g.F.LinkFamily.alike c.args.ctx a b) c.same_value.result
    (λ x y. (g.met.F.LinkFamily.lawful c.args.ctx).alike_is a b x y p.attribute q.attribute)
    (rw p.nla_items_are at c.requires.first) (rw q.nla_items_are at c.requires.second)
    c.same_value.ensures.same)
