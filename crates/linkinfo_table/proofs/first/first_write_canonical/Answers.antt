-- The byte string begins with an attribute, and its canonical encoding is written.
use Rattle.std.specs.Prelude.{drop, length}
use Rattle.std.proofs.Common.{arith, ap, sym, ◌∙◌, ◌++◌}
use Rattle.nla_frame.specs.Attribute.{canonical_string}
use Rattle.nla_frame.proofs.Emitting.{length-canonical_string}
use Rattle.nla_frame.specs.Canonical.{attribute_for}
use Rattle.linkinfo_table.specs.Lists.{canonical_first}
use Rattle.linkinfo_table.proofs.Firsts.{seen_once}
use Rattle.linkinfo_table.proofs.first.first_write_canonical.Goals as goal

pub next_attribute-requires : goal.next_attribute-requires
next_attribute-requires g c = omega (arith, c.new.ensures, seen_once c.args.bytes.now)

pub write_canonical-requires-clause-accepted : goal.write_canonical-requires-clause-accepted
write_canonical-requires-clause-accepted g c =
    let p = rw (c.unwrap.ensures, c.unwrap-nla.ensures) at c.next_attribute.ensures in
    rw p.nla_items_are at c.requires.accepted

pub write_canonical-requires-clause-fits : goal.write_canonical-requires-clause-fits
write_canonical-requires-clause-fits g c =
    let p = rw (c.unwrap.ensures, c.unwrap-nla.ensures) at c.next_attribute.ensures in
    let a =
    attribute_for g.F.Nla.attribute (g.F.LinkFamily.meaning c.args.ctx c.unwrap-nla.result.0) in
    omega (arith, rw p.nla_items_are at c.requires.fits, length-canonical_string a)

pub write_canonical-requires-clause-room : goal.write_canonical-requires-clause-room
write_canonical-requires-clause-room g c =
    let p = rw (c.unwrap.ensures, c.unwrap-nla.ensures) at c.next_attribute.ensures in
    let a =
    attribute_for g.F.Nla.attribute (g.F.LinkFamily.meaning c.args.ctx c.unwrap-nla.result.0) in
    omega (arith, rw p.nla_items_are at c.requires.room, length-canonical_string a)

pub returns : goal.returns
returns g c =
    let p = rw (c.unwrap.ensures, c.unwrap-nla.ensures) at c.next_attribute.ensures in
    let a =
    attribute_for g.F.Nla.attribute (g.F.LinkFamily.meaning c.args.ctx c.unwrap-nla.result.0) in
    let m = g.F.LinkFamily.meaning c.args.ctx in
    let old = c.args.buffer.now in
    let writes = c.write_canonical.ensures in
    record {
      taken = rw p.nla_items_are (omega (arith, writes.taken, length-canonical_string a));
      written =
          writes.written
          ∙ (ap (λ n. canonical_string a ++ drop n old) (sym (length-canonical_string a))
          ∙ ap (λ ps. canonical_first g.F.Nla.attribute m ps
          ++ drop (length (canonical_first g.F.Nla.attribute m ps)) old) (sym p.nla_items_are));
    }
