use Rattle.std.proofs.Common.{arith, ap, refl, sym, ◌∙◌, ◌-◌, length, IsOk, Option}
use Rattle.std.specs.Option.{option_map}
use Rattle.linkinfo_table.specs.Last.{StandsIn, attributes_of, covers}
use Rattle.linkinfo_table.specs.Unmet.{counted_unmet}
use Rattle.linkinfo_table.specs.Unmets.{attribute_unmets, first_at, found_unmets}
use Rattle.linkinfo_table.specs.declared.last.PlacedNla.{PlacedNla}
use Rattle.linkinfo_table.specs.declared.unmet.Unmet.{Unmet}
use Rattle.linkinfo_table.specs.declared.unmet.UnmetAt.{UnmetAt}
use Rattle.linkinfo_table.proofs.Blocks.{told_later}
use Rattle.linkinfo_table.proofs.Differences.{front_ok}
use Rattle.linkinfo_table.proofs.Lasts.{
  all_stand,
  last_stands,
  left_at_attribute,
  left_at_start,
}
use Rattle.linkinfo_table.proofs.Unmets.{
  and_both,
  counts_found,
  found_room,
  indexed_holds,
  indexed_type,
  last_accepted,
  last_found,
  not_told,
  told_is,
  unmet_within,
}
use Rattle.linkinfo_table.proofs.unmet.unmet_of_types.Goals as goal

pub loop-nla-init : goal.loop-nla-init
loop-nla-init g c =
    let start = left_at_start c.args.want.now in
    record {
      accepted = c.requires.want;
      stand = rw start (all_stand c.args.want.now);
      left = rw start refl;
      room = omega (arith, c.new-count.ensures);
    }

pub found_unmet-requires-clause-have : goal.found_unmet-requires-clause-have
found_unmet-requires-clause-have g c =
    let meaning = g.F.LinkFamily.meaning c.args.ctx in
    indexed_holds (λ p. IsOk (meaning p.nla)) c.args.have.now c.new-found.result
    c.kind-kind.result c.find-last.result (rw c.new-found.ensures refl) c.find-last.ensures.last
    (last_accepted meaning c.kind-kind.result c.args.have.now c.requires.have)

pub found_unmet-requires-clause-same_type : goal.found_unmet-requires-clause-same_type
found_unmet-requires-clause-same_type g c =
    rw c.find-last.ensures.last
    (indexed_type c.new-found.result c.kind-kind.result _ c.kind-kind.ensures)

pub found_unmet-requires-clause-have_room : goal.found_unmet-requires-clause-have_room
found_unmet-requires-clause-have_room g c =
    found_room c.args.have.now c.find-last.result
    (indexed_holds (StandsIn c.args.have.now) c.args.have.now c.new-found.result
    c.kind-kind.result c.find-last.result (rw c.new-found.ensures refl) c.find-last.ensures.last
    (last_stands c.kind-kind.result c.args.have.now)) (omega arith)

pub returns-in-Some-clause-within : goal.returns-in-Some-clause-within
returns-in-Some-clause-within g c =
    let step = rw c.in-Some-Ok.field-0-is at c.in-Some-Ok.ensures in
    let before = c.loop-nla.invariant in
    let want = c.args.want.now in
    let front =
    left_at_attribute want c.loop-nla.rest.now c.in-Some-Ok.after.now c.in-Some-Ok.nla _ _ step
    (omega (arith, before.room)) in
    unmet_within want c.args.have.now _ c.find-last.result _ (rw front at before.stand).0
    (indexed_holds (StandsIn c.args.have.now) c.args.have.now c.new-found.result
    c.kind-kind.result c.find-last.result (rw c.new-found.ensures refl) c.find-last.ensures.last
    (last_stands c.kind-kind.result c.args.have.now)) c.in-Some.ensures.within

pub loop-nla-preserved-in_default-found_unmet : goal.loop-nla-preserved-in_default-found_unmet
loop-nla-preserved-in_default-found_unmet g c =
    let step = rw c.in-Some-Ok.field-0-is at c.in-Some-Ok.ensures in
    let before = c.loop-nla.invariant in
    let want = c.args.want.now in
    let have = c.args.have.now in
    let family = g.F.LinkFamily in
    let unmet =
    λ (found : Option PlacedNla) (p : PlacedNla). first_at c.args.from
    (found_unmets family.FAMILY
    (attribute_unmets (family.contents c.args.ctx) family.FAMILY (family.alike c.args.ctx))
    found p) in
    let front =
    left_at_attribute want c.loop-nla.rest.now c.in-Some-Ok.after.now c.in-Some-Ok.nla _ _ step
    (omega (arith, before.room)) in
    let w : PlacedNla = record {
      offset = length want - length c.loop-nla.rest.now;
      nla = c.in-Some-Ok.nla;
    } in
    let counted =
    counts_found want c.args.start c.new-wanted.result w c.kind-kind.result c.new-wanted.ensures
    c.kind-kind.ensures c.offset.result w.offset _ c.offset.ensures refl c.if-eq.ensures in
    let found =
    last_found have c.args.start c.new-found.result w c.kind-kind.result c.new-found.ensures
    c.kind-kind.ensures c.find-last.result c.find-last.ensures.last (and_both _ _ counted).0 in
    let told =
    told_is unmet c.args.start (attributes_of have) (attributes_of want) w c.find-last.result
    c.found_unmet.result counted found c.found_unmet.ensures.unmet in
    record {
      accepted =
          (front_ok (family.meaning c.args.ctx) c.loop-nla.rest.now c.in-Some-Ok.after.now
          c.in-Some-Ok.nla before.accepted step.nla_items_are).1;
      stand = (rw front at before.stand).1;
      left =
          sym
          (told_later (covers c.args.start)
          (counted_unmet unmet (attributes_of have) (attributes_of want)) w _
          (told
          ∙ ap (λ (o : Option Unmet).
          option_map (λ u. let t : UnmetAt = record { offset = w.offset; unmet = u } in t) o)
          c.in_default-found_unmet.is))
          ∙ (rw front at before.left);
      room = omega (arith, step.counted, step.room, before.room);
    }

pub loop-nla-preserved : goal.loop-nla-preserved
loop-nla-preserved g c =
    let step = rw c.in-Some-Ok.field-0-is at c.in-Some-Ok.ensures in
    let before = c.loop-nla.invariant in
    let want = c.args.want.now in
    let have = c.args.have.now in
    let family = g.F.LinkFamily in
    let unmet =
    λ (found : Option PlacedNla) (p : PlacedNla). first_at c.args.from
    (found_unmets family.FAMILY
    (attribute_unmets (family.contents c.args.ctx) family.FAMILY (family.alike c.args.ctx))
    found p) in
    let front =
    left_at_attribute want c.loop-nla.rest.now c.in-Some-Ok.after.now c.in-Some-Ok.nla _ _ step
    (omega (arith, before.room)) in
    let w : PlacedNla = record {
      offset = length want - length c.loop-nla.rest.now;
      nla = c.in-Some-Ok.nla;
    } in
    let is =
    counts_found want c.args.start c.new-wanted.result w c.kind-kind.result c.new-wanted.ensures
    c.kind-kind.ensures c.offset.result w.offset _ c.offset.ensures refl c.if-eq.ensures in
    record {
      accepted =
          (front_ok (family.meaning c.args.ctx) c.loop-nla.rest.now c.in-Some-Ok.after.now
          c.in-Some-Ok.nla before.accepted step.nla_items_are).1;
      stand = (rw front at before.stand).1;
      left =
          sym
          (told_later (covers c.args.start)
          (counted_unmet unmet (attributes_of have) (attributes_of want)) w _
          (not_told unmet c.args.start (attributes_of have) (attributes_of want) w is))
          ∙ (rw front at before.left);
      room = omega (arith, step.counted, step.room, before.room);
    }
