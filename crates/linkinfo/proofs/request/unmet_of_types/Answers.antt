use Rattle.std.proofs.Common.{arith, ap, refl, sym, ◌∙◌, ◌-◌, length, None, Option}
use Rattle.std.specs.Option.{option_map}
use Rattle.linkinfo_table.specs.Last.{attributes_of, covers, has_type}
use Rattle.linkinfo_table.specs.declared.last.PlacedNla.{PlacedNla}
use Rattle.linkinfo_table.proofs.Lasts.{last_holds, left_at_attribute, left_at_start}
use Rattle.linkinfo_table.specs.Unmet.{counted_unmet}
use Rattle.linkinfo_table.specs.declared.unmet.Unmet.{Unmet}
use Rattle.linkinfo_table.specs.declared.unmet.UnmetAt.{UnmetAt}
use Rattle.linkinfo_table.proofs.Blocks.{told_later}
use Rattle.linkinfo_table.proofs.Unmets.{
  and_both,
  counts_found,
  indexed_holds,
  indexed_type,
  last_found,
  not_told,
  told_is,
}
use Rattle.linkinfo_table.specs.Unmets.{first_at}
use Rattle.linkinfo.specs.Unmet.{link_at}
use Rattle.linkinfo.specs.Unmets.{linked_unmets}
use Rattle.linkinfo.specs.UnmetSteps.{IsAcceptedLink}
use Rattle.linkinfo.proofs.Unmets.{links_accepted}
use Rattle.linkinfo.proofs.request.unmet_of_types.Goals as goal

pub loop-nla-init : goal.loop-nla-init
loop-nla-init g c =
    let start = left_at_start c.args.want.now in
    record {
      accepted =
          rw start (links_accepted g.P.DataLayer.families c.args.want.now (omega arith)
          c.requires.want);
      left = rw start refl;
      room = omega (arith, c.new-count.ensures);
    }

pub loop-nla-preserved : goal.loop-nla-preserved
loop-nla-preserved g c =
    let step = rw c.in-Some-Ok.field-0-is at c.in-Some-Ok.ensures in
    let before = c.loop-nla.invariant in
    let want = c.args.want.now in
    let have = c.args.have.now in
    let unmet =
    λ (found : Option PlacedNla) (p : PlacedNla).
    first_at c.args.from (linked_unmets g.P.DataLayer.families have want found p) in
    let front =
    left_at_attribute want c.loop-nla.rest.now c.in-Some-Ok.after.now c.in-Some-Ok.nla _ _ step
    (omega (arith, before.room)) in
    let w : PlacedNla = record {
      offset = length want - length c.loop-nla.rest.now;
      nla = c.in-Some-Ok.nla;
    } in
    let is =
    counts_found want c.args.start c.new-wanted.result w c.kind-kind.result c.new-wanted.ensures
    c.kind-kind.ensures c.offset.result w.offset _ c.offset.ensures refl c.if-eq.ensures in
    record {
      accepted = (rw front at before.accepted).1;
      left =
          sym
          (told_later (covers c.args.start)
          (counted_unmet unmet (attributes_of have) (attributes_of want)) w _
          (not_told unmet c.args.start (attributes_of have)
          (attributes_of want) w is))
          ∙ (rw front at before.left);
      room = omega (arith, step.counted, step.room, before.room);
    }

pub placed_unmet-requires-clause-have : goal.placed_unmet-requires-clause-have
placed_unmet-requires-clause-have g c =
    let layer = g.P.DataLayer.families in
    let have = c.args.have.now in
    indexed_holds (λ p. IsAcceptedLink layer (link_at have p)) have c.new-found.result
    c.kind-kind.result c.find-last.result (rw c.new-found.ensures refl) c.find-last.ensures.last
    (last_holds (λ p. IsAcceptedLink layer (link_at have p)) (has_type c.kind-kind.result) None
    (attributes_of have)
    (links_accepted layer have (omega arith) c.requires.have) tt)

pub placed_unmet-requires-clause-same_type : goal.placed_unmet-requires-clause-same_type
placed_unmet-requires-clause-same_type g c =
    rw c.find-last.ensures.last
    (indexed_type c.new-found.result c.kind-kind.result _ c.kind-kind.ensures)

pub loop-nla-preserved-in_default-placed_unmet : goal.loop-nla-preserved-in_default-placed_unmet
loop-nla-preserved-in_default-placed_unmet g c =
    let step = rw c.in-Some-Ok.field-0-is at c.in-Some-Ok.ensures in
    let before = c.loop-nla.invariant in
    let want = c.args.want.now in
    let have = c.args.have.now in
    let unmet =
    λ (found : Option PlacedNla) (p : PlacedNla).
    first_at c.args.from (linked_unmets g.P.DataLayer.families have want found p) in
    let front =
    left_at_attribute want c.loop-nla.rest.now c.in-Some-Ok.after.now c.in-Some-Ok.nla _ _ step
    (omega (arith, before.room)) in
    let w : PlacedNla = record {
      offset = length want - length c.loop-nla.rest.now;
      nla = c.in-Some-Ok.nla;
    } in
    let counted =
    counts_found want c.args.start c.new-wanted.result w c.kind-kind.result c.new-wanted.ensures
    c.kind-kind.ensures c.offset.result w.offset _ c.offset.ensures refl c.if-eq.ensures in
    let found =
    last_found have c.args.start c.new-found.result w c.kind-kind.result c.new-found.ensures
    c.kind-kind.ensures c.find-last.result c.find-last.ensures.last (and_both _ _ counted).0 in
    let told =
    told_is unmet c.args.start (attributes_of have) (attributes_of want) w c.find-last.result
    c.placed_unmet.result counted found c.placed_unmet.ensures in
    record {
      accepted = (rw front at before.accepted).1;
      left =
          sym
          (told_later (covers c.args.start)
          (counted_unmet unmet (attributes_of have) (attributes_of want)) w _
          (told
          ∙ ap (λ (o : Option Unmet).
          option_map (λ u. let t : UnmetAt = record { offset = w.offset; unmet = u } in t) o)
          c.in_default-placed_unmet.is))
          ∙ (rw front at before.left);
      room = omega (arith, step.counted, step.room, before.room);
    }
