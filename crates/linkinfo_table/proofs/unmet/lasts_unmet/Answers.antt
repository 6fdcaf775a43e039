use Rattle.std.proofs.Common.{arith, ap, nat_lt, sym, ◌∙◌, Option}
use Rattle.linkinfo_table.specs.Last.{attributes_of}
use Rattle.linkinfo_table.specs.Unmet.{counted_unmet, earlier, first_told}
use Rattle.linkinfo_table.specs.Unmets.{attribute_unmets, first_at, found_unmets}
use Rattle.linkinfo_table.specs.declared.unmet.UnmetAt.{UnmetAt}
use Rattle.linkinfo_table.proofs.Blocks.{next_block, none_below, unmet_in, whole_list}
use Rattle.linkinfo_table.proofs.Unmets.{earlier_within}
use Rattle.linkinfo_table.proofs.unmet.lasts_unmet.Goals as goal

pub loop-block-init : goal.loop-block-init
loop-block-init g c =
    let family = g.F.LinkFamily in
    let want = attributes_of c.args.want.now in
    let unmet =
    counted_unmet
    (λ found p. first_at c.args.from
    (found_unmets family.FAMILY
    (attribute_unmets (family.contents c.args.ctx) family.FAMILY (family.alike c.args.ctx))
    found p))
    (attributes_of c.args.have.now) want in
    record { first = sym (none_below unmet want); within = tt }

pub loop-block-preserved : goal.loop-block-preserved
loop-block-preserved g c =
    let family = g.F.LinkFamily in
    let want = attributes_of c.args.want.now in
    let unmet =
    counted_unmet
    (λ found p. first_at c.args.from
    (found_unmets family.FAMILY
    (attribute_unmets (family.contents c.args.ctx) family.FAMILY (family.alike c.args.ctx))
    found p))
    (attributes_of c.args.have.now) want in
    record {
      first =
          c.earlier-first.ensures
          ∙ ap (λ (o : Option UnmetAt). earlier o c.unmet_of_types.result)
          c.loop-block.invariant.first
          ∙ ap (λ (o : Option UnmetAt).
          earlier (first_told (λ k. nat_lt k c.loop-block.block) unmet want) o)
          c.unmet_of_types.ensures.unmet
          ∙ next_block c.loop-block.block unmet c.args.want.now;
      within =
          rw c.earlier-first.ensures
          (earlier_within c.args.want.now c.args.have.now c.loop-block.first c.unmet_of_types.result
          c.loop-block.invariant.within c.unmet_of_types.ensures.within);
    }

pub returns-in_err-first-clause-unmet : goal.returns-in_err-first-clause-unmet
returns-in_err-first-clause-unmet g c =
    let family = g.F.LinkFamily in
    let want = attributes_of c.args.want.now in
    let unmet =
    counted_unmet
    (λ found p. first_at c.args.from
    (found_unmets family.FAMILY
    (attribute_unmets (family.contents c.args.ctx) family.FAMILY (family.alike c.args.ctx))
    found p))
    (attributes_of c.args.have.now) want in
    c.from_residual.ensures
    ∙ (ap unmet_in (sym c.in_err-first.was)
    ∙ whole_list unmet want c.loop-block.block c.loop-block.first c.loop-block.invariant.first
    (omega (arith, c.loop-block-test.false, c.types_end-end.ensures.end)))

pub returns-clause-unmet : goal.returns-clause-unmet
returns-clause-unmet g c =
    let family = g.F.LinkFamily in
    let want = attributes_of c.args.want.now in
    let unmet =
    counted_unmet
    (λ found p. first_at c.args.from
    (found_unmets family.FAMILY
    (attribute_unmets (family.contents c.args.ctx) family.FAMILY (family.alike c.args.ctx))
    found p))
    (attributes_of c.args.have.now) want in
    ap unmet_in (sym c.in_ok-first.was)
    ∙ whole_list unmet want c.loop-block.block c.loop-block.first c.loop-block.invariant.first
    (omega (arith, c.loop-block-test.false, c.types_end-end.ensures.end))
