use Rattle.std.proofs.Common.{arith, ap, nat_lt, sym, ◌∙◌, Option}
use Rattle.linkinfo_table.specs.Last.{attributes_of}
use Rattle.linkinfo_table.specs.Unmet.{counted_unmet, earlier, first_told}
use Rattle.linkinfo_table.specs.declared.unmet.UnmetAt.{UnmetAt}
use Rattle.linkinfo_table.proofs.Blocks.{next_block, none_below, unmet_in, whole_list}
use Rattle.linkinfo_table.specs.Unmets.{first_at}
use Rattle.linkinfo_table.specs.declared.last.PlacedNla.{PlacedNla}
use Rattle.linkinfo_table.proofs.AllUnmets.{first_lasts}
use Rattle.linkinfo.specs.Unmets.{linked_unmets}
use Rattle.linkinfo.proofs.request.next_unmet_in.Goals as goal

pub loop-block-init : goal.loop-block-init
loop-block-init g c =
    let layer = g.P.DataLayer.families in
    let unmet =
    counted_unmet
    (λ (found : Option PlacedNla) (p : PlacedNla).
    first_at c.args.from (linked_unmets layer c.args.have.now c.args.want.now found p))
    (attributes_of c.args.have.now) (attributes_of c.args.want.now) in
    record { first = sym (none_below unmet (attributes_of c.args.want.now)) }

pub loop-block-preserved : goal.loop-block-preserved
loop-block-preserved g c =
    let layer = g.P.DataLayer.families in
    let unmet =
    counted_unmet
    (λ (found : Option PlacedNla) (p : PlacedNla).
    first_at c.args.from (linked_unmets layer c.args.have.now c.args.want.now found p))
    (attributes_of c.args.have.now) (attributes_of c.args.want.now) in
    let want = attributes_of c.args.want.now in
    record {
      first =
          c.earlier-first.ensures
          ∙ ap (λ (o : Option UnmetAt). earlier o c.unmet_of_types.result)
          c.loop-block.invariant.first
          ∙ ap (λ (o : Option UnmetAt).
          earlier (first_told (λ k. nat_lt k c.loop-block.block) unmet want) o)
          c.unmet_of_types.ensures
          ∙ next_block c.loop-block.block unmet c.args.want.now;
    }

pub overflow_add-block : goal.overflow_add-block
overflow_add-block g c = omega (arith, c.loop-block-test.true, c.types_end-end.ensures.small)

pub returns-in_err-first : goal.returns-in_err-first
returns-in_err-first g c =
    let layer = g.P.DataLayer.families in
    let unmet =
    counted_unmet
    (λ (found : Option PlacedNla) (p : PlacedNla).
    first_at c.args.from (linked_unmets layer c.args.have.now c.args.want.now found p))
    (attributes_of c.args.have.now) (attributes_of c.args.want.now) in
    let all =
    first_lasts c.args.from (linked_unmets layer c.args.have.now c.args.want.now)
    (attributes_of c.args.have.now) (attributes_of c.args.want.now) in
    c.from_residual.ensures
    ∙ (ap unmet_in (sym c.in_err-first.was)
    ∙ whole_list unmet (attributes_of c.args.want.now) c.loop-block.block c.loop-block.first
    c.loop-block.invariant.first
    (omega (arith, c.loop-block-test.false, c.types_end-end.ensures.end))
    ∙ all)

pub returns : goal.returns
returns g c =
    let layer = g.P.DataLayer.families in
    let unmet =
    counted_unmet
    (λ (found : Option PlacedNla) (p : PlacedNla).
    first_at c.args.from (linked_unmets layer c.args.have.now c.args.want.now found p))
    (attributes_of c.args.have.now) (attributes_of c.args.want.now) in
    let all =
    first_lasts c.args.from (linked_unmets layer c.args.have.now c.args.want.now)
    (attributes_of c.args.have.now) (attributes_of c.args.want.now) in
    ap unmet_in (sym c.in_ok-first.was)
    ∙ whole_list unmet (attributes_of c.args.want.now) c.loop-block.block c.loop-block.first
    c.loop-block.invariant.first
    (omega (arith, c.loop-block-test.false, c.types_end-end.ensures.end))
    ∙ all
