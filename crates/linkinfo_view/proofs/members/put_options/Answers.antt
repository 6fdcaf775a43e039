use Rattle.std.proofs.Common.{List, ◌+◌, ◌-◌, ap, sym, ◌∙◌, arith}
use Rattle.serde_json.specs.Data.{Members}
use Rattle.serde_json.specs.View.{members_view}
use Rattle.linkinfo_view.proofs.Places.{options_end, options_step}
use Rattle.linkinfo_view.specs.Values.{Named, options_from}
use Rattle.linkinfo_view.specs.View.{put_all}
use Rattle.linkinfo_view.proofs.members.put_options.Goals as goal

pub loop-place-preserved : goal.loop-place-preserved
loop-place-preserved c =
    let later = λ (ms : Members). put_all (options_from (16 - (c.loop-place.place + 1))
    (c.loop-place.place + 1) c.args.flags c.args.number c.args.mask) ms in
    ap later (c.in_ok-put_option.ensures)
    ∙ sym (options_step c.loop-place.place c.args.flags c.args.number c.args.mask
    (members_view c.loop-place.map.entries) (omega arith))
    ∙ c.loop-place.invariant

pub returns : goal.returns
returns c =
    let done = λ (xs : List Named). put_all xs (members_view c.loop-place.map.entries) in
    let place = c.loop-place.place in
    sym (ap done (options_end place c.args.flags c.args.number c.args.mask (omega arith)))
    ∙ c.loop-place.invariant
