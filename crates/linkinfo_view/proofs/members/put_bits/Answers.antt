use Rattle.std.proofs.Common.{List, ◌+◌, ◌-◌, ap, sym, ◌∙◌, arith}
use Rattle.serde_json.specs.Data.{Members}
use Rattle.serde_json.specs.View.{members_view}
use Rattle.linkinfo_view.proofs.Places.{bits_end, bits_step}
use Rattle.linkinfo_view.specs.Values.{Named, bits_from}
use Rattle.linkinfo_view.specs.View.{put_all}
use Rattle.linkinfo_view.proofs.members.put_bits.Goals as goal

pub loop-place-preserved : goal.loop-place-preserved
loop-place-preserved c =
    let later = λ (ms : Members). put_all (bits_from (16 - (c.loop-place.place + 1))
    (c.loop-place.place + 1) c.args.flags c.args.number) ms in
    ap later (c.in_ok-put_bit.ensures)
    ∙ sym (bits_step c.loop-place.place c.args.flags c.args.number
    (members_view c.loop-place.map.entries) (omega arith))
    ∙ c.loop-place.invariant

pub returns : goal.returns
returns c =
    let done = λ (xs : List Named). put_all xs (members_view c.loop-place.map.entries) in
    sym (ap done (bits_end c.loop-place.place c.args.flags c.args.number (omega arith)))
    ∙ c.loop-place.invariant
