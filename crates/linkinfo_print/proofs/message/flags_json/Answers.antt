use Rattle.std.proofs.Common.{◌≡◌, ◌++◌, ◌∙◌, List, map, arith, ap, append_assoc}
use Rattle.std.specs.List.{flat_map}
use Rattle.serde_json.specs.Data.{Data, array}
use Rattle.serde_json.specs.View.{items_of, view}
use Rattle.serde_json.proofs.Views.{view-Array}
use Rattle.linkinfo_print.specs.MessageData.{link_flags, no_carrier, one_flag, unnamed}
use Rattle.linkinfo_print.proofs.Flags.{all_flags, length-link_flags, next_flag}
use Rattle.linkinfo_print.proofs.message.flags_json.Goals as goal

pub loop-index-preserved : goal.loop-index-preserved
loop-index-preserved c =
    next_flag c.args.flags link_flags c.loop-index.index _ _ _
    (omega (arith, length-link_flags)) c.in_ok-push_flag.ensures c.loop-index.invariant

pub returns : goal.returns
returns c =
    let end : c.loop-index.index ≡ 18 = omega arith in
    let named : map view c.loop-index.names.items
    ≡ no_carrier c.args.flags ++ flat_map (one_flag c.args.flags) link_flags =
    all_flags c.args.flags c.loop-index.index _ _ end c.loop-index.invariant in
    let all : map view c.push_unnamed.new.names.items
    ≡ no_carrier c.args.flags
    ++ (flat_map (one_flag c.args.flags) link_flags ++ unnamed c.args.flags) =
    c.in_ok-push_unnamed.ensures
    ∙ ap (λ (ds : List Data). ds ++ unnamed c.args.flags) named
    ∙ append_assoc (no_carrier c.args.flags) _ _ in
    view-Array c.push_unnamed.new.names ∙ ap (λ (ds : List Data). array (items_of ds)) all
