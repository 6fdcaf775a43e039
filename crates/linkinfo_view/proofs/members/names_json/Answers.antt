use Rattle.std.proofs.Common.{
  ℕ,
  List,
  ◌+◌,
  ◌-◌,
  ◌++◌,
  map,
  ap,
  sym,
  ◌∙◌,
  append_assoc,
  append-nil,
  arith,
}
use Rattle.serde_json.specs.Data.{Data, array}
use Rattle.serde_json.specs.View.{items_of, view}
use Rattle.serde_json.proofs.Views.{view-Array}
use Rattle.linkinfo_view.proofs.Places.{flags_end, flags_step, names_end, names_step}
use Rattle.linkinfo_view.specs.Values.{names_from, over_flags, unnamed_data, without}
use Rattle.linkinfo_view.proofs.members.names_json.Goals as goal

pub loop-place-preserved : goal.loop-place-preserved
loop-place-preserved c =
    let place = c.loop-place.place in
    let named = names_from (16 - (place + 1)) (place + 1) c.args.flags c.args.number in
    let front = map view c.loop-place.names.items in (
      ap (λ (xs : List Data). xs ++ named) (c.in_ok-push_name.ensures)
          ∙ append_assoc front _ named
          ∙ ap (λ (xs : List Data). front ++ xs)
          (sym (names_step place c.args.flags c.args.number (omega arith)))
          ∙ c.loop-place.invariant.0,
      ap (λ (left : ℕ). over_flags without (16 - (place + 1)) (place + 1) c.args.flags
          c.args.number left) c.without-left.ensures
          ∙ sym (flags_step without place c.args.flags c.args.number c.loop-place.left
          (omega arith))
          ∙ c.loop-place.invariant.1,
    )

pub returns : goal.returns
returns c =
    let place = c.loop-place.place in
    let front = map view c.loop-place.names.items in
    let named = sym (append-nil front)
    ∙ sym (ap (λ (xs : List Data). front ++ xs)
    (names_end place c.args.flags c.args.number (omega arith)))
    ∙ c.loop-place.invariant.0 in
    let unnamed = sym (flags_end without place c.args.flags c.args.number c.loop-place.left
    (omega arith))
    ∙ c.loop-place.invariant.1 in
    view-Array c.push_unnamed.new.names
    ∙ ap (λ (xs : List Data). array (items_of xs)) (c.in_ok-push_unnamed.ensures
    ∙ ap (λ (xs : List Data). xs ++ unnamed_data c.loop-place.left) named
    ∙ ap (λ (left : ℕ). names_from 16 0 c.args.flags c.args.number ++ unnamed_data left) unnamed)
