-- A part more is the first of those that follow.
use Rattle.std.proofs.Common.{
  ◌≡◌,
  ◌%◌,
  ◌<◌,
  ◌==◌,
  Bool,
  true,
  cond,
  List,
  [],
  ◌∷◌,
  ◌++◌,
  map,
  append_assoc,
  append-nil,
  ap,
  arith,
  drop,
  length,
  sym,
  take,
  ◌∙◌,
}
use Rattle.std.proofs.lemmas.Grind.{common_steps}
use Rattle.std.proofs.lemmas.List.{map-append}
use Rattle.serde_json.specs.Data.{Data, array}
use Rattle.serde_json.specs.View.{items_of, view}
use Rattle.serde_json.proofs.Views.{view-Array}
use Rattle.linkinfo_view.specs.Text.{hex_data}
use Rattle.linkinfo_view.specs.Values.{plain_as}
use Rattle.linkinfo_view.proofs.Parts.{first_part, no_parts, parts_of}
use Rattle.linkinfo_view.proofs.value.array_json.Goals as goal

pub split_at-requires : goal.split_at-requires
split_at-requires c =
    let rest = c.loop-rest.rest.now in
    let some : 0 < length rest = grind (arith, common_steps) in
    (first_part c.args.width c.args.shape rest c.requires c.loop-rest.invariant.1 some).within

pub loop-rest-preserved : goal.loop-rest-preserved
loop-rest-preserved c =
    let width = c.args.width in
    let shape = c.args.shape in
    let rest = c.loop-rest.rest.now in
    let some : 0 < length rest = grind (arith, common_steps) in
    let first = first_part width shape rest c.requires c.loop-rest.invariant.1 some in
    let back : c.split_at.result.1.now ≡ drop width rest = c.split_at.ensures.back in
    let part : view c.in_ok-json_as.field-0 ≡ plain_as shape (take width rest) =
    c.in_ok-json_as.ensures ∙ ap (λ p. plain_as shape p) c.split_at.ensures.front in
    let old = c.loop-rest.items.items in
    let after = parts_of width shape c.split_at.result.1.now in (
      ap (λ xs. map view xs ++ after) c.in_ok-push.ensures.ok
          ∙ ap (λ xs. xs ++ after) (map-append view old (c.in_ok-json_as.field-0 ∷ []))
          ∙ append_assoc (map view old) (view c.in_ok-json_as.field-0 ∷ []) after
          ∙ (λ i. map view old ++ part i ∷ parts_of width shape (back i))
          ∙ ap (λ xs. map view old ++ xs) (sym first.parts_are)
          ∙ c.loop-rest.invariant.0,
      ap (λ p. length p % width) back ∙ first.rest,
    )

pub returns : goal.returns
returns c =
    let width = c.args.width in
    let shape = c.args.shape in
    let payload = c.args.payload.now in
    let items = map view c.loop-rest.items.items in
    let ended : length c.loop-rest.rest.now ≡ 0 = grind (arith, common_steps) in
    let whole : (length payload % width == 0) ≡ true = grind (arith, common_steps) in
    let parts : items ≡ parts_of width shape payload =
    sym (append-nil items)
    ∙ sym (ap (λ xs. items ++ xs) (no_parts width shape c.loop-rest.rest.now ended))
    ∙ c.loop-rest.invariant.0 in
    view-Array c.loop-rest.items
    ∙ ap (λ (xs : List Data). array (items_of xs)) parts
    ∙ sym (ap (λ (b : Bool). cond b (array (items_of (parts_of width shape payload)))
    (hex_data payload)) whole)
