use Rattle.std.proofs.Common.{ℕ, List, ◌++◌, map, ap, sym, ◌∙◌, append-nil}
use Rattle.nla_frame.specs.Attribute.{Attribute}
use Rattle.serde_json.specs.Data.{Data, Members, no_members, object}
use Rattle.serde_json.specs.View.{members_view, view}
use Rattle.serde_json.proofs.Views.{view-Object}
use Rattle.linkinfo_view.specs.Attributes.{attributes}
use Rattle.linkinfo_view.specs.View.{list_data, others_in, others_member, rest_member, shown_in}
use Rattle.linkinfo_view.proofs.list.list_json.Goals as goal

-- the loop ends before what follows the last whole attribute
pub returns : goal.returns
unfolding list_data
returns g c =
    let shown = g.N.Nesting.shown in
    let table = c.args.table in
    let ends = c.in_default.ensures in
    let members = members_view c.loop-attribute.map.entries in
    let items = map view c.loop-attribute.others.items in
    let all_shown =
    sym (ap (λ (more : List Attribute). shown_in shown table more members) ends.attributes_are)
    ∙ c.loop-attribute.invariant.0 in
    let all_others = sym (append-nil items)
    ∙ sym (ap (λ (more : List Attribute). items ++ others_in table more) ends.attributes_are)
    ∙ c.loop-attribute.invariant.1 in
    let all_read = sym ends.rest_is ∙ c.loop-attribute.invariant.2 in
    let object_of = λ (xs : List Data) (ms : Members). others_member xs ms in
    view-Object c.put_rest.new.map
    ∙ ap object (
    c.in_ok-put_rest.ensures
    ∙ ap (λ (ms : Members). rest_member c.loop-attribute.rest.now ms) (
    c.in_ok-put_others.ensures
    ∙ ap (λ (xs : List Data). object_of xs members) all_others
    ∙ ap (λ (ms : Members). object_of (others_in table (attributes c.args.payload.now)) ms)
    all_shown
    )
    ∙ ap (λ (r : List ℕ). rest_member r (others_member
    (others_in table (attributes c.args.payload.now))
    (shown_in shown table (attributes c.args.payload.now) no_members))) all_read
    )
