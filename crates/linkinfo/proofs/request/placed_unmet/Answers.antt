use Rattle.std.specs.Option.{option_map}
use Rattle.std.proofs.Common.{arith, ap, sym, ◌∙◌, Option}
use Rattle.linkinfo_table.specs.declared.last.PlacedNla.{PlacedNla}
use Rattle.linkinfo_table.specs.Unmets.{first_at}
use Rattle.linkinfo.specs.Unmet.{link_at, names_in}
use Rattle.linkinfo.specs.Unmets.{link_unmets}
use Rattle.linkinfo.proofs.AllUnmets.{none_of_ended}
use Rattle.linkinfo.proofs.Unmets.{free_roles, free_unmets, roles}
use Rattle.linkinfo.proofs.request.placed_unmet.Goals as goal

-- nothing of an attribute is after its end
pub returns-then-end-from : goal.returns-then-end-from
returns-then-end-from g c =
    sym
    (none_of_ended g.P.DataLayer.families c.args.have.now c.args.want.now c.args.from
    c.args.found.now c.args.placed.now
    (omega (arith, c.if-end-from.true, c.length.ensures)))

pub item_unmet-requires-clause-have : goal.item_unmet-requires-clause-have
item_unmet-requires-clause-have g c =
    (free_roles g.P.DataLayer.families c.args.have.now c.args.want.now c.in-Some.found
    c.args.placed.now c.kind-kind.result c.none.result c.role_of.result c.role_of.ensures
    c.kind-kind.ensures (sym c.if-not-belongs_to_a_kind.ensures)
    (rw c.in-Some.is at c.requires.same_type) (rw c.in-Some.is at c.requires.have)
    c.requires.want).found

pub item_unmet-requires-clause-want : goal.item_unmet-requires-clause-want
item_unmet-requires-clause-want g c =
    (free_roles g.P.DataLayer.families c.args.have.now c.args.want.now c.in-Some.found
    c.args.placed.now c.kind-kind.result c.none.result c.role_of.result c.role_of.ensures
    c.kind-kind.ensures (sym c.if-not-belongs_to_a_kind.ensures)
    (rw c.in-Some.is at c.requires.same_type) (rw c.in-Some.is at c.requires.have)
    c.requires.want).wanted

pub returns-then-not-belongs_to_a_kind : goal.returns-then-not-belongs_to_a_kind
returns-then-not-belongs_to_a_kind g c =
    let layer = g.P.DataLayer.families in
    let have = c.args.have.now in
    let w = link_at c.args.want.now c.args.placed.now in
    c.item_unmet.ensures
    ∙ ap (first_at c.args.from)
    (free_unmets layer (link_at have c.in-Some.found) w c.kind-kind.result c.none.result
    c.role_of.result c.role_of.ensures c.kind-kind.ensures
    (sym c.if-not-belongs_to_a_kind.ensures))
    ∙ sym
    (ap (λ (o : Option PlacedNla).
    first_at c.args.from (link_unmets layer (option_map (link_at have) o) w))
    c.in-Some.is)

pub role_unmet-requires-clause-have : goal.role_unmet-requires-clause-have
role_unmet-requires-clause-have g c =
    (roles g.P.DataLayer.families c.args.have.now c.args.want.now c.in-Some.found c.args.placed.now
    c.kind-kind.result c.kinds.result (names_in c.names_before-had.result)
    (names_in c.names_before-wanted.result) c.role_of-role.result c.role_of-role.ensures
    c.kind-kind.ensures c.kinds.ensures c.names_before-wanted.ensures c.names_before-had.ensures
    c.if-not-is_same_kind.ensures (rw c.in-Some.is at c.requires.same_type)
    (rw c.in-Some.is at c.requires.have) c.requires.want).found

pub role_unmet-requires-clause-want : goal.role_unmet-requires-clause-want
role_unmet-requires-clause-want g c =
    (roles g.P.DataLayer.families c.args.have.now c.args.want.now c.in-Some.found c.args.placed.now
    c.kind-kind.result c.kinds.result (names_in c.names_before-had.result)
    (names_in c.names_before-wanted.result) c.role_of-role.result c.role_of-role.ensures
    c.kind-kind.ensures c.kinds.ensures c.names_before-wanted.ensures c.names_before-had.ensures
    c.if-not-is_same_kind.ensures (rw c.in-Some.is at c.requires.same_type)
    (rw c.in-Some.is at c.requires.have) c.requires.want).wanted
