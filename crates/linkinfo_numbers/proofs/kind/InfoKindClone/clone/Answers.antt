-- The kind of a kind's tag is that kind, except for `Other`.
use Rattle.std.proofs.Common.{sym, ap, ◌∙◌}
use Rattle.linkinfo_numbers.specs.Kind.{kind_of_tag, kind_of_tag-tag_of_kind, no_kind, only_kind}
use Rattle.linkinfo_numbers.proofs.kind.InfoKindClone.clone.Goals as goal

pub returns-in-Some : goal.returns-in-Some
returns-in-Some c = record {
  cases = only_kind c.in-Some.kind c.args.self.now
      (sym c.in-Some.is
      ∙ (c.from_tag.ensures
      ∙ (ap kind_of_tag c.tag.ensures
      ∙ kind_of_tag-tag_of_kind c.args.self.now c.in_default.not-Other)));
}

pub unreachable-requires : goal.unreachable-requires
unreachable-requires c =
    no_kind c.args.self.now
    (sym c.in-None.is
    ∙ (c.from_tag.ensures
    ∙ (ap kind_of_tag c.tag.ensures
    ∙ kind_of_tag-tag_of_kind c.args.self.now c.in_default.not-Other)))

pub unreachable-unreachable : goal.unreachable-unreachable
unreachable-unreachable c =
    no_kind c.args.self.now
    (sym c.in-None.is
    ∙ (c.from_tag.ensures
    ∙ (ap kind_of_tag c.tag.ensures
    ∙ kind_of_tag-tag_of_kind c.args.self.now c.in_default.not-Other)))
