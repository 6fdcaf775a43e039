-- The kind of a name is that of its tag, and otherwise `Other` of the name.
use Rattle.std.proofs.Common.{◌≡◌, Some, None, sym, ap, ◌∙◌}
use Rattle.linkinfo_numbers.specs.PortKind.{
  port_kind_of_tag,
  port_tag_of_name,
  text_of_port_kind,
  port_kind_of_name-tagged,
}
use Rattle.linkinfo_numbers.specs.PortKind.{
  port_kind_of_name-untagged,
  text_of_port_kind-port_kind_of_name,
}
use Rattle.linkinfo_numbers.proofs.port_kind.InfoPortKind.from_text.Goals as goal

pub returns-in-Some-clause-kind : goal.returns-in-Some-clause-kind
returns-in-Some-clause-kind c =
    let tagged : port_kind_of_tag (port_tag_of_name c.args.text.now) ≡ Some c.in-Some.kind = cc in
    sym (port_kind_of_name-tagged c.args.text.now c.in-Some.kind tagged)

pub returns-in-Some-clause-same_text : goal.returns-in-Some-clause-same_text
returns-in-Some-clause-same_text c =
    ap text_of_port_kind (returns-in-Some-clause-kind c)
    ∙ text_of_port_kind-port_kind_of_name c.args.text.now

pub returns-in_ok-copy_of-in-None-clause-kind : goal.returns-in_ok-copy_of-in-None-clause-kind
returns-in_ok-copy_of-in-None-clause-kind c =
    let untagged : port_kind_of_tag (port_tag_of_name c.args.text.now) ≡ None = cc in
    cc (port_kind_of_name-untagged c.args.text.now untagged, c.in_ok-copy_of-in-None.ensures)
