use Rattle.linkinfo_numbers.specs.Kind.{
  text_of_kind-kind_of_name,
  tag_of_kind-kind_of_name,
  kind_of_name-text_of_kind,
}
use Rattle.linkinfo_numbers.specs.Kind.{tag_of_name-text_of_kind, kind_attribute_reads_back}
use Rattle.linkinfo_numbers.specs.PortKind.{
  text_of_port_kind-port_kind_of_name,
  tag_of_port_kind-port_kind_of_name,
}
use Rattle.linkinfo_numbers.specs.PortKind.{
  port_kind_of_name-text_of_port_kind,
  port_tag_of_name-text_of_port_kind,
}
use Rattle.linkinfo_numbers.specs.PortKind.{port_kind_attribute_reads_back}
use Rattle.linkinfo_numbers.specs.Kind.{kind_meaning_is_proper}
use Rattle.linkinfo_numbers.specs.PortKind.{port_kind_meaning_is_proper}
use Rattle.linkinfo_numbers.proofs.laws.kind_texts.Goals as goal

pub returns-clause-text : goal.returns-clause-text
returns-clause-text c = text_of_kind-kind_of_name

pub returns-clause-tag : goal.returns-clause-tag
returns-clause-tag c = tag_of_kind-kind_of_name

pub returns-clause-again : goal.returns-clause-again
returns-clause-again c = kind_of_name-text_of_kind

pub returns-clause-same_tag : goal.returns-clause-same_tag
returns-clause-same_tag c = tag_of_name-text_of_kind

pub returns-clause-port_text : goal.returns-clause-port_text
returns-clause-port_text c = text_of_port_kind-port_kind_of_name

pub returns-clause-port_tag : goal.returns-clause-port_tag
returns-clause-port_tag c = tag_of_port_kind-port_kind_of_name

pub returns-clause-port_again : goal.returns-clause-port_again
returns-clause-port_again c = port_kind_of_name-text_of_port_kind

pub returns-clause-port_same_tag : goal.returns-clause-port_same_tag
returns-clause-port_same_tag c = port_tag_of_name-text_of_port_kind

pub returns-clause-reads_back : goal.returns-clause-reads_back
returns-clause-reads_back c = kind_attribute_reads_back

pub returns-clause-port_reads_back : goal.returns-clause-port_reads_back
returns-clause-port_reads_back c = port_kind_attribute_reads_back

pub returns-clause-read : goal.returns-clause-read
returns-clause-read c = kind_meaning_is_proper

pub returns-clause-port_read : goal.returns-clause-port_read
returns-clause-port_read c = port_kind_meaning_is_proper
