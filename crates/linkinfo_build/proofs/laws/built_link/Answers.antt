use Rattle.linkinfo_build.proofs.LinkParts.{is_built}
use Rattle.linkinfo_build.proofs.LinkReading.{data_part_is, link_framed, string_bytes, string_short}
use Rattle.linkinfo_build.proofs.laws.built_link.Goals as goal

pub returns-clause-bytes : goal.returns-clause-bytes
returns-clause-bytes c = λ string h.
    string_bytes c.args.link.now string
    (record {
      kind = c.held_name.ensures;
      content = c.held_data.ensures;
      port_kind = c.held_name-2.ensures;
      port_data = c.held_data-2.ensures;
    }) h

pub returns-clause-short : goal.returns-clause-short
returns-clause-short c = λ string h. string_short c.args.link.now string h

pub returns-clause-framed : goal.returns-clause-framed
returns-clause-framed c = λ attributes h.
    link_framed c.args.link.now attributes
    (record {
      kind = c.held_name.ensures;
      content = c.held_data.ensures;
      port_kind = c.held_name-2.ensures;
      port_data = c.held_data-2.ensures;
    }) h

pub returns-clause-parts : goal.returns-clause-parts
returns-clause-parts c = λ attributes h.
    let b = is_built c.args.link.now attributes h in
    record {
      kind = b.kind;
      content = b.content;
      port_kind = b.port_kind;
      port_data = b.port_data;
      are = b.are;
    }

pub returns-clause-content : goal.returns-clause-content
returns-clause-content c = λ payload h. data_part_is _ _ payload c.held_data.ensures h

pub returns-clause-port_data : goal.returns-clause-port_data
returns-clause-port_data c = λ payload h. data_part_is _ _ payload c.held_data-2.ensures h
