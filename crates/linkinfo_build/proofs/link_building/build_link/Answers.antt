use Rattle.std.proofs.Common.{sym, ◌∙◌}
use Rattle.linkinfo_build.proofs.LinkParts.{link_ok}
use Rattle.linkinfo_build.proofs.link_building.build_link.Goals as goal

pub write_link-requires-clause-fits : goal.write_link-requires-clause-fits
write_link-requires-clause-fits c =
    link_ok c.args.link.now c.in_ok-len.len (sym c.built_link_len.ensures.answer ∙ c.in_ok-len.was)
