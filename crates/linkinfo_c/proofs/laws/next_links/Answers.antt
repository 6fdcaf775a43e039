use Rattle.std.proofs.Common.{length, ap, ◌∙◌}
use Rattle.std.specs.Prelude.{map}
use Rattle.linkinfo_c.specs.Messages.{link_record}
use Rattle.linkinfo_c.proofs.Parts.{calls_are}
use Rattle.linkinfo_c.proofs.laws.next_links.Goals as goal

pub returns : goal.returns
returns c =
    λ n s cursor.
    calls_are n s cursor
    ∙ ap (λ l. map (link_record (length s)) l) (c.resumed.ensures.in_order n s cursor)
