use Rattle.std.proofs.Common.{append_assoc, refl}
use Rattle.linkinfo_c.proofs.messages.push_cause.Goals as goal

pub returns-in-Attribute : goal.returns-in-Attribute
returns-in-Attribute c =
    rw (
      c.in-Attribute.is,
      c.push_str-in-Attribute-2.ensures.bytes,
      c.push_str-in-Attribute.ensures.bytes,
      c.format.ensures.text,
    ) (simp append_assoc refl)
