use Rattle.std.proofs.Common.{◌≡◌, ◌∙◌, sym, ap, ℕ, List, inl, inr}
use Rattle.nla_frame.specs.Payload.{ipv4_of, ipv6_of}
use Rattle.linkinfo_shapes.specs.Shapes.{means, verdict}
use Rattle.linkinfo_shapes.specs.ShapeLaws.{verdict_version}
use Rattle.linkinfo_shapes.specs.declared.shape.Shape.{Shape}
use Rattle.linkinfo_shapes.proofs.payload.check_variable.Goals as goal

verdict_under : (s t : Shape) (p : List ℕ) → s ≡ t → verdict (means t p) ≡ verdict (means s p)
verdict_under s t p e = sym (ap (λ (shape : Shape). verdict (means shape p)) e)

pub returns-in-Mark : goal.returns-in-Mark
returns-in-Mark c = elim c.in-Mark.is [
  | inl mark ↦ verdict_under _ _ _ mark
  | inr raw ↦ verdict_under _ _ _ raw
]

pub returns-in-Name : goal.returns-in-Name
returns-in-Name c = c.check_name.ensures ∙ verdict_under _ _ _ c.in-Name.is

pub returns-in-GeneveV4 : goal.returns-in-GeneveV4
returns-in-GeneveV4 c =
    c.check_version.ensures
    ∙ verdict_version 4 16 c.args.payload.now (ipv4_of c.args.payload.now)
    ∙ verdict_under _ _ _ c.in-GeneveV4.is

pub returns-in-GeneveV6 : goal.returns-in-GeneveV6
returns-in-GeneveV6 c =
    c.check_version-in-GeneveV6.ensures
    ∙ verdict_version 16 4 c.args.payload.now (ipv6_of c.args.payload.now)
    ∙ verdict_under _ _ _ c.in-GeneveV6.is

pub returns-in-Ip : goal.returns-in-Ip
returns-in-Ip c = c.check_ip.ensures ∙ verdict_under _ _ _ c.in-Ip.is

pub returns-in-EmptyOrByte : goal.returns-in-EmptyOrByte
returns-in-EmptyOrByte c = c.check_empty_or_byte.ensures ∙ verdict_under _ _ _ c.in-EmptyOrByte.is
