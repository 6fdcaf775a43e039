-- What a canonical attribute is written from.
use Rattle.std.specs.Prelude.{◌≡◌}
use Rattle.nla_frame.specs.Attribute.{Attribute}
use Rattle.linkinfo_shapes.specs.Shapes.{IsAccepted, IsPlain, canonical}
use Rattle.linkinfo_table.specs.declared.canonical.Written.{Written}
use Rattle.linkinfo_table.specs.declared.canonical.Written.TheVariants as written

-- the canonical payload of an accepted payload under its shape, or the payload verbatim
abbrev pub IsWrittenFrom : Written → Attribute → Type 0
IsWrittenFrom (written.Typed number shape payload) a =
    (a ≡ record { kind = number; value = canonical shape payload.now })
    × IsPlain shape
    × IsAccepted shape payload.now
IsWrittenFrom (written.Kept kind payload) a = a ≡ record { kind = kind; value = payload.now }
