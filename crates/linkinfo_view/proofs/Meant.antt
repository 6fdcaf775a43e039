-- What a payload means, by what the layer of shapes reads.
use Rattle.std.proofs.Common.{◌≡◌, ℕ, List, Result, Ok, Err, refl, ◌∙◌}
use Rattle.nla_frame.specs.declared.error.Cause.{Cause}
use Rattle.linkinfo_shapes.specs.Data.{ReadsAs, reads}
use Rattle.linkinfo_shapes.specs.Shapes.{IsPlain}
use Rattle.linkinfo_shapes.specs.declared.datum.Datum.{Datum}
use Rattle.linkinfo_shapes.specs.declared.shape.Shape.{Shape}
use Rattle.linkinfo_shapes.specs.declared.shape.Shape.TheVariants as shape
use Rattle.linkinfo_view.specs.Values.{IsMeant, meant}

-- a shape that is read below a family means what is read
pub meant_plain : (sh : Shape) (payload : List ℕ) → IsPlain sh → meant sh payload ≡ reads sh payload
meant_plain shape.SelfList payload h = absurd h
meant_plain shape.Peer payload h = absurd h
meant_plain (shape.Nested family) payload h = absurd h
meant_plain shape.BridgeId payload h = absurd h
meant_plain shape.LePair16 payload h = absurd h
meant_plain shape.Le32x8 payload h = absurd h
meant_plain shape.CanBitTimingConst payload h = absurd h
meant_plain shape.Le16s payload h = absurd h
meant_plain shape.Le32s payload h = absurd h
meant_plain shape.V4List payload h = absurd h
meant_plain shape.V6List payload h = absurd h
meant_plain _ payload h = refl

pub reads_meant : (sh : Shape) (payload : List ℕ) (r : Result Datum Cause) → IsPlain sh →
    ReadsAs sh payload r → IsMeant sh payload r
unfolding ReadsAs
reads_meant sh payload (Ok d) plain h = meant_plain sh payload plain ∙ h.0
reads_meant sh payload (Err e) plain h = meant_plain sh payload plain ∙ h
