use Rattle.std.proofs.Common.{
  ◌≡◌,
  ℕ,
  Bool,
  List,
  false,
  true,
  refl,
  sym,
  ap,
  ◌∙◌,
  Ok,
  Err,
  Option,
  Result,
  None,
}
use Rattle.std.specs.Option.{option_map}
use Rattle.std.specs.Result.{result_ok}
use Rattle.std.specs.Prelude.{IsTrue, ◌↔◌}
use Rattle.nla_frame.specs.declared.error.Cause.{Cause}
use Rattle.linkinfo_shapes.specs.Data.{ReadsAs, reads, value_of}
use Rattle.linkinfo_shapes.specs.Shapes.{IsPlain}
use Rattle.linkinfo_shapes.specs.declared.datum.Datum.{Datum}
use Rattle.linkinfo_shapes.specs.declared.shape.Shape.{Shape}
use Rattle.linkinfo_shapes.specs.declared.shape.Shape.TheVariants.{
  BridgeId,
  CanBitTimingConst,
  Le16s,
  Le32s,
  Le32x8,
  LePair16,
  Nested,
  Peer,
  SelfList,
  V4List,
  V6List,
}
use Rattle.linkinfo_c.specs.Attributes.{datum_in, value_read}
use Rattle.linkinfo_c.proofs.attributes.datum_in.Goals as goal

-- a payload that a family reads itself means no value
not_plain : (shape : Shape) (payload : List ℕ) → (IsPlain shape → ⊥) →
    value_read (reads shape payload) ≡ None
unfolding reads
not_plain SelfList payload h = refl
not_plain Peer payload h = refl
not_plain (Nested family) payload h = refl
not_plain BridgeId payload h = refl
not_plain LePair16 payload h = refl
not_plain Le32x8 payload h = refl
not_plain CanBitTimingConst payload h = refl
not_plain Le16s payload h = refl
not_plain Le32s payload h = refl
not_plain V4List payload h = refl
not_plain V6List payload h = refl
not_plain _ payload h = absurd (h tt)

-- any other shape reads as it says
read_means : (shape : Shape) (payload : List ℕ) (r : Result Datum Cause) → ReadsAs shape payload r →
    option_map value_of (result_ok r) ≡ value_read (reads shape payload)
unfolding ReadsAs
read_means shape payload (Ok d) h = sym (ap value_read h.0)
read_means shape payload (Err e) h = sym (ap value_read h)

is_not : (b : Bool) (P : Type 0) → IsTrue b ↔ P → b ≡ false → P → ⊥
is_not b P both off holds = absurd_test (sym (both.1 holds) ∙ off)
  where
    absurd_test : true ≡ false → ⊥
    absurd_test h = cc

pub returns-then-not-is_plain : goal.returns-then-not-is_plain
returns-then-not-is_plain c =
    sym (
    ap (λ (o : Option Shape). datum_in o c.args.payload.now) c.in_ok-shape.was
    ∙ not_plain c.in_ok-shape.shape c.args.payload.now
    (is_not _ _ c.is_plain.ensures c.if-not-is_plain.true)
    )

pub returns : goal.returns
returns c =
    ap (λ (o : Option Datum). option_map value_of o) c.ok.ensures.value
    ∙ read_means c.in_ok-shape.shape c.args.payload.now c.read_datum.result c.read_datum.ensures
    ∙ sym (ap (λ (o : Option Shape). datum_in o c.args.payload.now) c.in_ok-shape.was)
