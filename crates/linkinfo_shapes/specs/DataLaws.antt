-- How data as values relate to the meaning of payloads.
use Rattle.std.proofs.Common.{
  ◌≡◌,
  ℕ,
  List,
  [],
  ◌∷◌,
  length,
  refl,
  sym,
  ap,
  ◌∙◌,
  Option,
  Some,
  None,
  Result,
  Ok,
  Err,
  length-append,
}
use Rattle.nla_frame.specs.declared.error.Cause.{Cause}
use Rattle.std.specs.declared.net.ip_addr.IpAddr.TheVariants as ip
use Rattle.std.specs.Prelude.{IsOk}
use Rattle.nla_frame.specs.Canonical.{bytes_for}
use Rattle.linkinfo_shapes.specs.Shapes.{
  IsPlain,
  IsAccepted,
  Carrier,
  means,
  canon,
  canonical,
  Holds,
  verdict,
}
use Rattle.linkinfo_shapes.specs.Data.{
  Value,
  number,
  signed,
  truth,
  empty,
  text,
  v4,
  v6,
  mac,
  pair,
  bytes,
  value_of,
  wrap,
  unwrap,
  Suits,
  wrapped,
  reads,
  written,
  ReadsAs,
  fixed_length,
  value_length,
}
use Rattle.linkinfo_shapes.specs.declared.datum.Datum.{Datum}
use Rattle.linkinfo_shapes.specs.declared.shape.Shape.{Shape}
use Rattle.linkinfo_shapes.specs.declared.shape.Shape.TheVariants.{
  U8,
  Le16,
  Le32,
  Le64,
  Be16,
  Be32,
  Be64,
  I32,
  Truth,
  TruthOne,
  Mark,
  Name,
  V4,
  V6,
  GeneveV4,
  GeneveV6,
  Ip,
  Mac,
  BePair,
  FlagPair,
  EmptyOrByte,
  Scrub,
  Raw,
  SelfList,
  Peer,
  Nested,
  BridgeId,
  LePair16,
  Le32x8,
  CanBitTimingConst,
  Le16s,
  Le32s,
  V4List,
  V6List,
}

abbrev done : {X : Type 0} → X → Result X Cause
done x = Ok x

abbrev some : {X : Type 0} → X → Option X
some x = Some x

-- ---- the datum of a shape, as a value and back

pub unwrap-wrap : (shape : Shape) (x : Carrier shape) → unwrap shape (wrap shape x) ≡ x
unwrap-wrap U8 x = refl
unwrap-wrap Le16 x = refl
unwrap-wrap Le32 x = refl
unwrap-wrap Le64 x = refl
unwrap-wrap Be16 x = refl
unwrap-wrap Be32 x = refl
unwrap-wrap Be64 x = refl
unwrap-wrap I32 x = refl
unwrap-wrap Truth x = refl
unwrap-wrap TruthOne x = refl
unwrap-wrap Mark x = refl
unwrap-wrap Name x = refl
unwrap-wrap V4 x = refl
unwrap-wrap V6 x = refl
unwrap-wrap GeneveV4 x = refl
unwrap-wrap GeneveV6 x = refl
unwrap-wrap Ip (ip.V4 a) = refl
unwrap-wrap Ip (ip.V6 a) = refl
unwrap-wrap Mac x = refl
unwrap-wrap BePair x = refl
unwrap-wrap FlagPair x = refl
unwrap-wrap EmptyOrByte None = refl
unwrap-wrap EmptyOrByte (Some b) = refl
unwrap-wrap Scrub x = refl
unwrap-wrap Raw x = refl
unwrap-wrap _ x = refl

pub wrap-unwrap : (shape : Shape) (value : Value) → Suits shape value →
    wrap shape (unwrap shape value) ≡ value
unfolding Suits
wrap-unwrap U8 (number n) h = refl
wrap-unwrap U8 _ h = absurd h
wrap-unwrap Le16 (number n) h = refl
wrap-unwrap Le16 _ h = absurd h
wrap-unwrap Le32 (number n) h = refl
wrap-unwrap Le32 _ h = absurd h
wrap-unwrap Le64 (number n) h = refl
wrap-unwrap Le64 _ h = absurd h
wrap-unwrap Be16 (number n) h = refl
wrap-unwrap Be16 _ h = absurd h
wrap-unwrap Be32 (number n) h = refl
wrap-unwrap Be32 _ h = absurd h
wrap-unwrap Be64 (number n) h = refl
wrap-unwrap Be64 _ h = absurd h
wrap-unwrap I32 (signed z) h = refl
wrap-unwrap I32 _ h = absurd h
wrap-unwrap Truth (truth b) h = refl
wrap-unwrap Truth _ h = absurd h
wrap-unwrap TruthOne (truth b) h = refl
wrap-unwrap TruthOne _ h = absurd h
wrap-unwrap Mark empty h = refl
wrap-unwrap Mark _ h = absurd h
wrap-unwrap Name (text s) h = refl
wrap-unwrap Name _ h = absurd h
wrap-unwrap V4 (v4 a) h = refl
wrap-unwrap V4 _ h = absurd h
wrap-unwrap V6 (v6 a) h = refl
wrap-unwrap V6 _ h = absurd h
wrap-unwrap GeneveV4 (v4 a) h = refl
wrap-unwrap GeneveV4 _ h = absurd h
wrap-unwrap GeneveV6 (v6 a) h = refl
wrap-unwrap GeneveV6 _ h = absurd h
wrap-unwrap Ip (v4 a) h = refl
wrap-unwrap Ip (v6 a) h = refl
wrap-unwrap Ip _ h = absurd h
wrap-unwrap Mac (mac s) h = refl
wrap-unwrap Mac _ h = absurd h
wrap-unwrap BePair (pair a b) h = refl
wrap-unwrap BePair _ h = absurd h
wrap-unwrap FlagPair (pair a b) h = refl
wrap-unwrap FlagPair _ h = absurd h
wrap-unwrap EmptyOrByte empty h = refl
wrap-unwrap EmptyOrByte (number n) h = refl
wrap-unwrap EmptyOrByte _ h = absurd h
wrap-unwrap Scrub (truth b) h = refl
wrap-unwrap Scrub _ h = absurd h
wrap-unwrap Raw (bytes s) h = refl
wrap-unwrap Raw _ h = absurd h
wrap-unwrap _ _ h = absurd h

pub Suits-wrap : (shape : Shape) (x : Carrier shape) → Holds shape x → Suits shape (wrap shape x)
unfolding Suits
Suits-wrap U8 x h = h
Suits-wrap Le16 x h = h
Suits-wrap Le32 x h = h
Suits-wrap Le64 x h = h
Suits-wrap Be16 x h = h
Suits-wrap Be32 x h = h
Suits-wrap Be64 x h = h
Suits-wrap I32 x h = tt
Suits-wrap Truth x h = h
Suits-wrap TruthOne x h = h
Suits-wrap Mark x h = h
Suits-wrap Name x h = tt
Suits-wrap V4 x h = tt
Suits-wrap V6 x h = tt
Suits-wrap GeneveV4 x h = tt
Suits-wrap GeneveV6 x h = tt
Suits-wrap Ip (ip.V4 a) h = tt
Suits-wrap Ip (ip.V6 a) h = tt
Suits-wrap Mac x h = tt
Suits-wrap BePair x h = h
Suits-wrap FlagPair x h = h
Suits-wrap EmptyOrByte None h = tt
Suits-wrap EmptyOrByte (Some b) h = h
Suits-wrap Scrub x h = h
Suits-wrap Raw x h = tt
Suits-wrap _ x h = h

-- a value suits none of the shapes that a family reads itself
pub suits_plain : (shape : Shape) (value : Value) → Suits shape value → IsPlain shape
unfolding Suits
suits_plain SelfList value h = h
suits_plain Peer value h = h
suits_plain (Nested family) value h = h
suits_plain BridgeId value h = h
suits_plain LePair16 value h = h
suits_plain Le32x8 value h = h
suits_plain CanBitTimingConst value h = h
suits_plain Le16s value h = h
suits_plain Le32s value h = h
suits_plain V4List value h = h
suits_plain V6List value h = h
suits_plain _ value h = tt

-- ---- results of readers

unwrapped : (shape : Shape) (m : Result (Carrier shape) Cause) (value : Value) →
    wrapped shape m ≡ Ok value → m ≡ Ok (unwrap shape value)
unwrapped shape (Ok x) value e =
    let same : wrap shape x ≡ value = cc in
    ap done (sym (unwrap-wrap shape x) ∙ ap (unwrap shape) same)
unwrapped shape (Err c) value e = absurd cc

pub reads_ok : (shape : Shape) (payload : List ℕ) (value : Value) → reads shape payload ≡ Ok value →
    means shape payload ≡ Ok (unwrap shape value)
unfolding reads
reads_ok shape payload value e = unwrapped shape (means shape payload) value e

errored : (shape : Shape) (m : Result (Carrier shape) Cause) (c : Cause) → wrapped shape m ≡ Err c →
    m ≡ Err c
errored shape (Ok x) c e = absurd cc
errored shape (Err d) c e = let same : d ≡ c = cc in ap (λ (z : Cause). Err z) same

pub reads_err : (shape : Shape) (payload : List ℕ) (c : Cause) → reads shape payload ≡ Err c →
    means shape payload ≡ Err c
unfolding reads
reads_err shape payload c e = errored shape (means shape payload) c e

pub read_means : (shape : Shape) (payload : List ℕ) (d : Datum) → ReadsAs shape payload (Ok d) →
    means shape payload ≡ Ok (unwrap shape (value_of d))
unfolding ReadsAs
read_means shape payload d h = reads_ok shape payload (value_of d) h.0

pub read_suits : (shape : Shape) (payload : List ℕ) (d : Datum) → ReadsAs shape payload (Ok d) →
    Suits shape (value_of d)
unfolding ReadsAs
read_suits shape payload d h = h.1

pub read_fails : (shape : Shape) (payload : List ℕ) (c : Cause) → ReadsAs shape payload (Err c) →
    means shape payload ≡ Err c
unfolding ReadsAs
read_fails shape payload c h = reads_err shape payload c h

pub read_verdict : (shape : Shape) (payload : List ℕ) (answer : Result Datum Cause) →
    ReadsAs shape payload answer → verdict answer ≡ verdict (means shape payload)
read_verdict shape payload (Ok d) h = sym (ap verdict (read_means shape payload d h))
read_verdict shape payload (Err c) h = sym (ap verdict (read_fails shape payload c h))

pub written_is : (shape : Shape) (value : Value) →
    written shape value ≡ canon shape (unwrap shape value)
unfolding written
written_is shape value = refl

-- an accepted payload: what is written for its datum is its canonical payload, and reading it gives
-- no error
pub canonical_is : (shape : Shape) (payload : List ℕ) (x : Carrier shape) →
    means shape payload ≡ Ok x → canonical shape payload ≡ canon shape x
unfolding canonical
canonical_is shape payload x e =
    ap (λ (m : Result (Carrier shape) Cause). bytes_for (canon shape) m) e

pub read_written : (shape : Shape) (payload : List ℕ) (d : Datum) → ReadsAs shape payload (Ok d) →
    written shape (value_of d) ≡ canonical shape payload
read_written shape payload d h =
    written_is shape (value_of d)
    ∙ sym (canonical_is shape payload (unwrap shape (value_of d)) (read_means shape payload d h))

pub read_accepted : (shape : Shape) (payload : List ℕ) (c : Cause) → IsAccepted shape payload →
    ReadsAs shape payload (Err c) → ⊥
unfolding IsAccepted
read_accepted shape payload c h k = not_ok (means shape payload) h (read_fails shape payload c k)
  where
    not_ok : (m : Result (Carrier shape) Cause) → IsOk m → m ≡ Err c → ⊥
    not_ok (Ok x) i e = absurd cc
    not_ok (Err d) i e = absurd cc

-- ---- lengths

some_same : (m n : ℕ) → some m ≡ some n → m ≡ n
some_same m n e = cc

pub length_fixed : (shape : Shape) (value : Value) (n : ℕ) → fixed_length shape ≡ Some n →
    length (written shape value) ≡ n
unfolding written
length_fixed U8 value n e = some_same 1 n e
length_fixed Le16 value n e = some_same 2 n e
length_fixed Le32 value n e = some_same 4 n e
length_fixed Le64 value n e = some_same 8 n e
length_fixed Be16 value n e = some_same 2 n e
length_fixed Be32 value n e = some_same 4 n e
length_fixed Be64 value n e = some_same 8 n e
length_fixed I32 value n e = some_same 4 n e
length_fixed Truth value n e = some_same 1 n e
length_fixed TruthOne value n e = some_same 1 n e
length_fixed Mark value n e = some_same 0 n e
length_fixed Name value n e = absurd cc
length_fixed V4 value n e = absurd cc
length_fixed V6 value n e = absurd cc
length_fixed GeneveV4 value n e = absurd cc
length_fixed GeneveV6 value n e = absurd cc
length_fixed Ip value n e = absurd cc
length_fixed Mac value n e = absurd cc
length_fixed BePair value n e = some_same 4 n e
length_fixed FlagPair value n e = some_same 8 n e
length_fixed EmptyOrByte value n e = absurd cc
length_fixed Scrub value n e = some_same 4 n e
length_fixed Raw value n e = absurd cc
length_fixed _ value n e = absurd cc

pub length_variable : (shape : Shape) (value : Value) → fixed_length shape ≡ None →
    Suits shape value → length (written shape value) ≡ value_length value
unfolding written Suits
length_variable U8 value e h = absurd cc
length_variable Le16 value e h = absurd cc
length_variable Le32 value e h = absurd cc
length_variable Le64 value e h = absurd cc
length_variable Be16 value e h = absurd cc
length_variable Be32 value e h = absurd cc
length_variable Be64 value e h = absurd cc
length_variable I32 value e h = absurd cc
length_variable Truth value e h = absurd cc
length_variable TruthOne value e h = absurd cc
length_variable Mark value e h = absurd cc
length_variable Name (text s) e h = length-append s (0 ∷ [])
length_variable Name _ e h = absurd h
length_variable V4 (v4 a) e h = refl
length_variable V4 _ e h = absurd h
length_variable V6 (v6 a) e h = refl
length_variable V6 _ e h = absurd h
length_variable GeneveV4 (v4 a) e h = refl
length_variable GeneveV4 _ e h = absurd h
length_variable GeneveV6 (v6 a) e h = refl
length_variable GeneveV6 _ e h = absurd h
length_variable Ip (v4 a) e h = refl
length_variable Ip (v6 a) e h = refl
length_variable Ip _ e h = absurd h
length_variable Mac (mac s) e h = refl
length_variable Mac _ e h = absurd h
length_variable BePair value e h = absurd cc
length_variable FlagPair value e h = absurd cc
length_variable EmptyOrByte empty e h = refl
length_variable EmptyOrByte (number n) e h = refl
length_variable EmptyOrByte _ e h = absurd h
length_variable Scrub value e h = absurd cc
length_variable Raw (bytes s) e h = refl
length_variable Raw _ e h = absurd h
length_variable _ _ e h = absurd h
