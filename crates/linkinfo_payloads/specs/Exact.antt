-- Payloads of which each accepted one is canonical: whether one is accepted is a matter of its
-- length.
use Rattle.std.specs.Prelude.{
  ◌≡◌,
  ℕ,
  Bool,
  true,
  false,
  if◌then◌else◌,
  List,
  [],
  length,
  Result,
  Ok,
  Err,
  is_ok,
  refl,
}
use Rattle.std.specs.Str.{bytes_eq}
use Rattle.std.proofs.Common.{arith, sym, ap, subst, ◌∙◌}
use Rattle.std.proofs.lemmas.Bool.{cond-true, cond-false}
use Rattle.std.proofs.lemmas.Slice.Eq.{bytes_eq-Decides}
use Rattle.nla_frame.specs.Attribute.{IsBytes}
use Rattle.nla_frame.specs.Error.{memory_error}
use Rattle.nla_frame.specs.declared.error.Cause.TheVariants as cause
use Rattle.nla_frame.specs.declared.error.DecodeError.{DecodeError}
use Rattle.nla_frame.specs.declared.error.Family.{Family}
use Rattle.linkinfo_shapes.specs.declared.shape.Shape.{Shape}
use Rattle.linkinfo_shapes.specs.declared.shape.Shape.TheVariants.{
  BridgeId,
  CanBitTimingConst,
  Le16s,
  Le32s,
  Le32x8,
  LePair16,
  Nested,
  Peer,
  V4List,
  V6List,
}
use Rattle.linkinfo_table.specs.Codecs.{Codec, Inside, IsCodec, Own, PayloadError}
use Rattle.linkinfo_table.specs.Payloads.{
  IsAddresses,
  IsExact,
  IsPayload,
  IsPayloadShape,
  codec_with,
  exact_length,
}

-- what a payload means whose length is accepted or not
abbrev pub exact_means : {X : Type 0} → (ℕ → Bool) → (List ℕ → X) → List ℕ → Result X PayloadError
exact_means accepted of p = if accepted (length p) then Ok (of p) else Err (Own cause.Length)

-- `of` reads a payload of an accepted length, `bytes` writes a value, and `Holds` is what a Rust
-- value can be: reading and writing are inverse, and a payload that is refused needs no memory.
pub record IsExactly {X : Type 0} (accepted : ℕ → Bool) (of : List ℕ → X) (bytes : X → List ℕ)
    (Holds : X → Type 0) (needs_memory : List ℕ → Bool) : Type 0 where
  pub held : (p : List ℕ) → IsBytes p → accepted (length p) ≡ true → Holds (of p)
  pub back : (p : List ℕ) → IsBytes p → accepted (length p) ≡ true → bytes (of p) ≡ p
  pub again : (x : X) → Holds x → of (bytes x) ≡ x
  pub long : (x : X) → Holds x → accepted (length (bytes x)) ≡ true
  pub byte_list : (x : X) → Holds x → IsBytes (bytes x)
  pub certain : (p : List ℕ) → accepted (length p) ≡ false → needs_memory p ≡ false

abbrev good : {X : Type 0} → X → Result X PayloadError
good x = Ok x

good_same : {X : Type 0} (x y : X) → good x ≡ good y → x ≡ y
good_same x y h = cc

exact_payload_shape : (shape : Shape) → IsExact shape → IsPayloadShape shape
exact_payload_shape BridgeId i = tt
exact_payload_shape LePair16 i = tt
exact_payload_shape Le32x8 i = tt
exact_payload_shape CanBitTimingConst i = tt
exact_payload_shape Le16s i = tt
exact_payload_shape Le32s i = tt
exact_payload_shape _ i = absurd i

exact_no_nest : (shape : Shape) (family : Family) → IsExact shape → shape ≡ Nested family → ⊥
exact_no_nest shape family i e = subst IsExact e i

exact_no_peer : (shape : Shape) → IsExact shape → shape ≡ Peer → ⊥
exact_no_peer shape i e = subst IsExact e i

exact_no_addresses : (shape : Shape) → IsExact shape → IsAddresses shape → ⊥
exact_no_addresses V4List i j = i
exact_no_addresses V6List i j = i
exact_no_addresses _ i j = j

module _ {X : Type 0} (accepted : ℕ → Bool) (of : List ℕ → X) (bytes : X → List ℕ)
    (Holds : X → Type 0) (needs_memory : List ℕ → Bool)
    (lawful : IsExactly accepted of bytes Holds needs_memory) where
  abbrev codec : Codec
  codec = codec_with (exact_means accepted of) bytes Holds bytes_eq (λ _. 0) needs_memory

  pub exact_reads : (p : List ℕ) → accepted (length p) ≡ true →
      exact_means accepted of p ≡ Ok (of p)
  exact_reads p h = cond-true (accepted (length p)) _ _ h

  -- an accepted payload, and its value
  pub exact_read : (p : List ℕ) (x : X) → exact_means accepted of p ≡ Ok x →
      (accepted (length p) ≡ true) × (of p ≡ x)
  exact_read p x h = go (accepted (length p)) refl h
    where
      go : (b : Bool) → accepted (length p) ≡ b →
          (if b then Ok (of p) else Err (Own cause.Length)) ≡ good x →
          (accepted (length p) ≡ true) × (of p ≡ x)
      go true e h = (e, good_same (of p) x h)
      go false e h = absurd cc

  exact_ok : (p : List ℕ) (b : Bool) → accepted (length p) ≡ b →
      is_ok (exact_means accepted of p) ≡ accepted (length p)
  exact_ok p b e = go b e ∙ sym e
    where
      go : (b : Bool) → accepted (length p) ≡ b →
          is_ok (exact_means accepted of p) ≡ b
      go true e = ap is_ok (cond-true (accepted (length p)) _ _ e)
      go false e = ap is_ok (cond-false (accepted (length p)) _ _ e)

  exact_error : (p : List ℕ) (error : PayloadError) → exact_means accepted of p ≡ Err error →
      (error ≡ Own cause.Length) × (needs_memory p ≡ false)
  exact_error p error h = go (accepted (length p)) refl h
    where
      go : (b : Bool) → accepted (length p) ≡ b →
          (if b then Ok (of p) else Err (Own cause.Length)) ≡ Err error →
          (error ≡ Own cause.Length) × (needs_memory p ≡ false)
      go true e h = absurd cc
      go false e h = (cc, lawful.certain p e)

  length_no_memory : Own cause.Length ≡ Own cause.Memory → ⊥
  length_no_memory e = absurd cc

  own_no_inside : (e : DecodeError) → Own cause.Length ≡ Inside e → ⊥
  own_no_inside e h = absurd cc

  exact_codec : IsCodec codec
  exact_codec = record {
    holds = λ p x b e.
        let r = exact_read p x e in subst Holds r.1 (lawful.held p b r.0);
    again = λ x h _.
        exact_reads (bytes x) (lawful.long x h) ∙ ap good (lawful.again x h);
    bytes = λ x h _. lawful.byte_list x h;
    alike_is = λ p q x y bp bq e f.
        let r = exact_read p x e in
        let s = exact_read q y f in (
          λ t. sym r.1 ∙ ap of ((bytes_eq-Decides p q).0 t) ∙ s.1,
          λ t.
              (bytes_eq-Decides p q).1
              (sym (lawful.back p bp r.0)
              ∙ ap bytes (r.1 ∙ t ∙ sym s.1)
              ∙ lawful.back q bq s.0),
        );
    quarter = λ p. omega arith;
    no_own_memory = λ p e. length_no_memory (sym (exact_error p (Own cause.Memory) e).0);
    no_inner_memory = λ p e.
        own_no_inside memory_error (sym (exact_error p (Inside memory_error) e).0);
  }

  pub exact_payload : (shape : Shape) → IsExact shape →
      ((len : ℕ) → accepted len ≡ exact_length shape len) → IsPayload shape [] codec
  exact_payload shape i by_length = record {
    shaped = exact_payload_shape shape i;
    codec = exact_codec;
    named = λ p e h. absurd (own_no_inside e (sym (exact_error p (Inside e) h).0));
    nest = λ family e. absurd (exact_no_nest shape family i e);
    peer = λ e. absurd (exact_no_peer shape i e);
    exact = λ _ p error h. exact_error p error h;
    exact_accepted = λ _ p. exact_ok p (accepted (length p)) refl ∙ by_length (length p);
    addresses_accepted = λ j. absurd (exact_no_addresses shape i j);
    addresses = λ j. absurd (exact_no_addresses shape i j);
  }
