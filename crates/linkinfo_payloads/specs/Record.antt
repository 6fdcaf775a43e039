-- A record by its fields: its payload is theirs.
use Rattle.std.specs.Prelude.{◌≡◌, ℕ, ◌==◌, true, false, List, [], length, refl}
use Rattle.std.specs.Str.{bytes_eq}
use Rattle.std.proofs.Common.{sym, ap, subst, ◌∙◌}
use Rattle.std.proofs.lemmas.Bool.{eq-eqb, eqb-true}
use Rattle.linkinfo_shapes.specs.declared.shape.Shape.{Shape}
use Rattle.linkinfo_table.specs.Codecs.{Codec}
use Rattle.linkinfo_table.specs.Payloads.{IsExact, IsPayload, codec_with, exact_length}
use Rattle.linkinfo_payloads.specs.Exact.{IsExactly, exact_means, exact_payload}
use Rattle.linkinfo_payloads.specs.Fixed.{IsFixed}
use Rattle.linkinfo_payloads.specs.Layouts.{Layout}

pub record_exactly : {R F : Type 0} (make : F → R) (view : R → F) (width len : ℕ)
    (of : List ℕ → F) (bytes : F → List ℕ) (holds : F → Type 0) → width ≡ len →
    ((x : R) → make (view x) ≡ x) → ((f : F) → view (make f) ≡ f) →
    IsFixed width of bytes holds →
    IsExactly (λ n. n == len) (λ p. make (of p)) (λ x. bytes (view x)) (λ x. holds (view x))
    (λ _. false)
record_exactly make view width len of bytes holds long whole each fixed = record {
  held = λ p b h.
      subst holds (sym (each (of p))) (fixed.held p b (wide p h));
  back = λ p b h. ap bytes (each (of p)) ∙ fixed.back p b (wide p h);
  again = λ x h. ap make (fixed.again (view x) h) ∙ whole x;
  long = λ x h. eq-eqb (length (bytes (view x))) len (fixed.long (view x) h ∙ long);
  byte_list = λ x h. fixed.byte_list (view x) h;
  certain = λ p h. refl;
}
  where
    wide : (p : List ℕ) → (length p == len) ≡ true → length p ≡ width
    wide p h = eqb-true (length p) len h ∙ sym long

-- a payload that is a record
abbrev pub record_codec : {R F : Type 0} → Layout F → (F → R) → (R → F) → Codec
record_codec layout make view =
    codec_with (exact_means (λ n. n == layout.width) (λ p. make (layout.of p)))
    (λ x. layout.bytes (view x)) (λ x. layout.Holds (view x)) bytes_eq (λ _. 0) (λ _. false)

pub record_payload : {R F : Type 0} (shape : Shape) → IsExact shape → (layout : Layout F)
    (make : F → R) (view : R → F) → ((x : R) → make (view x) ≡ x) →
    ((f : F) → view (make f) ≡ f) →
    ((len : ℕ) → (len == layout.width) ≡ exact_length shape len) →
    IsPayload shape [] (record_codec layout make view)
record_payload shape exact layout make view whole each by_length =
    exact_payload (λ n. n == layout.width) (λ p. make (layout.of p))
    (λ x. layout.bytes (view x)) (λ x. layout.Holds (view x)) (λ _. false)
    (record_exactly make view layout.width layout.width layout.of layout.bytes layout.Holds refl
    whole each layout.fixed) shape exact by_length
