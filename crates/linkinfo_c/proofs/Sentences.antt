-- The sentence of an error that an attribute has.
use Rattle.std.specs.Prelude.{ℕ, ◌≡◌, ◌++◌, codes, refl}
use Rattle.nla_frame.specs.declared.error.Cause.{Cause}
use Rattle.nla_frame.specs.declared.error.Cause.TheVariants as cause
use Rattle.nla_frame.specs.declared.error.DecodeError.{DecodeError}
use Rattle.linkinfo_names.specs.Explanation.{explanation, place_text, problem, subject}

pub of_attribute : (k : Cause) (e : DecodeError) (n : ℕ) → e.cause ≡ k →
    (k ≡ cause.Header → ⊥) → (k ≡ cause.Word → ⊥) → (k ≡ cause.Memory → ⊥) →
    explanation e n ≡ subject e ++ codes " " ++ problem e ++ place_text n
of_attribute cause.Header e n is h w m = absurd (h refl)
of_attribute cause.Length e n is h w m = rw is refl
of_attribute cause.Utf8 e n is h w m = rw is refl
of_attribute cause.Order e n is h w m = rw is refl
of_attribute cause.AddressKind e n is h w m = rw is refl
of_attribute cause.Word e n is h w m = absurd (w refl)
of_attribute cause.WrongType e n is h w m = rw is refl
of_attribute cause.Kind e n is h w m = rw is refl
of_attribute cause.Depth e n is h w m = rw is refl
of_attribute cause.Memory e n is h w m = absurd (m refl)
of_attribute cause.Peer e n is h w m = rw is refl
