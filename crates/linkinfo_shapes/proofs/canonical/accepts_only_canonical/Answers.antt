use Rattle.std.proofs.Common.{
  ◌≡◌,
  ◌≢◌,
  ◌∙◌,
  ◌⊎◌,
  inl,
  inr,
  ℕ,
  true,
  false,
  not,
  List,
  [],
  ◌∷◌,
  Ok,
  arith,
  refl,
  sym,
  ap,
}
use Rattle.std.specs.Str.{is_utf8}
use Rattle.std.proofs.lemmas.Bool.{cond-true, false≢true}
use Rattle.std.proofs.lemmas.Str.{IsUtf8-nil, is_utf8-from_IsUtf8}
use Rattle.nla_frame.specs.Attribute.{IsBytes}
use Rattle.nla_frame.specs.Payload.{stripped}
use Rattle.nla_frame.proofs.ByteLists.{IsBytes-cons, IsBytes-nil}
use Rattle.linkinfo_shapes.specs.DataLaws.{canonical_is}
use Rattle.linkinfo_shapes.specs.ShapeLaws.{accepted, canon-means, datum_of, is_exact}
use Rattle.linkinfo_shapes.specs.Shapes.{IsAccepted, canonical, means}
use Rattle.linkinfo_shapes.specs.declared.shape.Shape.{Shape}
use Rattle.linkinfo_shapes.specs.declared.shape.Shape.TheVariants.{
  Mark,
  Name,
  Scrub,
  Truth,
  TruthOne,
}
use Rattle.linkinfo_shapes.proofs.canonical.accepts_only_canonical.Goals as goal
use Rattle.linkinfo_shapes.proofs.canonical.accepts_only_canonical.Goals.{in-Truth, in_default}

abbrev IsCopied : Shape → Type 0
IsCopied s = (p : List ℕ) → IsBytes p → IsAccepted s p → canonical s p ≡ p

copied : (s : Shape) → is_exact s ≡ true → IsCopied s
copied s e p b a =
    let x = datum_of s p a in
    canonical_is s p x.0 x.1 ∙ sym (canon-means s p x.0 b x.1 e)

abbrev zeros : List ℕ
zeros = 0 ∷ 0 ∷ 0 ∷ []

zero_bytes : IsBytes zeros
zero_bytes =
    IsBytes-cons 0 (0 ∷ 0 ∷ []) (omega arith)
    (IsBytes-cons 0 (0 ∷ []) (omega arith) (IsBytes-cons 0 [] (omega arith) IsBytes-nil))

two_bytes : (p : List ℕ) → IsBytes p → IsBytes (2 ∷ p)
two_bytes p h = IsBytes-cons 2 p (omega arith) h

apart : (m n : ℕ) (p q : List ℕ) → m ≢ n → m ∷ p ≡ n ∷ q → ⊥
apart m n p q h e = let same : m ≡ n = cc in h same

no_list : (m : ℕ) (p : List ℕ) → m ∷ p ≡ [] → ⊥
no_list m p e = cc

empty_name : means Name [] ≡ Ok []
unfolding stripped
empty_name = cond-true (is_utf8 []) _ _ (is_utf8-from_IsUtf8 [] IsUtf8-nil)

-- these bytes are accepted, and not canonical
not_copied : (s : Shape) → is_exact s ≡ false → IsCopied s → ⊥
unfolding IsAccepted canonical stripped
not_copied Truth e f = apart 1 2 [] [] (omega arith) (f (2 ∷ []) (two_bytes [] IsBytes-nil) refl)
not_copied TruthOne e f = apart 0 2 [] [] (omega arith) (f (2 ∷ []) (two_bytes [] IsBytes-nil) refl)
not_copied Mark e f = no_list 2 [] (sym (f (2 ∷ []) (two_bytes [] IsBytes-nil) refl))
not_copied Name e f =
    no_list 0 [] (sym (canonical_is Name [] [] empty_name)
    ∙ f [] IsBytes-nil (accepted Name [] [] empty_name))
not_copied Scrub e f =
    apart 1 2 zeros zeros (omega arith) (f (2 ∷ zeros) (two_bytes zeros zero_bytes) refl)
not_copied _ e f = absurd (false≢true (sym e))

exact_otherwise : (s : Shape) → s ≢ Truth → s ≢ TruthOne → s ≢ Mark → s ≢ Name → s ≢ Scrub →
    is_exact s ≡ true
exact_otherwise Truth a b c d e = absurd (a refl)
exact_otherwise TruthOne a b c d e = absurd (b refl)
exact_otherwise Mark a b c d e = absurd (c refl)
exact_otherwise Name a b c d e = absurd (d refl)
exact_otherwise Scrub a b c d e = absurd (e refl)
exact_otherwise _ a b c d e = refl

inexact : (s : Shape) → s ≡ Truth ⊎ s ≡ TruthOne ⊎ s ≡ Mark ⊎ s ≡ Name ⊎ s ≡ Scrub →
    is_exact s ≡ false
inexact s (inl e) = ap is_exact e
inexact s (inr (inl e)) = ap is_exact e
inexact s (inr (inr (inl e))) = ap is_exact e
inexact s (inr (inr (inr (inl e)))) = ap is_exact e
inexact s (inr (inr (inr (inr e)))) = ap is_exact e

pub returns : goal.returns
returns c = elim c.match-matches.branch [
  | in-Truth w ↦ (
    λ t. absurd (false≢true (sym (ap not w.matches-is) ∙ t)),
    λ f. absurd (not_copied c.args.shape (inexact c.args.shape w.in-Truth.is) f),
  )
  | in_default w ↦
      let n = w.in_default in (
        λ _. copied c.args.shape
            (exact_otherwise c.args.shape n.not-Truth n.not-TruthOne n.not-Mark n.not-Name
            n.not-Scrub),
        λ _. ap not w.matches-is,
      )
]
