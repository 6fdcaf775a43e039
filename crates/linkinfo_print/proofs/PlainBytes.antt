-- Plain bytes.
use Rattle.std.proofs.Common.{
  ◌≡◌,
  ℕ,
  zero,
  suc,
  ◌<◌,
  List,
  [],
  ◌∷◌,
  ◌++◌,
  true,
  length,
  get_or,
  arith,
}
use Rattle.std.proofs.lemmas.List.Elements.{All-append}
use Rattle.linkinfo_print.specs.Plain.{IsPlain, is_plain}

plain_alone : (b : ℕ) → is_plain b ≡ true → (k d : ℕ) → k < length (b ∷ []) →
    is_plain (get_or (b ∷ []) k d) ≡ true
plain_alone b h zero d lt = h
plain_alone b h (suc k) d lt = absurd (omega arith)

pub IsPlain-push : (xs : List ℕ) (b : ℕ) → IsPlain xs → is_plain b ≡ true → IsPlain (xs ++ b ∷ [])
IsPlain-push xs b h p =
    All-append (λ x. is_plain x ≡ true) xs (b ∷ []) h (plain_alone b p)
