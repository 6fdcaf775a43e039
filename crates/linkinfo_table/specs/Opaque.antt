-- The families without rows.
use Rattle.std.specs.Prelude.{◌≡◌, ℕ, ◌==◌, if◌then◌else◌, List, [], ◌∷◌, None, refl}
use Rattle.std.proofs.Common.{ap, inl, inr, ◌∙◌}
use Rattle.std.proofs.lemmas.Bool.{cases_Bool, cond-true, cond-false}
use Rattle.nla_frame.specs.declared.error.Family.{Family}
use Rattle.nla_frame.specs.declared.error.Family.TheVariants as family
use Rattle.nla_frame.specs.Pairs.{◌&◌}
use Rattle.linkinfo_shapes.specs.Table.{shape_of}

-- the families by their numbers
abbrev pub opaque_families : List (ℕ × Family)
opaque_families =
    (1, family.Bond) ∷
    (2, family.BondPort) ∷
    (3, family.Bridge) ∷
    (4, family.BridgePort) ∷
    (5, family.Can) ∷
    (6, family.Dsa) ∷
    (7, family.Hsr) ∷
    (8, family.Pfcp) ∷
    (9, family.TeamPort) ∷
    (10, family.Tun) ∷
    (11, family.Vlan) ∷
    (12, family.Wireguard) ∷
    []

abbrev pub numbered : List (ℕ × Family) → ℕ → Family
numbered [] number = family.Frame
numbered (f ∷ fs) number = if number == f.0 then f.1 else numbered fs number

-- the family of a number, and the frame for any other number
abbrev pub opaque_family : ℕ → Family
opaque_family number = numbered opaque_families number

abbrev HaveNoRows : List (ℕ × Family) → Type 0
HaveNoRows [] = Unit {0}
HaveNoRows (f ∷ fs) = ((n : ℕ) → shape_of f.1 n ≡ None) × HaveNoRows fs

none_has_rows : (fs : List (ℕ × Family)) → HaveNoRows fs → (number n : ℕ) →
    shape_of (numbered fs number) n ≡ None
none_has_rows [] h number n = refl
none_has_rows (f ∷ fs) h number n =
    elim (cases_Bool (number == f.0)) [
      | inl same ↦ ap (λ (g : Family). shape_of g n) (cond-true (number == f.0) _ _ same) ∙ h.0 n
      | inr other ↦
          ap (λ (g : Family). shape_of g n) (cond-false (number == f.0) _ _ other)
          ∙ none_has_rows fs h.1 number n
    ]

pub no_rows : (number n : ℕ) → shape_of (opaque_family number) n ≡ None
no_rows number n =
    none_has_rows opaque_families
    ((λ _. refl)
    & (λ _. refl)
    & (λ _. refl)
    & (λ _. refl)
    & (λ _. refl)
    & (λ _. refl)
    & (λ _. refl)
    & (λ _. refl)
    & (λ _. refl)
    & (λ _. refl)
    & (λ _. refl)
    & (λ _. refl)
    & tt) number n
