-- Which family an error names: one of some families, unless it is that of a header.
use Rattle.std.specs.Prelude.{◌≡◌, ◌⊎◌, ◌++◌, List, [], ◌∷◌, Result, Err}
use Rattle.std.specs.List.{Contains}
use Rattle.std.proofs.Common.{arith, inl, inr, sym}
use Rattle.std.proofs.lemmas.List.Elements.{Contains-append_left, Contains-append_right}
use Rattle.nla_frame.specs.Error.{header_error}
use Rattle.nla_frame.specs.declared.error.DecodeError.{DecodeError}
use Rattle.nla_frame.specs.declared.error.Family.{Family}

-- an error is that of a header, or has the name of one of the families
abbrev pub IsNamed : List Family → DecodeError → Type 0
IsNamed families e = (e ≡ header_error) ⊎ Contains families e.family

-- so is each error of a meaning
abbrev pub EachNamed : {X : Type 0} → List Family → Result X DecodeError → Type 0
EachNamed families m = (e : DecodeError) → m ≡ Err e → IsNamed families e

-- each error of a meaning is that of a header, or has the name of the family
abbrev pub EachNames : {X : Type 0} → Family → Result X DecodeError → Type 0
EachNames f m = EachNamed (f ∷ []) m

-- a name at the front, and among the families after others or before others
pub named_first : (f : Family) (families : List Family) (e : DecodeError) → e.family ≡ f →
    IsNamed (f ∷ families) e
named_first f families e same = inr (0, omega arith, sym same)

pub named_after : (before families : List Family) (e : DecodeError) → IsNamed families e →
    IsNamed (before ++ families) e
named_after before families e (inl header) = inl header
named_after before families e (inr name) =
    inr (Contains-append_right before families e.family name)

pub named_before : (families after : List Family) (e : DecodeError) → IsNamed families e →
    IsNamed (families ++ after) e
named_before families after e (inl header) = inl header
named_before families after e (inr name) =
    inr (Contains-append_left families after e.family name)
