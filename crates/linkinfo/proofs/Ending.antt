-- After the last attribute of a walk nothing is left: what was parsed is the list, and no more
-- headers are examined.
use Rattle.std.proofs.Common.{◌≡◌, ℕ, List, [], append-nil, refl, sym, ap, ◌∙◌, Result, Ok, Err}
use Rattle.std.specs.Prelude.{IsOk}
use Rattle.nla_frame.specs.Answers.{verdict}
use Rattle.nla_frame.specs.Attribute.{Attribute}
use Rattle.nla_frame.specs.declared.error.DecodeError.{DecodeError}
use Rattle.linkinfo_data.specs.DataFamilies.{DataFamilies, DataTypes}
use Rattle.linkinfo_table.specs.Lists.{append_to as front}
use Rattle.linkinfo.specs.Layered.{LinkOf}
use Rattle.linkinfo.specs.declared.role.CurrentKinds.{CurrentKinds}
use Rattle.linkinfo.specs.Strings.{headers_from, values_from}

module _ {L : DataTypes} (layer : DataFamilies L) (t : CurrentKinds)
    (ps : List (Result Attribute ℕ)) (end : ps ≡ []) where
  abbrev read : List (LinkOf L) → Result (List (LinkOf L)) DecodeError
  read xs = Ok xs

  pub read_end : (F : Result (List (LinkOf L)) DecodeError) (zs : List (LinkOf L)) →
      front zs (values_from layer t ps) ≡ F → F ≡ Ok zs
  read_end F zs inv =
      sym inv
      ∙ ap (λ (qs : List (Result Attribute ℕ)). front zs (values_from layer t qs)) end
      ∙ ap read (append-nil zs)

  pub headers_end : headers_from layer t ps ≡ 0
  headers_end = ap (λ (qs : List (Result Attribute ℕ)). headers_from layer t qs) end

-- a byte string whose check succeeds is accepted
pub verdict_ok : {X : Type 0} (m : Result X DecodeError) → Ok tt ≡ verdict m → IsOk m
verdict_ok (Ok x) e = refl
verdict_ok (Err d) e = absurd cc
