-- Differences and errors of data and of port data are located.
use Rattle.std.specs.Prelude.{◌≡◌, ◌+◌, ℕ, Bool, true, List, IsSome, is_none, is_ok}
use Rattle.std.proofs.Common.{sym, ◌∙◌}
use Rattle.linkinfo_table.specs.Contents.{Contents, IsPayloadContent, ListOf, NoList}
use Rattle.linkinfo_table.specs.Difference.{inner_difference}
use Rattle.linkinfo_table.specs.declared.last.PlacedNla.{PlacedNla}
use Rattle.linkinfo_table.proofs.Differences.{
  accepted_where,
  errors_none,
  mapped_none,
  none_where,
  ok_true,
  payloads_none,
}
use Rattle.linkinfo_data.specs.DataFamilies.{DataFamilies, DataTypes}
use Rattle.linkinfo_data.specs.Lists.{difference_in, error_in, family_in}
use Rattle.linkinfo_data.specs.Lawful.{AreLawful}
use Rattle.linkinfo_data.specs.Located.{AreLocated, IsLocated}
use Rattle.linkinfo_data.specs.Payloads.{IsLawful, Payload}

-- a list has the error that an attribute with it has
list_errs : (c : Contents) (accepts : List ℕ → Bool) (alike : List ℕ → List ℕ → Bool) →
    IsPayloadContent c accepts alike → IsSome (family_in c) → (s : List ℕ) →
    is_none (error_in c s) ≡ accepts s
list_errs (NoList place count) accepts alike law is s = absurd cc
list_errs (ListOf l inside) accepts alike law is s =
    sym (mapped_none (λ k. 4 + k) (error_in (ListOf l inside) s))
    ∙ errors_none (ListOf l inside) accepts alike law s

-- two lists differ where two attributes with them do
list_differs : (c : Contents) (accepts : List ℕ → Bool) (alike : List ℕ → List ℕ → Bool) →
    IsPayloadContent c accepts alike → IsSome (family_in c) → (s t : List ℕ) →
    accepts s ≡ true → accepts t ≡ true → is_none (difference_in c s t) ≡ alike s t
list_differs (NoList place count) accepts alike law is s t h g = absurd cc
list_differs (ListOf l inside) accepts alike law is s t h g =
    sym (mapped_none (inner_difference (placed s) (placed t)) (difference_in (ListOf l inside) s t))
    ∙ payloads_none (ListOf l inside) accepts alike law l.family (placed s) (placed t) h g
  where
    placed : List ℕ → PlacedNla
    placed v = record { offset = 0; nla = record { kind = 0; value = v } }

is_located : {X : Type 0} (payload : Payload X) (canon : X → List ℕ) → IsLawful payload canon →
    IsLocated payload
is_located payload canon law = record {
  difference = λ s t is first second.
      none_where _ _
      (list_differs payload.contents (λ p. is_ok (payload.means p)) payload.alike law.contained is s
      t (ok_true (payload.means s) first) (ok_true (payload.means t) second));
  error = λ s is.
      accepted_where _ (payload.means s)
      (list_errs payload.contents (λ p. is_ok (payload.means p)) payload.alike law.contained is s);
}

pub data_located : {t : DataTypes} (layer : DataFamilies t) → AreLawful layer → AreLocated layer
data_located layer law = record {
  link = λ f. is_located _ _ (law.link f);
  port = λ f. is_located _ _ (law.port f);
}
