-- Two accepted lists have a difference if and only if they are not equivalent, and a list has an
-- error if and only if it is rejected.
use Rattle.std.specs.Prelude.{◌≡◌, ◌↔◌, ℕ, true, List, None, IsOk, IsSome}
use Rattle.linkinfo_data.specs.DataFamilies.{DataFamilies, DataTypes}
use Rattle.linkinfo_data.specs.Lists.{difference_in, error_in, family_in}
use Rattle.linkinfo_data.specs.Payloads.{Payload}
use Rattle.linkinfo_data.specs.declared.data.DataFamily.{DataFamily}
use Rattle.linkinfo_data.specs.declared.port_data.PortFamily.{PortFamily}

-- two accepted payloads that are lists have no difference if and only if they are equivalent
abbrev pub DiffersWhereUnlike : {X : Type 0} → Payload X → Type 0
DiffersWhereUnlike payload =
    (s t : List ℕ) → IsSome (family_in payload.contents) →
    IsOk (payload.means s) → IsOk (payload.means t) →
    (difference_in payload.contents s t ≡ None) ↔ (payload.alike s t ≡ true)

-- a payload that is a list has no error if and only if it is accepted
abbrev pub ErrsWhereRejected : {X : Type 0} → Payload X → Type 0
ErrsWhereRejected payload = (s : List ℕ) → IsSome (family_in payload.contents) →
    (error_in payload.contents s ≡ None) ↔ IsOk (payload.means s)

pub record IsLocated {X : Type 0} (payload : Payload X) : Type 0 where
  pub difference : DiffersWhereUnlike payload
  pub error : ErrsWhereRejected payload

pub record AreLocated {t : DataTypes} (layer : DataFamilies t) : Type 0 where
  pub link : (f : DataFamily) → IsLocated (layer.data_of f)
  pub port : (f : PortFamily) → IsLocated (layer.port_data_of f)
