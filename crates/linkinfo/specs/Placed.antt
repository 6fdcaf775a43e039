-- The offsets of the error of a byte string.
use Rattle.std.specs.Prelude.{◌≡◌, ℕ, ◌+◌, min, sum_by, List, length, unwrap_or}
use Rattle.std.proofs.Common.{inl, inr}
use Rattle.nla_frame.specs.Attribute.{Attribute, aligned}
use Rattle.nla_frame.specs.declared.error.DecodeError.{DecodeError}
use Rattle.linkinfo_table.specs.Contents.{Contents}
use Rattle.linkinfo_data.specs.DataFamilies.{DataFamilies, DataTypes}
use Rattle.linkinfo_data.specs.Data.{family_of}
use Rattle.linkinfo_data.specs.Lists.{error_in as error_in_data}
use Rattle.linkinfo_data.specs.PortData.{port_family_of}
use Rattle.linkinfo.specs.Roles.{no_kinds, role_at}
use Rattle.linkinfo.specs.Strings.{IsRejected, kinds_after_all}
use Rattle.linkinfo.specs.declared.role.Role.TheVariants as role
use Rattle.linkinfo.specs.declared.role.Role.{Role}

-- the offset of the next header after these attributes: after their padding, or at the end
abbrev pub place_after : List ℕ → List Attribute → ℕ
place_after s front = min (length s) (sum_by (λ a. aligned (4 + length a.value)) front)

-- the attributes of the list before the one that has the error, or before a rest without a header
abbrev pub before_error : {L : DataTypes} (layer : DataFamilies L) (s : List ℕ) (e : DecodeError) →
    IsRejected layer s e → List Attribute
before_error layer s e (inl item) = item.front
before_error layer s e (inr rest) = rest.front

-- The byte string has the error, and at this offset is the attribute of the list that has it,
-- itself or in its data, or a rest without a header.
abbrev pub IsRejectedAt : {L : DataTypes} → DataFamilies L → List ℕ → DecodeError → ℕ → Type 0
IsRejectedAt layer s e place =
    (rejected : IsRejected layer s e) × (place ≡ place_after s (before_error layer s e rejected))

-- ---- the innermost attribute that has the error

-- the offset of the error of rejected data, from the header of its attribute: that of an attribute
-- in it, in lists at any depth, or that of the first attribute in it
abbrev pub error_in_payload : Contents → List ℕ → ℕ
error_in_payload contents payload = 4 + unwrap_or (error_in_data contents payload) 0

-- the offset of the error of a rejected attribute of the list, from its header: 0 for names,
-- statistics and unknown attributes
abbrev pub error_in : {L : DataTypes} → DataFamilies L → Role → Attribute → ℕ
error_in layer (role.Data tag) a =
    error_in_payload (layer.data_of (family_of tag)).contents a.value
error_in layer (role.PortData tag) a =
    error_in_payload (layer.port_data_of (port_family_of tag)).contents a.value
error_in layer _ a = 0

abbrev pub error_in_rejected : {L : DataTypes} (layer : DataFamilies L) (s : List ℕ)
    (e : DecodeError) → IsRejected layer s e → ℕ
error_in_rejected layer s e (inl item) =
    error_in layer (role_at (kinds_after_all no_kinds item.front) item.item) item.item
error_in_rejected layer s e (inr rest) = 0

-- The byte string has the error, at this offset as `IsRejectedAt` says, and the innermost attribute
-- that has it is at `inner`.
abbrev pub IsErrorAt : {L : DataTypes} → DataFamilies L → List ℕ → DecodeError → ℕ → ℕ → Type 0
IsErrorAt layer s e place inner =
    (rejected : IsRejected layer s e)
    × (place ≡ place_after s (before_error layer s e rejected))
    × (inner ≡ place + error_in_rejected layer s e rejected)
