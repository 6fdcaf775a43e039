-- Lists without data of some kinds, and two layers that answer alike for such a list.
use Rattle.std.specs.Prelude.{◌≡◌, ◌↔◌, ℕ, Bool, false, IsOk, List, [], ◌∷◌, Result, Ok, Err}
use Rattle.nla_frame.specs.Answers.{verdict}
use Rattle.nla_frame.specs.Attribute.{Attribute}
use Rattle.nla_frame.specs.NlaItems.{nla_items}
use Rattle.nla_frame.specs.declared.error.DecodeError.{DecodeError}
use Rattle.linkinfo_numbers.specs.declared.tags.KindTag.TheVariants as tag
use Rattle.linkinfo_numbers.specs.declared.tags.PortTag.TheVariants as port
use Rattle.linkinfo_data.specs.Data.{family_of, is_supplied}
use Rattle.linkinfo_data.specs.DataFamilies.{DataFamilies, DataTypes}
use Rattle.linkinfo_data.specs.PortData.{is_port_supplied, port_family_of}
use Rattle.linkinfo.specs.Canon.{IsCanonical, IsUnfit}
use Rattle.linkinfo.specs.Difference.{strings_difference}
use Rattle.linkinfo.specs.Items.{link_attribute}
use Rattle.linkinfo.specs.Placed.{IsErrorAt}
use Rattle.linkinfo.specs.Roles.{no_kinds, role_at}
use Rattle.linkinfo.specs.Strings.{
  alike_strings,
  headers_of_string,
  next_kinds,
  reading,
  reading_needs_memory,
}
use Rattle.linkinfo.specs.Unmet.{strings_unmet}
use Rattle.linkinfo.specs.declared.role.CurrentKinds.{CurrentKinds}
use Rattle.linkinfo.specs.declared.role.Role.{Role}
use Rattle.linkinfo.specs.declared.role.Role.TheVariants as role

-- no attribute has such a role, under the current kinds that the attributes before it leave
abbrev pub NoneHas : (Role → Bool) → CurrentKinds → List (Result Attribute ℕ) → Type 0
NoneHas is t [] = Unit {0}
NoneHas is t ((Err n) ∷ more) = Unit {0}
NoneHas is t ((Ok a) ∷ more) = (is (role_at t a) ≡ false) × NoneHas is (next_kinds t a) more

-- data of a family that a layer supplies
abbrev pub is_supplied_data : Role → Bool
is_supplied_data (role.Data kind) = is_supplied (family_of kind)
is_supplied_data (role.PortData kind) = is_port_supplied (port_family_of kind)
is_supplied_data _ = false

-- these are the roles of such data, and no others: data of bond, bridge, vlan, can, hsr, dsa and
-- tun links, and of ports of bond and bridge links
abbrev pub supplied_roles : List Role
supplied_roles =
    role.Data tag.Bond
    ∷ role.Data tag.Bridge
    ∷ role.Data tag.Vlan
    ∷ role.Data tag.Can
    ∷ role.Data tag.Hsr
    ∷ role.Data tag.Dsa
    ∷ role.Data tag.Tun
    ∷ role.PortData port.Bond
    ∷ role.PortData port.Bridge
    ∷ []

-- the byte string has no such data
unfoldable pub HasNoSuppliedData : List ℕ → Type 0
HasNoSuppliedData s = NoneHas is_supplied_data no_kinds (nla_items s)

-- what two layers have in common of a byte string
pub record AnswerAlike {L M : DataTypes} (one : DataFamilies L) (other : DataFamilies M)
    (s : List ℕ) : Type 0 where
  -- both accept it, or reject it with one error
  pub accepted : verdict (reading one s) ≡ verdict (reading other s)
  -- the offsets of the error are the same
  pub placed : (d e : DecodeError) (place at inner within : ℕ) → IsErrorAt one s d place inner →
      IsErrorAt other s e at within → (place ≡ at) × (inner ≡ within)
  -- as many headers are examined
  pub headers : headers_of_string one s ≡ headers_of_string other s
  -- parsing it needs memory under both, or under neither
  pub needs_memory : reading_needs_memory one s ≡ reading_needs_memory other s
  -- if it is accepted, it has the same canonical encoding ..
  pub canonical : (t : List ℕ) → IsCanonical (link_attribute one) (reading one s) t
      ↔ IsCanonical (link_attribute other) (reading other s) t
  -- .. or its list fits under neither
  pub unfit : IsUnfit (link_attribute one) (reading one s)
      ↔ IsUnfit (link_attribute other) (reading other s)
  -- it is equivalent to the same byte strings
  pub alike : (t : List ℕ) → alike_strings one s t ≡ alike_strings other s t
  pub alike_to : (t : List ℕ) → alike_strings one t s ≡ alike_strings other t s
  -- it has the same first difference from each byte string, and each from it
  pub difference : (t : List ℕ) → strings_difference one s t ≡ strings_difference other s t
  pub difference_to : (t : List ℕ) → strings_difference one t s ≡ strings_difference other t s
  -- if it is accepted, each byte string leaves the same attribute of it unmet, ..
  pub unmet : IsOk (reading one s) → (have : List ℕ) →
      strings_unmet one have s ≡ strings_unmet other have s
  -- .. and it leaves the same attribute of each byte string unmet
  pub unmet_by : IsOk (reading one s) → (want : List ℕ) →
      strings_unmet one s want ≡ strings_unmet other s want
