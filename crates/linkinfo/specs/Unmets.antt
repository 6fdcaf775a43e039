-- All attributes of a list of link info that another list does not meet, in the order of the list.
use Rattle.std.specs.Prelude.{
  ⊤,
  ℕ,
  ◌<◌,
  Bool,
  true,
  false,
  IsOk,
  if◌then◌else◌,
  List,
  [],
  ◌∷◌,
  map,
  Option,
  None,
  Some,
}
use Rattle.std.specs.Option.{option_map}
use Rattle.nla_frame.specs.Attribute.{Attribute}
use Rattle.nla_frame.specs.declared.error.Family.TheVariants as family
use Rattle.linkinfo_table.specs.Contents.{Contents, ListOf, NoList}
use Rattle.linkinfo_table.specs.Last.{attributes_of}
use Rattle.linkinfo_table.specs.Rows.{row_alike}
use Rattle.linkinfo_table.specs.Unmet.{inner_unmet, meets, whole_unmet}
use Rattle.linkinfo_table.specs.Unmets.{all_at, item_unmets, lasts_unmets, list_unmets}
use Rattle.linkinfo_table.specs.declared.last.PlacedNla.{PlacedNla}
use Rattle.linkinfo_table.specs.declared.unmet.Unmet.{Unmet}
use Rattle.linkinfo_data.specs.BytesLayer.{bytes_layer}
use Rattle.linkinfo_data.specs.Data.{family_of}
use Rattle.linkinfo_data.specs.DataFamilies.{DataFamilies, DataTypes}
use Rattle.linkinfo_data.specs.Payloads.{Payload}
use Rattle.linkinfo_data.specs.PortData.{port_family_of}
use Rattle.linkinfo_data.specs.TypedLayer.{typed_layer}
use Rattle.linkinfo.specs.Items.{link_row}
use Rattle.linkinfo.specs.Strings.{reading}
use Rattle.linkinfo.specs.Unmet.{Linked, link_at, role_of_link, same_kind}
use Rattle.linkinfo.specs.declared.role.Role.TheVariants as role
use Rattle.linkinfo.specs.declared.role.Role.{Role}

-- of two attributes of one type and kind: the whole, where the payloads differ and are not
-- equivalent, ..
abbrev pub whole_item_unmets : (Attribute → Attribute → Bool) → PlacedNla → PlacedNla → List Unmet
whole_item_unmets alike have want =
    item_unmets family.LinkInfo (meets alike have.nla want.nla) have want

-- .. or attributes in the payload, where it is a list
abbrev pub contents_unmets : Contents → Bool → PlacedNla → PlacedNla → List Unmet
contents_unmets (NoList place count) met have want = item_unmets family.LinkInfo met have want
contents_unmets (ListOf l inside) met have want =
    map (inner_unmet want have) (list_unmets l inside have.nla.value want.nla.value)

abbrev pub data_unmets : {X : Type 0} → Payload X → PlacedNla → PlacedNla → List Unmet
data_unmets payload have want =
    contents_unmets payload.contents
    (meets (λ a b. payload.alike a.value b.value) have.nla want.nla) have want

abbrev pub role_unmets : {L : DataTypes} → DataFamilies L → Role → PlacedNla → PlacedNla →
    List Unmet
role_unmets layer (role.Data tag) have want =
    data_unmets (layer.data_of (family_of tag)) have want
role_unmets layer (role.PortData tag) have want =
    data_unmets (layer.port_data_of (port_family_of tag)) have want
role_unmets layer r have want = whole_item_unmets (row_alike (link_row layer r)) have want

abbrev pub link_unmets : {L : DataTypes} → DataFamilies L → Option Linked → Linked → List Unmet
link_unmets layer None want = whole_unmet family.LinkInfo want.at None ∷ []
link_unmets layer (Some have) want =
    if same_kind (role_of_link want) have.named want.named
    then role_unmets layer (role_of_link want) have.at want.at
    else whole_unmet family.LinkInfo want.at (Some have.at) ∷ []

-- of an attribute of one list by one of another list, or none, each with the names before it
abbrev pub linked_unmets : {L : DataTypes} → DataFamilies L → List ℕ → List ℕ →
    Option PlacedNla → PlacedNla → List Unmet
linked_unmets layer have want found p =
    link_unmets layer (option_map (link_at have) found) (link_at want p)

-- .. all, of the attributes that count, by the last one of its type in the other list
abbrev pub strings_unmets : {L : DataTypes} → DataFamilies L → List ℕ → List ℕ → List Unmet
strings_unmets layer have want =
    lasts_unmets (linked_unmets layer have want) (attributes_of have) (attributes_of want)

-- each is at a later offset than the one before it
abbrev pub AreInOrder : List Unmet → Type 0
AreInOrder [] = ⊤
AreInOrder (u ∷ []) = ⊤
AreInOrder (u ∷ v ∷ more) = (u.want < v.want) × AreInOrder (v ∷ more)

-- ---- iteration

-- two strings, the offset in the second from which unmet attributes are left, and whether they are
-- over the typed layer
pub record UnmetWalk : Type 0 where
  pub have : List ℕ
  pub want : List ℕ
  pub from : ℕ
  pub is_typed : Bool

abbrev pub unmet_walk : Bool → List ℕ → List ℕ → UnmetWalk
unmet_walk is_typed have want = record { have = have; want = want; from = 0; is_typed = is_typed }

-- both strings are accepted
abbrev pub AreAccepted : Bool → List ℕ → List ℕ → Type 0
AreAccepted true have want = IsOk (reading typed_layer have) × IsOk (reading typed_layer want)
AreAccepted false have want = IsOk (reading bytes_layer have) × IsOk (reading bytes_layer want)

abbrev pub unmets_of : Bool → List ℕ → List ℕ → List Unmet
unmets_of true have want = strings_unmets typed_layer have want
unmets_of false have want = strings_unmets bytes_layer have want

abbrev pub unmets_left : UnmetWalk → List Unmet
unmets_left walk = all_at walk.from (unmets_of walk.is_typed walk.have walk.want)
