-- When a list meets another one, told without offsets, and which lists do.
use Rattle.std.specs.Prelude.{◌≡◌, ◌⊎◌, ℕ, ◌==◌, ◌&&◌, Bool, true, false, IsTrue, is_some}
use Rattle.std.specs.Prelude.{List, [], ◌∷◌, map}
use Rattle.std.specs.Prelude.{Option, None, Some}
use Rattle.std.specs.List.{AllByRecursion, AllZip, Any, Contains, IsDistinct, filter, last_or}
use Rattle.std.specs.List.{list_any}
use Rattle.std.specs.Option.{option_map}
use Rattle.nla_frame.specs.Attribute.{Attribute, masked}
use Rattle.nla_frame.specs.Payload.{stripped}
use Rattle.linkinfo_table.specs.Contents.{Contents, ListOf, Listed, NoList, single_value}
use Rattle.linkinfo_table.specs.Last.{attributes_of}
use Rattle.linkinfo_table.specs.Rows.{row_alike}
use Rattle.linkinfo_data.specs.Data.{family_of}
use Rattle.linkinfo_data.specs.DataFamilies.{DataFamilies, DataTypes}
use Rattle.linkinfo_data.specs.Lists.{family_in}
use Rattle.linkinfo_data.specs.Payloads.{Payload}
use Rattle.linkinfo_data.specs.PortData.{port_family_of}
use Rattle.linkinfo_table.specs.Unmet.{meets}
use Rattle.linkinfo.specs.Items.{link_row}
use Rattle.linkinfo.specs.Roles.{role_of}
use Rattle.linkinfo.specs.Unmet.{Named, kinds_named, names_after, no_names, same_kind}
use Rattle.linkinfo.specs.declared.role.Role.TheVariants as role
use Rattle.linkinfo.specs.declared.role.Role.{Role}

-- ---- the last ones of each type

-- the last element of a type
abbrev pub last_of : {X : Type 0} → (X → ℕ) → ℕ → List X → Option X
last_of type k list = last_or None (filter (λ x. type x == k) list)

-- what is wanted, if anything, is met by what is there
abbrev pub IsMet : {X : Type 0} → (X → X → Type 0) → Option X → Option X → Type 0
IsMet Meets have None = Unit {0}
IsMet Meets None (Some want) = ⊥
IsMet Meets (Some have) (Some want) = Meets have want

-- of each type, the last element of a list is met by the last one of another list
abbrev pub LastsMeet : {X : Type 0} → (X → ℕ) → (X → X → Type 0) → List X → List X → Type 0
LastsMeet type Meets have want = (k : ℕ) → IsMet Meets (last_of type k have) (last_of type k want)

-- ---- attributes without their offsets

-- the type without its flags
abbrev pub type_of : Attribute → ℕ
type_of a = masked a.kind

-- the attributes of a string, in order
abbrev pub nlas_of : List ℕ → List Attribute
nlas_of s = map (λ p. p.nla) (attributes_of s)

-- an attribute of the list, and the names that are current before it
pub record Item : Type 0 where
  pub nla : Attribute
  pub named : Named

abbrev pub type_of_item : Item → ℕ
type_of_item item = type_of item.nla

abbrev pub role_of_item : Item → Role
role_of_item item = role_of (kinds_named item.named) (type_of_item item)

-- attributes in order, each with the names before it
abbrev pub items_under : Named → List Attribute → List Item
items_under names [] = []
items_under names (a ∷ more) =
    record { nla = a; named = names } ∷ items_under (names_after names a) more

abbrev pub items_of : List ℕ → List Item
items_of s = items_under no_names (nlas_of s)

-- ---- what is met

-- the first condition, or the second one
abbrev pub Chosen : Bool → Type 0 → Type 0 → Type 0
Chosen true P Q = P
Chosen false P Q = Q

-- each attribute of a set is met by one of its type in another set
abbrev pub MembersMeet : (Attribute → Attribute → Bool) → List Attribute → List Attribute → Type 0
MembersMeet alike have want =
    AllByRecursion
    (λ w. IsTrue (list_any (λ h. (type_of h == type_of w) && meets alike h w) have)) want

-- the attributes of a list are met: those of a set, or the last one of each type by the last one of
-- that type, given when one attribute meets another one of its type
abbrev pub AttributesMeet : Listed → (Attribute → Attribute → Type 0) → List Attribute →
    List Attribute → Type 0
AttributesMeet l Meets have want =
    Chosen l.is_set (MembersMeet l.alike have want) (LastsMeet type_of Meets have want)

-- an attribute meets another one of its type: its list does, if it contains one, and else it does
-- as a whole
abbrev pub PayloadMeets : Contents → Bool → Attribute → Attribute → Type 0
PayloadMeets (NoList place count) met have want = IsTrue met
PayloadMeets (ListOf l inside) met have want =
    Chosen l.is_whole (IsTrue met)
    (AttributesMeet l (λ h w. PayloadMeets (inside (type_of w)) (meets l.alike h w) h w)
    (nlas_of have.value) (nlas_of want.value))

-- .. given what the attributes of each type contain
abbrev pub AttributeMeets : (ℕ → Contents) → (Attribute → Attribute → Bool) → Attribute →
    Attribute → Type 0
AttributeMeets contents alike have want =
    PayloadMeets (contents (type_of want)) (meets alike have want) have want

-- a payload that is a list meets another one
abbrev pub ListMeets : Listed → (ℕ → Contents) → List ℕ → List ℕ → Type 0
ListMeets l inside have want =
    AttributesMeet l (AttributeMeets inside l.alike) (nlas_of have) (nlas_of want)

-- data: attribute by attribute where it is a list, and else as a whole
abbrev pub ContentsMeet : Contents → Bool → Attribute → Attribute → Type 0
ContentsMeet (NoList place count) met have want = IsTrue met
ContentsMeet (ListOf l inside) met have want = ListMeets l inside have.value want.value

abbrev pub DataMeets : {X : Type 0} → Payload X → Attribute → Attribute → Type 0
DataMeets payload have want =
    ContentsMeet payload.contents (meets (λ a b. payload.alike a.value b.value) have want) have want

-- an attribute of the list, by its role
abbrev pub RoleMeets : {L : DataTypes} → DataFamilies L → Role → Attribute → Attribute → Type 0
RoleMeets layer (role.Data tag) have want =
    DataMeets (layer.data_of (family_of tag)) have want
RoleMeets layer (role.PortData tag) have want =
    DataMeets (layer.port_data_of (port_family_of tag)) have want
RoleMeets layer r have want = IsTrue (meets (row_alike (link_row layer r)) have want)

-- .. under the same kind
pub record ItemMeets {L : DataTypes} (layer : DataFamilies L) (have want : Item) : Type 0 where
  pub kind : IsTrue (same_kind (role_of_item want) have.named want.named)
  pub payload : RoleMeets layer (role_of_item want) have.nla want.nla

-- a list meets another one
abbrev pub StringMeets : {L : DataTypes} → DataFamilies L → List ℕ → List ℕ → Type 0
StringMeets layer have want =
    LastsMeet type_of_item (ItemMeets layer) (items_of have) (items_of want)

-- ---- lists with more attributes

-- of each type of a list, two other ones have the same last attribute
abbrev pub HaveSameLasts : List ℕ → List ℕ → List ℕ → Type 0
HaveSameLasts want have more =
    AllByRecursion
    (λ w. last_of type_of (type_of w) (nlas_of more) ≡ last_of type_of (type_of w) (nlas_of have))
    (nlas_of want)

-- one list has each attribute of another one
abbrev pub HaveAll : List ℕ → List ℕ → Type 0
HaveAll have more =
    (a : Attribute) → Contains (nlas_of have) a → Contains (nlas_of more) a

-- what is wanted of a list has stayed: of a set all attributes, and otherwise the last one of each
-- type that is wanted
abbrev pub AttributesStay : Listed → List ℕ → List ℕ → List ℕ → Type 0
AttributesStay l want have more =
    Chosen l.is_set (HaveAll have more) (HaveSameLasts want have more)

-- .. of data that is a list
abbrev pub ContentsStay : Contents → List ℕ → List ℕ → List ℕ → Type 0
ContentsStay (NoList place count) want have more = ⊥
ContentsStay (ListOf l inside) want have more = AttributesStay l want have more

-- a list has an attribute of a type
abbrev pub has_type : List Attribute → ℕ → Bool
has_type list k = list_any (λ a. type_of a == k) list

-- two lists differ only in attributes of types that `want` has not: the others are the same, in
-- order
abbrev pub DifferElsewhere : List ℕ → List ℕ → List ℕ → Type 0
DifferElsewhere want have more =
    filter (λ a. has_type (nlas_of want) (type_of a)) (nlas_of more)
    ≡ filter (λ a. has_type (nlas_of want) (type_of a)) (nlas_of have)

-- ---- lists in another order

abbrev pub HasNoTypeTwice : List Attribute → Type 0
HasNoTypeTwice list = IsDistinct (λ a b. type_of a == type_of b) list

-- each attribute has one of its type in another list that is like it
abbrev pub EachHasOneLike :
    (Attribute → Attribute → Type 0) → List Attribute → List Attribute → Type 0
EachHasOneLike IsLike list other =
    AllByRecursion (λ a. Any (λ b. (type_of b ≡ type_of a) × IsLike a b) other) list

-- two lists without a type twice, of which each attribute has one like it in the other list
pub record IsReordering (IsLike : Attribute → Attribute → Type 0) (list other : List Attribute) :
    Type 0 where
  pub first : HasNoTypeTwice list
  pub second : HasNoTypeTwice other
  pub forth : EachHasOneLike IsLike list other
  pub back : EachHasOneLike (λ b a. IsLike a b) other list

-- data: the payloads of the attributes in it are equal
abbrev pub IsReorderedData : List ℕ → List ℕ → Type 0
IsReorderedData p q = IsReordering (λ a b. a.value ≡ b.value) (nlas_of p) (nlas_of q)

-- the name in the attribute of a type
abbrev pub name_in_list : List Attribute → ℕ → Option (List ℕ)
name_in_list list k = option_map (λ a. stripped a.value) (last_of type_of k list)

-- the names of the kind and of the port kind of a list
abbrev pub names_in_list : List Attribute → Named
names_in_list list = record { kind = name_in_list list 1; port = name_in_list list 4 }

abbrev pub role_in_list : List Attribute → Attribute → Role
role_in_list list a = role_of (kinds_named (names_in_list list)) (type_of a)

-- what an attribute of the list contains
abbrev pub contents_in : {L : DataTypes} → DataFamilies L → Role → Contents
contents_in layer (role.Data tag) = (layer.data_of (family_of tag)).contents
contents_in layer (role.PortData tag) = (layer.port_data_of (port_family_of tag)).contents
contents_in layer _ = single_value

-- data that is a list of attributes of a family
abbrev pub is_list : {L : DataTypes} → DataFamilies L → Role → Bool
is_list layer r = is_some (family_in (contents_in layer r))

-- the payloads are equal, or data that is a list is in another order
abbrev pub IsLikeIn : {L : DataTypes} → DataFamilies L → List Attribute → Attribute → Attribute →
    Type 0
IsLikeIn layer list a b =
    (a.value ≡ b.value)
    ⊎ (IsTrue (is_list layer (role_in_list list a)) × IsReorderedData a.value b.value)

abbrev pub IsReorderedList : {L : DataTypes} → DataFamilies L → List ℕ → List ℕ → Type 0
IsReorderedList layer s t =
    IsReordering (IsLikeIn layer (nlas_of s)) (nlas_of s) (nlas_of t)

-- ---- lists with more attributes inside data

-- wanted data of this type is a list, and what is wanted of it has stayed
abbrev pub StaysFor : {L : DataTypes} → DataFamilies L → Item → Item → Item → Type 0
StaysFor layer old new want =
    type_of_item want ≡ type_of_item old →
    ContentsStay (contents_in layer (role_of_item want)) want.nla.value old.nla.value new.nla.value

-- an attribute of the list has stayed, or is data that has changed beside what is wanted
pub record HasGained {L : DataTypes} (layer : DataFamilies L) (want : List Item) (old new : Item) :
    Type 0 where
  pub named : old.named ≡ new.named
  pub type : type_of_item old ≡ type_of_item new
  pub payload : (old.nla ≡ new.nla) ⊎ AllByRecursion (StaysFor layer old new) want

-- of two lists with the same types in order each attribute is so
abbrev pub DifferInside : {L : DataTypes} → DataFamilies L → List ℕ → List ℕ → List ℕ → Type 0
DifferInside layer want have more =
    AllZip (HasGained layer (items_of want)) (items_of have) (items_of more)
