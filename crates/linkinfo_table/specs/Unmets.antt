-- All attributes of a list that another list does not meet, in the order of the list.
use Rattle.std.specs.Prelude.{
  ℕ,
  nat_le,
  Bool,
  not,
  if◌then◌else◌,
  List,
  [],
  ◌∷◌,
  map,
  Option,
  None,
  Some,
}
use Rattle.std.specs.List.{filter, find, flat_map, list_any}
use Rattle.nla_frame.specs.Attribute.{Attribute, masked}
use Rattle.nla_frame.specs.declared.error.Family.{Family}
use Rattle.linkinfo_table.specs.Contents.{Contents, ListOf, Listed, NoList}
use Rattle.linkinfo_table.specs.Last.{attributes_of}
use Rattle.linkinfo_table.specs.Unmet.{
  counts,
  inner_unmet,
  is_like,
  last_like,
  meets,
  whole_unmet,
}
use Rattle.linkinfo_table.specs.declared.last.PlacedNla.{PlacedNla}
use Rattle.linkinfo_table.specs.declared.unmet.Unmet.{Unmet}

-- the first of some unmet attributes whose offset is this one or a later one
abbrev pub first_at : ℕ → List Unmet → Option Unmet
first_at from list = find (λ u. nat_le from u.want) list

-- .. and all of these
abbrev pub all_at : ℕ → List Unmet → List Unmet
all_at from list = filter (λ u. nat_le from u.want) list

-- ---- of one attribute

-- the whole, where another attribute of its type does not meet it
abbrev pub item_unmets : Family → Bool → PlacedNla → PlacedNla → List Unmet
item_unmets family met have want = if met then [] else whole_unmet family want (Some have) ∷ []

-- .. or where there is none
abbrev pub found_unmets : Family → (PlacedNla → PlacedNla → List Unmet) → Option PlacedNla →
    PlacedNla → List Unmet
found_unmets family unmets None want = whole_unmet family want None ∷ []
found_unmets family unmets (Some have) want = unmets have want

-- ---- lists in which an attribute's type says what it is

-- of an attribute that counts, by the last one of its type in the other list
abbrev pub counted_unmets : (Option PlacedNla → PlacedNla → List Unmet) → List PlacedNla →
    List PlacedNla → PlacedNla → List Unmet
counted_unmets unmets have want p = if counts want p then unmets (last_like have p) p else []

abbrev pub lasts_unmets : (Option PlacedNla → PlacedNla → List Unmet) → List PlacedNla →
    List PlacedNla → List Unmet
lasts_unmets unmets have want = flat_map (counted_unmets unmets have want) want

-- ---- lists that are sets

-- each attribute that none of another list meets
abbrev pub members_unmets : Family → (Attribute → Attribute → Bool) → List PlacedNla →
    List PlacedNla → List Unmet
members_unmets family alike have want =
    map (λ w. whole_unmet family w None)
    (filter (λ w. not (list_any (is_like alike w) have)) want)

-- ---- lists of a family

-- what of a list another one does not meet, given what of an attribute another one of its type
-- does not meet
abbrev pub attributes_unmets : Listed → (PlacedNla → PlacedNla → List Unmet) → List PlacedNla →
    List PlacedNla → List Unmet
attributes_unmets l unmets have want =
    if l.is_set
    then members_unmets l.family l.alike have want
    else lasts_unmets (found_unmets l.family unmets) have want

-- what of an attribute another one of its type in a family does not meet: attributes of its list
-- if it contains one, otherwise all of it, if it is not met
abbrev pub payload_unmets : Contents → Family → Bool → PlacedNla → PlacedNla → List Unmet
payload_unmets (NoList place count) family met have want = item_unmets family met have want
payload_unmets (ListOf l inside) family met have want =
    if l.is_whole
    then item_unmets family met have want
    else map (inner_unmet want have)
    (attributes_unmets l (λ h w.
    payload_unmets (inside (masked w.nla.kind)) l.family (meets l.alike h.nla w.nla) h w)
    (attributes_of have.nla.value) (attributes_of want.nla.value))

-- .. given what the attributes of each type contain
abbrev pub attribute_unmets : (ℕ → Contents) → Family → (Attribute → Attribute → Bool) →
    PlacedNla → PlacedNla → List Unmet
attribute_unmets contents family alike have want =
    payload_unmets (contents (masked want.nla.kind)) family (meets alike have.nla want.nla) have
    want

-- the attributes of a payload that is a list that another one does not meet
abbrev pub list_unmets : Listed → (ℕ → Contents) → List ℕ → List ℕ → List Unmet
list_unmets l inside have want =
    attributes_unmets l (attribute_unmets inside l.family l.alike) (attributes_of have)
    (attributes_of want)
