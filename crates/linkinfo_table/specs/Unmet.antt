-- Which attribute of a list another list does not meet.
use Rattle.std.specs.Prelude.{
  ◌==◌,
  ◌&&◌,
  ◌||◌,
  ◌+◌,
  ◌≤◌,
  nat_lt,
  ℕ,
  Bool,
  not,
  if◌then◌else◌,
  IfSome,
  List,
  [],
  ◌∷◌,
  Option,
  None,
  Some,
}
use Rattle.std.specs.List.{find, list_any}
use Rattle.std.specs.Option.{option_eq, option_map}
use Rattle.std.specs.Str.{bytes_eq}
use Rattle.nla_frame.specs.Attribute.{Attribute, masked}
use Rattle.nla_frame.specs.declared.error.Family.{Family}
use Rattle.linkinfo_table.specs.Contents.{Contents, ListOf, Listed, NoList}
use Rattle.linkinfo_table.specs.Difference.{end_of, first_or}
use Rattle.linkinfo_table.specs.Last.{attributes_of, last_of_type, offset_of}
use Rattle.linkinfo_table.specs.declared.last.PlacedNla.{PlacedNla}
use Rattle.linkinfo_table.specs.declared.unmet.Unmet.{Unmet}
use Rattle.linkinfo_table.specs.declared.unmet.UnmetAt.{UnmetAt}

-- the last attribute of a list with the type of another attribute
abbrev pub last_like : List PlacedNla → PlacedNla → Option PlacedNla
last_like list placed = last_of_type (masked placed.nla.kind) list

-- an attribute counts in its list where no later one has its type
abbrev pub counts : List PlacedNla → PlacedNla → Bool
counts list placed = option_eq ◌==◌ (offset_of (last_like list placed)) (Some placed.offset)

-- an attribute meets another one of its type: the payloads are equal, or both are equivalent
abbrev pub meets : (Attribute → Attribute → Bool) → Attribute → Attribute → Bool
meets alike found wanted = bytes_eq found.value wanted.value || alike found wanted

-- ---- what is not met of an attribute

-- an attribute that is not met as a whole, and the offset of the one of its type that does not meet
-- it, ..
abbrev pub unmet_by : Family → PlacedNla → Option ℕ → Unmet
unmet_by family want have = record {
  family = family;
  kind = masked want.nla.kind;
  want = want.offset;
  have = have;
}

-- .. or that one
abbrev pub whole_unmet : Family → PlacedNla → Option PlacedNla → Unmet
whole_unmet family want have = unmet_by family want (offset_of have)

-- the offsets of what is not met are at most these
pub record IsUnmetWithin (want have : ℕ) (unmet : Unmet) : Type 0 where
  pub want_in : unmet.want ≤ want
  pub have_in : IfSome unmet.have (λ n. n ≤ have)

-- one of its payload, by offsets in the list
abbrev pub inner_unmet : PlacedNla → PlacedNla → Unmet → Unmet
inner_unmet want have inner = record {
  family = inner.family;
  kind = inner.kind;
  want = want.offset + 4 + inner.want;
  have = option_map (λ n. have.offset + 4 + n) inner.have;
}

-- the whole, where another attribute of its type does not meet it
abbrev pub item_unmet : Family → Bool → PlacedNla → PlacedNla → Option Unmet
item_unmet family met have want = if met then None else Some (whole_unmet family want (Some have))

-- .. or where there is none
abbrev pub found_unmet : Family → (PlacedNla → PlacedNla → Option Unmet) → Option PlacedNla →
    PlacedNla → Option Unmet
found_unmet family unmet None want = Some (whole_unmet family want None)
found_unmet family unmet (Some have) want = unmet have want

-- the offset after its payload, where there is one
abbrev pub end_of_found : Option PlacedNla → ℕ
end_of_found None = 0
end_of_found (Some have) = end_of have

-- ---- lists in which an attribute's type says what it is

-- of an attribute that counts, by the last one of its type in the other list
abbrev pub counted_unmet : (Option PlacedNla → PlacedNla → Option Unmet) → List PlacedNla →
    List PlacedNla → PlacedNla → Option Unmet
counted_unmet unmet have want p = if counts want p then unmet (last_like have p) p else None

-- the first
abbrev pub first_of : (PlacedNla → Option Unmet) → List PlacedNla → Option Unmet
first_of unmet [] = None
first_of unmet (p ∷ more) = first_or (unmet p) (first_of unmet more)

abbrev pub lasts_unmet : (Option PlacedNla → PlacedNla → Option Unmet) → List PlacedNla →
    List PlacedNla → Option Unmet
lasts_unmet unmet have want = first_of (counted_unmet unmet have want) want

-- ---- lists that are sets

-- an attribute of a list has the type of another one, and meets it
abbrev pub is_like : (Attribute → Attribute → Bool) → PlacedNla → PlacedNla → Bool
is_like alike wanted found =
    (masked found.nla.kind == masked wanted.nla.kind) && meets alike found.nla wanted.nla

-- the first attribute that none of another list meets
abbrev pub members_unmet : Family → (Attribute → Attribute → Bool) → List PlacedNla →
    List PlacedNla → Option Unmet
members_unmet family alike have want =
    option_map (λ w. whole_unmet family w None)
    (find (λ w. not (list_any (is_like alike w) have)) want)

-- ---- lists of a family

-- what of a list another one does not meet, given what of an attribute another one of its type
-- does not meet
abbrev pub attributes_unmet : Listed → (PlacedNla → PlacedNla → Option Unmet) → List PlacedNla →
    List PlacedNla → Option Unmet
attributes_unmet l unmet have want =
    if l.is_set
    then members_unmet l.family l.alike have want
    else lasts_unmet (found_unmet l.family unmet) have want

-- What of an attribute another one of its type in a family does not meet: of its list if it
-- contains one, otherwise all of it, if it is not met.
abbrev pub payload_unmet : Contents → Family → Bool → PlacedNla → PlacedNla → Option Unmet
payload_unmet (NoList place count) family met have want = item_unmet family met have want
payload_unmet (ListOf l inside) family met have want =
    if l.is_whole
    then item_unmet family met have want
    else option_map (inner_unmet want have)
    (attributes_unmet l (λ h w.
    payload_unmet (inside (masked w.nla.kind)) l.family (meets l.alike h.nla w.nla) h w)
    (attributes_of have.nla.value) (attributes_of want.nla.value))

-- .. given what the attributes of each type contain
abbrev pub attribute_unmet : (ℕ → Contents) → Family → (Attribute → Attribute → Bool) →
    PlacedNla → PlacedNla → Option Unmet
attribute_unmet contents family alike have want =
    payload_unmet (contents (masked want.nla.kind)) family (meets alike have.nla want.nla) have want

-- the first attribute of a payload that is a list that another one does not meet
abbrev pub list_unmet : Listed → (ℕ → Contents) → List ℕ → List ℕ → Option Unmet
list_unmet l inside have want =
    attributes_unmet l (attribute_unmet inside l.family l.alike) (attributes_of have)
    (attributes_of want)

-- ---- in parts, by types

-- with the offset of the attribute, where its type passes a test
abbrev pub told_from : (ℕ → Bool) → (PlacedNla → Option Unmet) → PlacedNla → Option UnmetAt
told_from of_type unmet p =
    if of_type (masked p.nla.kind)
    then option_map (λ u. record { offset = p.offset; unmet = u }) (unmet p)
    else None

-- the first such attribute of a list
abbrev pub first_told : (ℕ → Bool) → (PlacedNla → Option Unmet) → List PlacedNla → Option UnmetAt
first_told of_type unmet [] = None
first_told of_type unmet (p ∷ more) =
    first_or (told_from of_type unmet p) (first_told of_type unmet more)

-- the one that is earlier in its list
abbrev pub earlier : Option UnmetAt → Option UnmetAt → Option UnmetAt
earlier None other = other
earlier (Some old) None = Some old
earlier (Some old) (Some new) = if nat_lt new.offset old.offset then Some new else Some old
