-- What values in memory are: the byte strings that they borrow in place of references.
use Rattle.std.specs.Prelude.{
  ◌≡◌,
  ℕ,
  List,
  Option,
  Some,
  None,
  option_map,
  option_copied,
  Result,
  Ok,
  Err,
}
use Rattle.nla_frame.specs.Attribute.{Attribute}
use Rattle.linkinfo_messages.specs.declared.error.MessageError.{MessageError}
use Rattle.linkinfo_messages.specs.declared.attributes.LinkAttributes.{LinkAttributes}
use Rattle.linkinfo_messages.specs.declared.link.LinkContents.{LinkContents}
use Rattle.linkinfo_messages.specs.declared.link.LinkMessage.{LinkMessage}
use Rattle.linkinfo_messages.specs.Slices.{AreSlices}
use Rattle.linkinfo_messages.specs.Links.{
  Link,
  located,
  damaged_at,
  name_in,
  name_place_in,
  info_in,
}

-- the offset of the contents, and the contents
abbrev pub info_seen : Option LinkContents → Option (ℕ × List ℕ)
info_seen info = option_map (λ c. (c.place, c.bytes.now)) info

abbrev pub link_in : LinkMessage → Link
link_in m = record {
  place = m.place;
  event = m.event;
  index = m.index;
  flags = m.flags;
  name = option_copied m.name;
  name_place = m.name_place;
  info = info_seen m.info;
}

-- its name and its contents are slices of a byte string that begins at this offset
abbrev pub HasSlices : LinkMessage → List ℕ → ℕ → Type 0
HasSlices m s start = AreSlices (option_copied m.name) m.name_place (info_seen m.info) s start

abbrev pub link_seen : Result (Option LinkMessage) MessageError → Result (Option Link) MessageError
link_seen (Ok link) = Ok (option_map link_in link)
link_seen (Err e) = Err e

abbrev pub item_seen : Result LinkMessage MessageError → Result Link MessageError
item_seen (Ok link) = Ok (link_in link)
item_seen (Err e) = Err e

-- the attributes that are read from a byte string, where the first is at `place`, or the offset of
-- the first header that is not accepted
pub record AttributesAre (attributes : LinkAttributes) (place : ℕ)
    (items : List (Result Attribute ℕ)) : Type 0 where
  pub undamaged : damaged_at place items ≡ None
  pub name : option_copied attributes.name ≡ name_in (located place items)
  pub name_place : attributes.name_place ≡ name_place_in (located place items)
  pub info : info_seen attributes.info ≡ info_in (located place items)

abbrev pub HasAttributes : Result LinkAttributes ℕ → ℕ → List (Result Attribute ℕ) → Type 0
HasAttributes (Ok attributes) place items = AttributesAre attributes place items
HasAttributes (Err at) place items = damaged_at place items ≡ Some at
