-- An iterator over the attributes of a byte string.
use Rattle.std.specs.Prelude.{
  ◌≡◌,
  ◌≤◌,
  ℕ,
  ◌+◌,
  min,
  Bool,
  true,
  if◌then◌else◌,
  List,
  [],
  ◌∷◌,
  length,
  drop,
  slice_range,
  Option,
  Some,
  None,
  Result,
  Ok,
  Err,
}
use Rattle.std.specs.Iterator.{YieldsFirst}
use Rattle.nla_frame.specs.Attribute.{Attribute, IsAttribute, aligned}
use Rattle.nla_frame.specs.NlaItems.{nla_items, items_of, headers_in, seen}
use Rattle.nla_frame.specs.declared.error.DecodeError.{DecodeError}

-- its byte string, the offset of the next header, the headers examined so far, and whether there
-- was an error
pub record Walk : Type 0 where
  pub source : List ℕ
  pub place : ℕ
  pub examined : ℕ
  pub failed : Bool

-- the bytes not yet visited
abbrev pub unread : Walk → List ℕ
unread w = if w.failed then [] else drop w.place w.source

-- the items to come, and the headers to be examined for them
abbrev pub items_left : Walk → List (Result Attribute DecodeError)
items_left w = items_of (nla_items (unread w))

abbrev pub headers_left : Walk → ℕ
headers_left w = headers_in (nla_items (unread w))

-- An attribute is a slice of the source: its payload goes from four bytes after the offset of its
-- header to that offset plus its length. The next header is after its padding, or at the end.
pub record Passes (s : Walk) (a : Attribute) (t : Walk) : Type 0 where
  pub attribute : IsAttribute a
  pub nla_items_are : nla_items (unread s) ≡ Ok a ∷ nla_items (unread t)
  pub value_is : a.value ≡ slice_range s.source (s.place + 4) (s.place + (4 + length a.value))
  pub place : t.place ≡ min (length s.source) (s.place + aligned (4 + length a.value))
  pub examined : t.examined ≡ s.examined + 1
  pub room : length (unread t) + (4 + length a.value) ≤ length (unread s)

-- after an error the offset is that of the rejected header
pub record Fails (s t : Walk) : Type 0 where
  pub failed : t.failed ≡ true
  pub nla_items_are : nla_items (unread s) ≡ Err (seen (unread s)) ∷ []
  pub place : t.place ≡ s.place
  pub examined : t.examined ≡ s.examined + seen (unread s)

abbrev pub StepsBy : Walk → Option (Result Attribute DecodeError) → Walk → Type 0
StepsBy s None t = (t ≡ s) × (nla_items (unread s) ≡ [])
StepsBy s (Some (Ok a)) t = Passes s a t
StepsBy s (Some (Err e)) t = Fails s t

-- one call yields the first of the items left, keeps its byte string, and counts each header that
-- it examines
pub record Moves (s : Walk) (r : Option (Result Attribute DecodeError)) (t : Walk) : Type 0 where
  pub gives : YieldsFirst items_left s r t
  pub source : t.source ≡ s.source
  pub counted : t.examined + headers_left t ≡ s.examined + headers_left s
  pub steps : StepsBy s r t
