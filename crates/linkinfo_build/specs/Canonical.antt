-- Canonical encodings of lists of attributes.
use Rattle.std.specs.Prelude.{◌≡◌, ℕ, zero, suc, true, List, map, Option, Some, None, Ok}
use Rattle.std.specs.List.{AllByRecursion}
use Rattle.nla_frame.specs.Attribute.{Attribute, list_string, masked}
use Rattle.nla_frame.specs.NlaItems.{nla_items}
use Rattle.linkinfo_shapes.specs.Shapes.{IsAccepted, IsPlain, canonical}
use Rattle.linkinfo_shapes.specs.declared.shape.Shape.{Shape}
use Rattle.linkinfo_build.specs.Build.{kind_written}
use Rattle.linkinfo_build.specs.Bytes.{is_canonical_payload}
use Rattle.linkinfo_build.specs.Rows.{rows_in, shape_in}
use Rattle.linkinfo_build.specs.declared.rows.Rows.{Rows}

-- under a shape that has data: accepted, and what is written for the datum; under any other one by
-- its length or its elements
pub record IsCanonicalUnder (shape : Shape) (payload : List ℕ) : Type 0 where
  pub accepted : IsPlain shape → IsAccepted shape payload
  pub same : IsPlain shape → canonical shape payload ≡ payload
  pub exact : (IsPlain shape → ⊥) → is_canonical_payload shape payload ≡ true

-- a payload of a type with this shape or none, where lists inside are canonical as `inside` says
abbrev pub IsCanonicalPayload : (Rows → List ℕ → Type 0) → Option Rows → Option Shape →
    List ℕ → Type 0
IsCanonicalPayload inside (Some inner) shape payload = inside inner payload
IsCanonicalPayload inside None (Some shape) payload = IsCanonicalUnder shape payload
IsCanonicalPayload inside None None payload = Unit {0}

-- an attribute: the flag bits that the row is written with, and a canonical payload
pub record IsCanonicalAttribute (inside : Rows → List ℕ → Type 0) (f : Rows) (a : Attribute) :
    Type 0 where
  pub kind : a.kind ≡ kind_written f (masked a.kind)
  pub payload : IsCanonicalPayload inside
      (rows_in f (shape_in f (masked a.kind)))
      (shape_in f (masked a.kind)) a.value

-- bytes that are the encoding of attributes of a family, each canonical
pub record IsListOf (inside : Rows → List ℕ → Type 0) (f : Rows) (string : List ℕ) :
    Type 0 where
  pub attributes : List Attribute
  pub framed : nla_items string ≡ map (λ a. Ok a) attributes
  pub encoded : list_string attributes ≡ string
  pub each : AllByRecursion (IsCanonicalAttribute inside f) attributes

-- .. so many lists deep
unfoldable pub IsCanonicalUpTo : ℕ → Rows → List ℕ → Type 0
IsCanonicalUpTo zero f string = ⊥
IsCanonicalUpTo (suc k) f string = IsListOf (IsCanonicalUpTo k) f string

-- the list itself, and those in it up to eight deep
unfoldable pub IsCanonicalList : Rows → List ℕ → Type 0
IsCanonicalList f string = IsCanonicalUpTo 9 f string
