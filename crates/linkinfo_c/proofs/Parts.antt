-- The results of calls that find link messages.
use Rattle.std.proofs.Common.{
  ◌≡◌,
  ℕ,
  zero,
  suc,
  ◌+◌,
  List,
  ◌∷◌,
  length,
  refl,
  sym,
  ap,
  subst,
  ◌∙◌,
  arith,
  Option,
  Some,
  None,
  Result,
  Ok,
  Err,
}
use Rattle.std.specs.Prelude.{IfSome, map, slice_range, unwrap_or}
use Rattle.linkinfo_messages.specs.declared.error.MessageError.{MessageError}
use Rattle.linkinfo_messages.specs.Links.{Link}
use Rattle.linkinfo_messages.specs.Resuming.{
  after_item,
  first_of,
  place_after,
  step_at,
  steps_from,
}
use Rattle.linkinfo_messages.specs.Slices.{AreSlices, IsSlice}
use Rattle.linkinfo_messages.specs.Walks.{links_from}
use Rattle.linkinfo_c.specs.Messages.{
  HasParts,
  IsPart,
  calls_from,
  contents_of,
  contents_place,
  found,
  link_at,
  link_record,
  name_place_of,
  part_length,
}
use Rattle.linkinfo_c.specs.declared.messages.LinkinfoLink.{LinkinfoLink}

-- ---- one call

-- the record of the first of these items
pub answer_is : (s : List ℕ) (cursor : ℕ) (items : List (Result Link MessageError)) →
    links_from s cursor ≡ items → link_record (length s) (first_of s items) ≡ link_at s cursor
answer_is s cursor items e = ap (λ l. link_record (length s) (first_of s l)) (sym e)

-- a part that is a slice of the byte string
is_part : (part s : List ℕ) (at place len : ℕ) → place ≡ at → len ≡ length part →
    IsSlice part s at → IsPart (Some part) place len s
is_part part s at place len e n h = (
  h.bytes ∙ ap (λ p. slice_range s p (p + length part)) (sym e)
      ∙ ap (λ k. slice_range s place (place + k)) (sym n),
  omega (arith, e, n, h.within),
)

name_part : (name : Option (List ℕ)) (o : Option ℕ) (s : List ℕ) →
    IfSome name (λ n. (at : ℕ) × (o ≡ Some (0 + at)) × IsSlice n s at) →
    IsPart name (name_place_of name o) (part_length name) s
name_part None o s h = (refl, refl)
name_part (Some name) o s h =
    is_part name s h.0 (unwrap_or o 0) (length name)
    (ap (λ x. unwrap_or x 0) h.1 ∙ omega arith) refl h.2

contents_part : (info : Option (ℕ × List ℕ)) (s : List ℕ) →
    IfSome info (λ c. (at : ℕ) × (c.0 ≡ 0 + at) × IsSlice c.1 s at) →
    IsPart (contents_of info) (contents_place info) (part_length (contents_of info)) s
contents_part None s h = (refl, refl)
contents_part (Some info) s h =
    is_part info.1 s h.0 info.0 (length info.1) (omega (arith, h.1)) refl h.2

-- name and list of the first item, a link message
pub has_parts : (s : List ℕ) (cursor next : ℕ) (link : Link)
    (more : List (Result Link MessageError)) (r : LinkinfoLink) →
    links_from s cursor ≡ Ok link ∷ more → r ≡ found link next →
    AreSlices link.name link.name_place link.info s 0 → HasParts (step_at s cursor) r s
has_parts s cursor next link more r e is h =
    subst (λ l. HasParts (first_of s l) r s) (sym e)
    (subst (λ x. HasParts (Some (Ok link, after_item s (Ok link))) x s) (sym is)
    (name_part link.name link.name_place s h.name_slice, contents_part link.info s h.info_slice))

-- ---- several calls

next_is : (len : ℕ) (s : List ℕ) (step : Option (Result Link MessageError × ℕ)) → len ≡ length s →
    (link_record len step).next ≡ place_after s step
next_is len s None e = e
next_is len s (Some (Ok link, next)) e = refl
next_is len s (Some (Err e, next)) h = refl

-- the results are those of the iterators
pub calls_are : (n : ℕ) (s : List ℕ) (cursor : ℕ) →
    calls_from n s cursor ≡ map (link_record (length s)) (steps_from n s cursor)
calls_are zero s cursor = refl
calls_are (suc n) s cursor =
    ap (λ c. link_at s cursor ∷ calls_from n s c) (next_is (length s) s (step_at s cursor) refl)
    ∙ ap (λ l. link_at s cursor ∷ l) (calls_are n s (place_after s (step_at s cursor)))
