-- Iterating over link messages, resumed at the offset where each item ends.
use Rattle.std.specs.Prelude.{
  ◌≡◌,
  ◌<◌,
  ◌≤◌,
  ℕ,
  zero,
  suc,
  ◌+◌,
  List,
  [],
  ◌∷◌,
  length,
  drop,
  Option,
  Some,
  None,
  Result,
  Ok,
  Err,
}
use Rattle.linkinfo_messages.specs.declared.error.MessageError.{MessageError}
use Rattle.linkinfo_messages.specs.Links.{Link}
use Rattle.linkinfo_messages.specs.Messages.{Message, message_at}
use Rattle.linkinfo_messages.specs.Walks.{links_from}

abbrev end_of : ℕ → Result (Message × ℕ) MessageError → ℕ
end_of place (Ok x) = place + x.1
end_of place (Err e) = place

-- the offset after the message at an offset, padding included
abbrev pub after_message : List ℕ → ℕ → ℕ
after_message s place = end_of place (message_at place (drop place s))

-- the offset at which iterating over a byte string continues after an item: after a link message,
-- and at the end after an error
abbrev pub after_item : List ℕ → Result Link MessageError → ℕ
after_item s (Ok link) = after_message s link.place
after_item s (Err e) = length s

-- the first item, and that offset
abbrev pub first_of : List ℕ → List (Result Link MessageError) →
    Option (Result Link MessageError × ℕ)
first_of s [] = None
first_of s (item ∷ more) = Some (item, after_item s item)

-- what an iterator yields first that starts at an offset
abbrev pub step_at : List ℕ → ℕ → Option (Result Link MessageError × ℕ)
step_at s place = first_of s (links_from s place)

-- the offset at which the next one starts; at the end, the end
abbrev pub place_after : List ℕ → Option (Result Link MessageError × ℕ) → ℕ
place_after s None = length s
place_after s (Some x) = x.1

-- what a number of iterators yield first: one starts at an offset, and each of the others where the
-- item of the one before it ends
abbrev pub steps_from : ℕ → List ℕ → ℕ → List (Option (Result Link MessageError × ℕ))
steps_from zero s place = []
steps_from (suc n) s place =
    step_at s place ∷ steps_from n s (place_after s (step_at s place))

-- a number of these items, each with the offset where it ends, and then none as often as needed
abbrev pub each_in : ℕ → List ℕ → List (Result Link MessageError) →
    List (Option (Result Link MessageError × ℕ))
each_in zero s items = []
each_in (suc n) s [] = None ∷ each_in n s []
each_in (suc n) s (item ∷ more) = Some (item, after_item s item) ∷ each_in n s more

-- the first item, if it is a link message, is at the offset or after it, and takes 16 bytes or more
abbrev pub Advances : List ℕ → ℕ → List (Result Link MessageError) → Type 0
Advances s place ((Ok link) ∷ more) =
    (place ≤ link.place)
    × (link.place + 16 ≤ after_message s link.place)
    × (after_message s link.place ≤ length s)
Advances s place ((Err e) ∷ more) = (place ≤ e.place) × (e.place < length s)
Advances s place [] = Unit {0}

-- the items after the first are those from the offset where it ends
abbrev pub Continues : List ℕ → List (Result Link MessageError) → Type 0
Continues s [] = Unit {0}
Continues s (item ∷ more) = more ≡ links_from s (after_item s item)
