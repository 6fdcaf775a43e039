-- An iterator over the link messages of a byte string.
use Rattle.std.specs.Prelude.{
  ◌≡◌,
  ◌<◌,
  ◌≤◌,
  ◌+◌,
  ◌*◌,
  ℕ,
  Bool,
  true,
  if◌then◌else◌,
  List,
  [],
  ◌∷◌,
  length,
  drop,
  Option,
  Some,
  None,
  Result,
  Ok,
  Err,
}
use Rattle.std.specs.Iterator.{YieldsFirstBy}
use Rattle.linkinfo_messages.specs.declared.error.MessageError.{MessageError}
use Rattle.linkinfo_messages.specs.declared.link.LinkMessage.{LinkMessage}
use Rattle.linkinfo_messages.specs.Links.{Link, links_of, headers_of}
use Rattle.linkinfo_messages.specs.Messages.{Message, message_at, messages}
use Rattle.linkinfo_messages.specs.Views.{HasSlices, link_in, item_seen}

-- its byte string, the offset of the next header, the headers examined so far, and whether there
-- was an error
pub record Walk : Type 0 where
  pub source : List ℕ
  pub place : ℕ
  pub examined : ℕ
  pub failed : Bool

-- the links of the messages from an offset of a byte string on
abbrev pub links_from : List ℕ → ℕ → List (Result Link MessageError)
links_from s place = links_of (messages place (drop place s))

-- the headers examined for them
abbrev pub headers_from : List ℕ → ℕ → ℕ
headers_from s place = headers_of (messages place (drop place s))

-- the items to come, and the headers to be examined for them
abbrev pub links_left : Walk → List (Result Link MessageError)
links_left w = if w.failed then [] else links_from w.source w.place

abbrev pub headers_left : Walk → ℕ
headers_left w = if w.failed then 0 else headers_from w.source w.place

-- the message at an offset ends, with its padding, at another one
abbrev pub EndsAt : List ℕ → ℕ → ℕ → Type 0
EndsAt s place after =
    (m : Message)
    × (k : ℕ)
    × (message_at place (drop place s) ≡ Ok (m, k))
    × (after ≡ place + k)

-- From an offset and a count of headers to a link message, the offset after it, and the count
-- then, ..
pub record FindsLink (s : List ℕ) (start old new : ℕ) (link : LinkMessage)
    (after : ℕ) : Type 0 where
  pub links_are : links_from s start ≡ Ok (link_in link) ∷ links_from s after
  pub from : start ≤ link.place
  pub ends : EndsAt s link.place after
  pub advances : link.place < after
  pub within : after ≤ length s
  pub slices : HasSlices link s 0
  pub counted : new + headers_from s after ≡ old + headers_from s start
  pub quarter : 4 * new ≤ after

-- .. or to an error, ..
pub record FindsError (s : List ℕ) (start old new : ℕ) (e : MessageError) : Type 0 where
  pub links_are : links_from s start ≡ Err e ∷ []
  pub from : start ≤ e.place
  pub within : e.place < length s
  pub counted : new ≡ old + headers_from s start
  pub quarter : 4 * new ≤ length s

-- .. or to the end.
pub record FindsEnd (s : List ℕ) (start old new : ℕ) : Type 0 where
  pub links_are : links_from s start ≡ []
  pub counted : new ≡ old + headers_from s start
  pub quarter : 4 * new ≤ length s

abbrev pub Finds : List ℕ → ℕ → ℕ → ℕ → Result (Option (LinkMessage × ℕ)) MessageError → Type 0
Finds s start old new (Ok None) = FindsEnd s start old new
Finds s start old new (Ok (Some x)) = FindsLink s start old new x.0 x.1
Finds s start old new (Err e) = FindsError s start old new e

-- A link message has its name and contents as slices of the source, and the next message is after
-- it. After an error the offset is that of the rejected message; at the end, the number of bytes.
pub record IsNext (s : Walk) (link : LinkMessage) (t : Walk) : Type 0 where
  pub from : s.place ≤ link.place
  pub ends : EndsAt s.source link.place t.place
  pub slices : HasSlices link s.source 0
  pub failed : t.failed ≡ s.failed

abbrev pub StepsBy : Walk → Option (Result LinkMessage MessageError) → Walk → Type 0
StepsBy s None t =
    (t.place ≡ (if s.failed then s.place else length s.source)) × (t.failed ≡ s.failed)
StepsBy s (Some (Ok link)) t = IsNext s link t
StepsBy s (Some (Err e)) t = (t.place ≡ e.place) × (t.failed ≡ true)

-- one call yields the first of the items left, keeps its byte string, and counts each header that
-- it examines
pub record Moves (s : Walk) (r : Option (Result LinkMessage MessageError)) (t : Walk) : Type 0 where
  pub gives : YieldsFirstBy item_seen links_left s r t
  pub source : t.source ≡ s.source
  pub counted : t.examined + headers_left t ≡ s.examined + headers_left s
  pub steps : StepsBy s r t
