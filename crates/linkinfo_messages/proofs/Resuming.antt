-- Iterating, resumed after each item, yields the items of one iterator.
use Rattle.std.proofs.Common.{
  ◌≡◌,
  ℕ,
  zero,
  suc,
  ◌+◌,
  ◌-◌,
  ◌≤◌,
  ◌<◌,
  min,
  List,
  [],
  ◌∷◌,
  length,
  drop,
  refl,
  sym,
  ap,
  subst,
  ◌∙◌,
  arith,
  inl,
  inr,
  Option,
  Some,
  None,
  Result,
  Ok,
  Err,
}
use Rattle.std.proofs.lemmas.Bool.{cases_lt}
use Rattle.std.proofs.lemmas.List.{length-drop}
use Rattle.linkinfo_messages.specs.declared.error.MessageError.{MessageError}
use Rattle.linkinfo_messages.specs.Links.{Link, link_of, links_before, links_of}
use Rattle.linkinfo_messages.specs.Messages.{Message, message_at}
use Rattle.linkinfo_messages.specs.Resuming.{
  Advances,
  Continues,
  after_item,
  after_message,
  each_in,
  steps_from,
}
use Rattle.linkinfo_messages.specs.Walks.{links_from}
use Rattle.linkinfo_messages.proofs.Linking.{
  ReadsAt,
  SaysAt,
  messages_end,
  messages_first,
  reads_at,
  says_at,
}

-- from the end on, and after it, there is nothing
pub no_links : (s : List ℕ) (place : ℕ) → length s ≤ place → links_from s place ≡ []
no_links s place h = ap links_of (messages_end s place h)

-- from an offset beyond the end there is what there is from the end
pub from_least : (s : List ℕ) (place least : ℕ) → least ≡ min place (length s) →
    links_from s least ≡ links_from s place
from_least s place least e =
    elim (cases_lt place (length s)) [
      | inl more ↦ ap (links_from s) (omega (arith, e, more))
      | inr end ↦
          no_links s least (omega (arith, e, end)) ∙ sym (no_links s place end)
    ]

after_is : (s : List ℕ) (place at k : ℕ) (m : Message) → at ≡ place →
    message_at place (drop place s) ≡ Ok (m, k) → place + k ≡ after_message s at
after_is s place at k m e here =
    sym (ap (λ p. after_message s p) e ∙ rw here refl)

-- after a message, of which this is said
continues_by : (s : List ℕ) (place k : ℕ) (m : Message) (r : Result (Option Link) MessageError) →
    SaysAt place r → message_at place (drop place s) ≡ Ok (m, k) →
    Continues s (links_from s (place + k)) →
    Continues s (links_before r (links_from s (place + k)))
continues_by s place k m (Ok None) says here rest = rest
continues_by s place k m (Ok (Some link)) says here rest =
    ap (links_from s) (after_is s place link.place k m says here)
continues_by s place k m (Err e) says here rest = sym (no_links s (length s) (omega arith))

-- from a message on, where it is said of what is after it
continues_at : (s : List ℕ) (place : ℕ) (r : Result (Message × ℕ) MessageError) →
    place < length s → message_at place (drop place s) ≡ r → ReadsAt place (drop place s) r →
    ((k : ℕ) → 16 ≤ k → Continues s (links_from s (place + k))) → Continues s (links_from s place)
continues_at s place (Err e) more here reads rest =
    subst (Continues s) (sym (ap links_of (messages_first s place (Err e) more (sym here))))
    (sym (no_links s (length s) (omega arith)))
continues_at s place (Ok x) more here reads rest =
    subst (Continues s) (sym (ap links_of (messages_first s place (Ok x) more (sym here))))
    (continues_by s place x.1 x.0 (link_of x.0)
    (subst (λ p. SaysAt p (link_of x.0)) reads.0 (says_at x.0)) here
    (rest x.1 (omega (arith, reads.1))))

continues_up_to : (n : ℕ) (s : List ℕ) (place : ℕ) → length s - place ≤ n →
    Continues s (links_from s place)
continues_up_to zero s place h =
    subst (Continues s) (sym (no_links s place (omega (arith, h)))) tt
continues_up_to (suc n) s place h =
    elim (cases_lt place (length s)) [
      | inl more ↦
          continues_at s place (message_at place (drop place s)) more refl
          (reads_at place (drop place s))
          (λ k some. continues_up_to n s (place + k) (omega (arith, h, some)))
      | inr end ↦ subst (Continues s) (sym (no_links s place end)) tt
    ]

pub continues : (s : List ℕ) (place : ℕ) → Continues s (links_from s place)
continues s place = continues_up_to (length s) s place (omega arith)

-- ---- the offsets of items

-- what holds from a later offset on
earlier : (s : List ℕ) (place later : ℕ) (items : List (Result Link MessageError)) →
    place ≤ later → Advances s later items → Advances s place items
earlier s place later [] h a = tt
earlier s place later ((Ok link) ∷ more) h a = (omega (arith, h, a.0), a.1, a.2)
earlier s place later ((Err e) ∷ more) h a = (omega (arith, h, a.0), a.1)

advances_by : (s : List ℕ) (place k : ℕ) (m : Message) (r : Result (Option Link) MessageError) →
    SaysAt place r → message_at place (drop place s) ≡ Ok (m, k) → 16 ≤ k →
    place + k ≤ length s → Advances s (place + k) (links_from s (place + k)) →
    Advances s place (links_before r (links_from s (place + k)))
advances_by s place k m (Ok None) says here some within rest =
    earlier s place (place + k) (links_from s (place + k)) (omega arith) rest
advances_by s place k m (Ok (Some link)) says here some within rest =
    let after : place + k ≡ after_message s link.place =
    after_is s place link.place k m says here in (
      omega (arith, says),
      omega (arith, says, after, some),
      omega (arith, after, within),
    )
advances_by s place k m (Err e) says here some within rest =
    (omega (arith, says), omega (arith, says, some, within))

advances_at : (s : List ℕ) (place : ℕ) (r : Result (Message × ℕ) MessageError) →
    place < length s → message_at place (drop place s) ≡ r → ReadsAt place (drop place s) r →
    ((k : ℕ) → 16 ≤ k → Advances s (place + k) (links_from s (place + k))) →
    Advances s place (links_from s place)
advances_at s place (Err e) more here reads rest =
    subst (Advances s place) (sym (ap links_of (messages_first s place (Err e) more (sym here))))
    (omega (arith, reads.0), omega (arith, reads.0, more))
advances_at s place (Ok x) more here reads rest =
    subst (Advances s place) (sym (ap links_of (messages_first s place (Ok x) more (sym here))))
    (advances_by s place x.1 x.0 (link_of x.0)
    (subst (λ p. SaysAt p (link_of x.0)) reads.0 (says_at x.0)) here
    (omega (arith, reads.1)) (omega (arith, reads.2, length-drop place s, more))
    (rest x.1 (omega (arith, reads.1))))

advances_up_to : (n : ℕ) (s : List ℕ) (place : ℕ) → length s - place ≤ n →
    Advances s place (links_from s place)
advances_up_to zero s place h =
    subst (Advances s place) (sym (no_links s place (omega (arith, h)))) tt
advances_up_to (suc n) s place h =
    elim (cases_lt place (length s)) [
      | inl more ↦
          advances_at s place (message_at place (drop place s)) more refl
          (reads_at place (drop place s))
          (λ k some. advances_up_to n s (place + k) (omega (arith, h, some)))
      | inr end ↦ subst (Advances s place) (sym (no_links s place end)) tt
    ]

pub advances : (s : List ℕ) (place : ℕ) → Advances s place (links_from s place)
advances s place = advances_up_to (length s) s place (omega arith)

-- ---- a number of items

steps_of : (n : ℕ) (s : List ℕ) (items : List (Result Link MessageError)) (place : ℕ) →
    links_from s place ≡ items → steps_from n s place ≡ each_in n s items
steps_of zero s items place e = refl
steps_of (suc n) s [] place e =
    rw e (ap (λ l. None ∷ l) (steps_of n s [] (length s) (no_links s (length s) (omega arith))))
steps_of (suc n) s (item ∷ more) place e =
    let next : more ≡ links_from s (after_item s item) =
    subst (Continues s) e (continues s place) in
    rw e (ap (λ l. Some (item, after_item s item) ∷ l)
    (steps_of n s more (after_item s item) (sym next)))

-- in order, each once, and then nothing
pub in_order : (n : ℕ) (s : List ℕ) (place : ℕ) →
    steps_from n s place ≡ each_in n s (links_from s place)
in_order n s place = steps_of n s (links_from s place) place refl
