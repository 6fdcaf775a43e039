-- The canonical encoding of what a byte string means: its length, and what is written of it.
use Rattle.std.proofs.Common.{
  ◌≡◌,
  ℕ,
  ◌+◌,
  ◌-◌,
  ◌<◌,
  ◌≤◌,
  List,
  [],
  ◌∷◌,
  ◌++◌,
  length,
  take,
  drop,
  refl,
  sym,
  ap,
  subst,
  ◌∙◌,
  arith,
  Result,
  Ok,
  Err,
  Option,
  Some,
  None,
}
use borrow.Rule.Slice.PartMut.{put_mid}
use Rattle.std.specs.Prelude.{IsOk, SomeIff}
use Rattle.std.proofs.lemmas.List.{take_at, drop_at}
use Rattle.nla_frame.specs.Answers.{verdict}
use Rattle.nla_frame.specs.Attribute.{
  Attribute,
  Fits,
  ListFits,
  buffer_len_of,
  canonical_string,
  list_string,
}
use Rattle.nla_frame.specs.Canonical.{attribute_for, attributes_for}
use Rattle.nla_frame.specs.declared.error.DecodeError.{DecodeError}
use Rattle.nla_frame.specs.NlaItems.{nla_items}
use Rattle.nla_frame.proofs.Emitting.{length-list_string-cons, whole, Written}
use Rattle.linkinfo_data.specs.DataFamilies.{DataFamilies, DataTypes}
use Rattle.linkinfo_data.specs.Lawful.{AreLawful}
use Rattle.linkinfo_table.specs.Lists.{IsTotalWith}
use Rattle.linkinfo_table.proofs.Measuring.{Remains, measured_after, remains_none}
use Rattle.linkinfo_table.proofs.Writing.{takes, with_first, write_first}
use Rattle.linkinfo.specs.Layered.{LinkOf}
use Rattle.linkinfo.specs.declared.role.Role.{Role}
use Rattle.linkinfo.specs.Items.{link_attribute, written_attribute}
use Rattle.linkinfo.specs.Strings.{values_from}
use Rattle.linkinfo.specs.Walks.{LinkWalk, Advances, left}
use Rattle.linkinfo.proofs.Ending.{verdict_ok}
use Rattle.linkinfo.proofs.Items.{role_written}
use Rattle.linkinfo.proofs.Steps.{Entered, entered, meant, stopped}
use Rattle.linkinfo.specs.Canon.{IsCanonical, IsCanonicalLength, IsUnfit}

module _ {F : Type 0} (attribute : F → Attribute) where
  pub length_is : (meaning : Result (List F) DecodeError) (n : ℕ) → IsOk meaning →
      ListFits (attributes_for attribute meaning) →
      n ≡ length (list_string (attributes_for attribute meaning)) →
      IsCanonicalLength attribute meaning n
  length_is (Ok list) n ok fits size = (fits, size)
  length_is (Err error) n ok fits size = absurd cc

  pub unfit_is : (meaning : Result (List F) DecodeError) → IsOk meaning →
      ¬ ListFits (attributes_for attribute meaning) → IsUnfit attribute meaning
  unfit_is (Ok list) ok unfit = unfit
  unfit_is (Err error) ok unfit = absurd cc

  pub length_accepted : (meaning : Result (List F) DecodeError) (n : ℕ) →
      IsCanonicalLength attribute meaning n → IsOk meaning
  length_accepted (Ok list) n h = refl
  length_accepted (Err error) n h = absurd h

  pub length_fits : (meaning : Result (List F) DecodeError) (n : ℕ) →
      IsCanonicalLength attribute meaning n → ListFits (attributes_for attribute meaning)
  length_fits (Ok list) n h = h.0
  length_fits (Err error) n h = absurd h

  pub length_same : (meaning : Result (List F) DecodeError) (n : ℕ) →
      IsCanonicalLength attribute meaning n →
      n ≡ length (list_string (attributes_for attribute meaning))
  length_same (Ok list) n h = h.1
  length_same (Err error) n h = absurd h

  -- the encoding at the front of the buffer, before the unchanged rest
  front_is : (meaning : Result (List F) DecodeError) (string : List ℕ) (n : ℕ) →
      IsCanonicalLength attribute meaning n →
      string ≡ list_string (attributes_for attribute meaning) →
      IsCanonical attribute meaning string
  front_is (Ok list) string n h same = (h.0, same)
  front_is (Err error) string n h same = absurd h

  pub written_front : (meaning : Result (List F) DecodeError) (n : ℕ) (new old : List ℕ) →
      IsCanonicalLength attribute meaning n →
      new ≡ list_string (attributes_for attribute meaning)
      ++ drop (length (list_string (attributes_for attribute meaning))) old →
      IsCanonical attribute meaning (take n new)
  written_front meaning n new old h written =
      let string = list_string (attributes_for attribute meaning) in
      front_is meaning (take n new) n h
      (ap (λ (b : List ℕ). take n b) written
      ∙ take_at string (drop (length string) old) n (sym (length_same meaning n h)))

  pub written_after : (meaning : Result (List F) DecodeError) (n : ℕ) (new old : List ℕ) →
      IsCanonicalLength attribute meaning n →
      new ≡ list_string (attributes_for attribute meaning)
      ++ drop (length (list_string (attributes_for attribute meaning))) old →
      drop n new ≡ drop n old
  written_after meaning n new old h written =
      let string = list_string (attributes_for attribute meaning) in
      let size = length_same meaning n h in
      ap (λ (b : List ℕ). drop n b) written
      ∙ drop_at string (drop (length string) old) n (sym size)
      ∙ ap (λ (k : ℕ). drop k old) (sym size)

  -- the encoding in a buffer of exactly its length
  pub written_whole : (meaning : Result (List F) DecodeError) (n : ℕ) (new old : List ℕ) →
      IsCanonicalLength attribute meaning n → n ≡ length old →
      new ≡ list_string (attributes_for attribute meaning)
      ++ drop (length (list_string (attributes_for attribute meaning))) old →
      IsCanonical attribute meaning new
  written_whole meaning n new old h long written =
      let string = list_string (attributes_for attribute meaning) in
      front_is meaning new n h (written ∙ whole string old (sym long ∙ length_same meaning n h))

-- ---- one more attribute

not_ok : {A : Type 0} (m : Result A DecodeError) (e : DecodeError) → m ≡ Err e → IsOk m → ⊥
not_ok (Ok x) e h ok = absurd cc
not_ok (Err d) e h ok = absurd cc

pub measured_more : (total : ℕ) (all now rest : List Attribute) (a : Attribute) →
    total + length (list_string now) ≡ length (list_string all) → now ≡ a ∷ rest →
    (total + buffer_len_of a) + length (list_string rest) ≡ length (list_string all)
measured_more total all now rest a so_far e =
    omega (
      arith,
      so_far,
      ap (λ (attributes : List Attribute). length (list_string attributes)) e,
      length-list_string-cons a rest,
    )

module _ {L : DataTypes} (layer : DataFamilies L) where
  -- the canonical attributes of those that a walk has not visited
  abbrev pub left_of : LinkWalk → List Attribute
  left_of w = attributes_for (link_attribute layer) (values_from layer w.kinds (nla_items (left w)))

  -- a walk over an accepted byte string meets no error
  pub walk_goes_on : (s t : LinkWalk) (r : Result (Attribute × Role) DecodeError) →
      Advances s (Some r) t → IsOk (values_from layer s.kinds (nla_items (left s))) → IsOk r
  walk_goes_on s t (Ok x) h ok = refl
  walk_goes_on s t (Err e) h ok = absurd (not_ok _ e (stopped layer s e t h).values ok)

  -- a step of a walk, as what is written
  pub record Writes (s t : LinkWalk) (a : Attribute) (r : Role) : Type 0 where
    pub accepted : IsOk (meant layer r a)
    pub others : IsOk (values_from layer t.kinds (nla_items (left t)))
    pub values : values_from layer s.kinds (nla_items (left s))
        ≡ with_first (link_attribute layer) (meant layer r a)
        (values_from layer t.kinds (nla_items (left t)))
    pub written : attribute_for (link_attribute layer) (meant layer r a) ≡ written_attribute layer r
        a
    pub whole : left_of s ≡ written_attribute layer r a ∷ left_of t
    pub shorter : length (left t) < length (left s)

  pub walk_writes : AreLawful layer →
      (s t : LinkWalk) (r : Result (Attribute × Role) DecodeError) (x : Attribute × Role) →
      r ≡ Ok x → Advances s (Some r) t →
      IsOk (values_from layer s.kinds (nla_items (left s))) → Writes s t x.0 x.1
  walk_writes law s t r x e h ok =
      let step =
      entered layer s x.0 x.1 t
      (subst (λ (q : Result (Attribute × Role) DecodeError). Advances s (Some q) t) e h) in
      let took =
      takes (link_attribute layer) (values_from layer s.kinds (nla_items (left s)))
      (values_from layer t.kinds (nla_items (left t))) (meant layer x.1 x.0) step.values ok in
      let is = role_written layer law x.1 x.0 took.first in
      record {
        accepted = took.first;
        others = took.others;
        values = step.values;
        written = is;
        whole = took.whole ∙ ap (λ (a : Attribute). a ∷ left_of t) is;
        shorter = omega (arith, step.room);
      }

  -- one more attribute measured
  pub measured_step : AreLawful layer → (s t : LinkWalk) (a : Attribute) (r : Role)
      (total len next : Option ℕ) (whole : List Attribute) → Entered layer s a r t →
      (IsOk (values_from layer s.kinds (nla_items (left s))) → Remains total (left_of s) whole) →
      Ok tt ≡ verdict (meant layer r a) →
      SomeIff len (Fits (written_attribute layer r a)) (length (written_attribute layer r a).value)
      →
      IsTotalWith total len next →
      IsOk (values_from layer t.kinds (nla_items (left t))) → Remains next (left_of t) whole
  measured_step law s t a r total len next whole step before accepted size sum ok =
      let is = role_written layer law r a (verdict_ok (meant layer r a) accepted) in
      measured_after (link_attribute layer) (values_from layer s.kinds (nla_items (left s)))
      (values_from layer t.kinds (nla_items (left t))) (meant layer r a) total len next whole before
      step.values accepted
      (subst (λ (w : Attribute). SomeIff len (Fits w) (length w.value)) (sym is) size) sum ok

  -- at the end of a walk the total is that of the list
  pub measured_end : (s : LinkWalk) (total : Option ℕ)
      (all : Result (List (LinkOf L)) DecodeError) → nla_items (left s) ≡ [] →
      verdict (values_from layer s.kinds (nla_items (left s))) ≡ verdict all →
      (IsOk (values_from layer s.kinds (nla_items (left s))) →
      Remains total (left_of s) (attributes_for (link_attribute layer) all)) →
      (verdict all ≡ Ok tt)
      × SomeIff total (ListFits (attributes_for (link_attribute layer) all))
      (length (list_string (attributes_for (link_attribute layer) all)))
  measured_end s total all end answer so_far =
      let last = rw end at so_far in (
        sym (rw end at answer),
        remains_none total (attributes_for (link_attribute layer) all) (last refl),
      )

  -- one more attribute written at an offset: `chunk` is what the buffer holds from that offset on
  pub write_item : (whole : List ℕ) (s t : LinkWalk) (a : Attribute) (r : Role) (at : ℕ)
      (old buffer : List ℕ) → Writes s t a r →
      Written whole (list_string (left_of s)) at old buffer →
      IsOk (values_from layer s.kinds (nla_items (left s))) → length whole
      ≤ length buffer → (n : ℕ) →
      n ≡ buffer_len_of (written_attribute layer r a) → (k : ℕ) → k ≡ length buffer - at →
      (chunk : List ℕ) →
      chunk ≡ canonical_string (written_attribute layer r a)
      ++ drop (buffer_len_of (written_attribute layer r a)) (take k (drop at buffer)) →
      Written whole (list_string (left_of t)) (at + n) old (put_mid at k buffer chunk)
  write_item whole s t a r at old buffer step before ok room n size k wide chunk new =
      let is = sym step.written in
      write_first (link_attribute layer) whole (values_from layer s.kinds (nla_items (left s)))
      (values_from layer t.kinds (nla_items (left t))) (meant layer r a)
      at old buffer before step.values ok
      room n (size ∙ ap (λ (z : Attribute). buffer_len_of z) is) k wide chunk
      (new
      ∙ ap (λ (z : Attribute). canonical_string z
      ++ drop (buffer_len_of z) (take k (drop at buffer))) is)

  -- at the end of a walk nothing is left
  pub walk_ends : (s t : LinkWalk) (r : Option (Result (Attribute × Role) DecodeError)) →
      Advances s r t → r ≡ None → left_of s ≡ []
  walk_ends s t r h e =
      let end =
      subst (λ (q : Option (Result (Attribute × Role) DecodeError)). Advances s q t) e h in
      ap (λ (ps : List (Result Attribute ℕ)).
      attributes_for (link_attribute layer) (values_from layer s.kinds ps)) end.1
