-- An iterator over the attributes of a payload, and what an array has of them.
use Rattle.std.proofs.Common.{
  ◌≡◌,
  ℕ,
  ◌+◌,
  min,
  List,
  [],
  ◌∷◌,
  ◌++◌,
  length,
  refl,
  sym,
  ap,
  ◌∙◌,
  arith,
  false,
  Ok,
  Err,
  Option,
  Some,
  None,
}
use Rattle.std.specs.Prelude.{slice_set}
use Rattle.nla_frame.specs.Attribute.{Attribute, aligned, masked}
use Rattle.nla_frame.specs.NlaItems.{items_of, nla_items}
use Rattle.nla_frame.specs.Walk.{Walk, Moves, items_left}
use Rattle.nla_frame.specs.declared.error.DecodeError.{DecodeError}
use Rattle.linkinfo_shapes.specs.declared.shape.Shape.{Shape}
use Rattle.linkinfo_c.specs.Attributes.{record_after, shape_in}
use Rattle.linkinfo_c.specs.declared.attributes.Contents.{Contents}
use Rattle.linkinfo_c.specs.Errors.{no_error, error_record}
use Rattle.linkinfo_c.proofs.Listing.{Lists, Listed}
use Rattle.linkinfo_c.proofs.Listing as listing

module _ {R : Type 0} (record_at : ℕ → Option Shape → Attribute → R) (s : List ℕ)
    (contents : Contents) where
  pub record Framed (old new : List R) (count place : ℕ) (w : Walk) : Type 0 where
    pub front : List Attribute
    pub lists : Lists (record_after record_at s contents) s (items_of (nla_items s)) (items_left w)
        old new front count place
    pub source : w.source ≡ s
    pub examined : w.examined ≡ count
    pub stands : w.place ≡ place

  pub begins : (old : List R) →
      Framed old old 0 0 (record { source = s; place = 0; examined = 0; failed = false })
  begins old = record {
    front = [];
    lists = listing.begins (record_after record_at s contents) s (items_of (nla_items s)) old;
    source = refl;
    examined = refl;
    stands = refl;
  }

  -- one more attribute
  pub goes_on : (old new after : List R) (count next place following : ℕ) (w : Walk) (a : Attribute)
      (t : Walk) (shape : Option Shape) (k : ℕ) (r : R) →
      Framed old new count place w → Moves w (Some (Ok a)) t → shape ≡ shape_in contents k →
      k ≡ masked a.kind → r ≡ record_at place shape a → after ≡ slice_set new count r →
      next ≡ t.examined → following ≡ t.place → Framed old after next following t
  goes_on old new after count next place following w a t shape k r framed moves of_type type is put
      counted at =
      let is_shape : shape ≡ shape_in contents (masked a.kind) =
      of_type ∙ ap (λ (n : ℕ). shape_in contents n) type in
      let record_is : r ≡ record_after record_at s contents framed.front a =
      is
      ∙ ap (λ (o : Option Shape). record_at place o a) is_shape
      ∙ ap (λ (n : ℕ). record_at n (shape_in contents (masked a.kind)) a) framed.lists.place_is in
      let passes : following ≡ min (length s) (place + aligned (4 + length a.value)) =
      at
      ∙ moves.steps.place
      ∙ ap (λ (z : List ℕ). min (length z) (w.place + aligned (4 + length a.value))) framed.source
      ∙ ap (λ (n : ℕ). min (length s) (n + aligned (4 + length a.value))) framed.stands in
      record {
        front = framed.front ++ a ∷ [];
        lists =
            listing.goes_on (record_after record_at s contents) s (items_of (nla_items s))
            (items_left w)
            (items_left t) old new after framed.front count next place following a r framed.lists
            moves.gives record_is put
            (omega (arith, counted, moves.steps.examined, framed.examined)) passes;
        source = moves.source ∙ framed.source;
        examined = sym counted;
        stands = sym at;
      }

  pub ends : (old new : List R) (count place : ℕ) (w t : Walk) → Framed old new count place w →
      Moves w None t →
      Listed (record_after record_at s contents) s (items_of (nla_items s)) old new count
      place no_error
  ends old new count place w t framed moves =
      listing.ends (record_after record_at s contents) s (items_of (nla_items s))
      (items_left w) old new
      framed.front count place framed.lists moves.gives.0

  pub stops : (old new : List R) (count place : ℕ) (w t : Walk) (e : DecodeError) →
      Framed old new count place w → Moves w (Some (Err e)) t →
      Listed (record_after record_at s contents) s (items_of (nla_items s)) old new count place
      (error_record e)
  stops old new count place w t e framed moves =
      listing.stops (record_after record_at s contents) s (items_of (nla_items s)) (items_left w)
      (items_left t) old new framed.front count place e framed.lists moves.gives
