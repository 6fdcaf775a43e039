-- Canonical attributes and byte strings of what is accepted, by rows and for lists.
use Rattle.std.proofs.Common.{
  ◌≡◌,
  ℕ,
  ◌+◌,
  ◌-◌,
  ◌≤◌,
  List,
  ◌∷◌,
  ◌++◌,
  length,
  take,
  drop,
  refl,
  sym,
  ap,
  subst,
  ◌∙◌,
  Result,
  Ok,
  Err,
}
use borrow.Rule.Slice.PartMut.{put_mid}
use Rattle.std.specs.Prelude.{IsOk}
use Rattle.nla_frame.specs.Attribute.{
  Attribute,
  masked,
  buffer_len_of,
  canonical_string,
  list_string,
}
use Rattle.nla_frame.specs.Canonical.{attribute_for, attributes_for, bytes_for}
use Rattle.nla_frame.proofs.Emitting.{length-canonical_string, Written, write_text}
use Rattle.nla_frame.specs.Kept.{kept}
use Rattle.nla_frame.specs.declared.error.Family.{Family}
use Rattle.nla_frame.specs.declared.error.Cause.{Cause}
use Rattle.nla_frame.specs.declared.error.DecodeError.{DecodeError}
use Rattle.nla_frame.specs.declared.default_nla.DefaultNla.{DefaultNla}
use Rattle.linkinfo_shapes.specs.Shapes.{Carrier, canon, canonical, means}
use Rattle.linkinfo_shapes.specs.declared.shape.Shape.{Shape}
use Rattle.linkinfo_table.specs.declared.lookup.Lookup.TheVariants as lookup
use Rattle.linkinfo_table.specs.Codecs.{PayloadError}
use Rattle.linkinfo_table.specs.Lists.{◌>>=◌, values_under}
use Rattle.linkinfo_table.specs.Rows.{
  Entry,
  Is,
  IsRow,
  labelled,
  meaning_in,
  row_meaning,
  written_kind,
}
use Rattle.linkinfo_table.specs.FamilyRows.{
  own,
  FamilyRow,
  Plain,
  Custom,
  Refuses,
  Absent,
  row_of,
  lookup_of,
  IsFlat,
  RowOwes,
}
use Rattle.linkinfo_table.proofs.RowAnswers.{flat_at, meaning_at}

shape_same : (s t : Shape) → lookup.Is s ≡ lookup.Is t → s ≡ t
shape_same s t e = cc

-- the payload of a shape as a codec
pub canonical_own : (s : Shape) (p : List ℕ) → bytes_for (canon s) (own (means s p)) ≡ canonical s p
unfolding canonical
canonical_own s p = go (means s p)
  where
    go : (m : Result (Carrier s) Cause) → bytes_for (canon s) (own m) ≡ bytes_for (canon s) m
    go (Ok u) = refl
    go (Err c) = refl

module _ {F : Type 0} (f : Family) (other : DefaultNla → F) (attribute : F → Attribute) where
  -- by any row: the type that is written for it, and the canonical payload of the row's codec
  pub canonical_entry : (e : Entry F) (a : Attribute) → IsRow attribute (masked a.kind) e →
      IsOk (row_meaning f other (Is e) a) →
      attribute_for attribute (row_meaning f other (Is e) a)
      ≡ record {
        kind = written_kind e.nested (masked a.kind);
        value = bytes_for e.codec.canon (e.codec.means a.value);
      }
  canonical_entry e a row ok = go (e.codec.means a.value) ok
    where
      go : (m : Result e.codec.Carrier PayloadError) → IsOk (labelled f (masked a.kind) e.label m) →
          attribute_for attribute (labelled f (masked a.kind) e.label m)
          ≡ record {
            kind = written_kind e.nested (masked a.kind);
            value = bytes_for e.codec.canon m;
          }
      go (Ok u) h = row.keeps u
      go (Err error) h = absurd cc

  typed_row : (r : FamilyRow F) (a : Attribute) (shape : Shape) →
      RowOwes attribute (masked a.kind) (row_of r) → IsFlat r → lookup_of r ≡ lookup.Is shape →
      IsOk (row_meaning f other (row_of r) a) →
      attribute_for attribute (row_meaning f other (row_of r) a)
      ≡ record { kind = masked a.kind; value = canonical shape a.value }
  typed_row (Plain s label) a shape owes flat e ok =
      canonical_entry _ a owes ok
      ∙ ap (λ (v : List ℕ). record { kind = masked a.kind; value = v })
      (canonical_own s a.value ∙ ap (λ (z : Shape). canonical z a.value) (shape_same s shape e))
  typed_row (Custom s nested codec label) a shape owes flat e ok = absurd flat
  typed_row (Refuses cause) a shape owes flat e ok = absurd cc
  typed_row Absent a shape owes flat e ok = absurd cc

  kept_row : ((d : DefaultNla) → attribute (other d) ≡ record { kind = d.kind; value = d.value }) →
      (r : FamilyRow F) (a : Attribute) → lookup_of r ≡ lookup.Unknown →
      attribute_for attribute (row_meaning f other (row_of r) a)
      ≡ record { kind = a.kind; value = a.value }
  kept_row keeps (Plain s label) a e = absurd cc
  kept_row keeps (Custom s nested codec label) a e = absurd cc
  kept_row keeps (Refuses cause) a e = absurd cc
  kept_row keeps Absent a e = keeps (kept a)

  refused_row : (r : FamilyRow F) (a : Attribute) (c : Cause) → lookup_of r ≡ lookup.Refused c →
      IsOk (row_meaning f other (row_of r) a) → ⊥
  refused_row (Plain s label) a c e ok = absurd cc
  refused_row (Custom s nested codec label) a c e ok = absurd cc
  refused_row (Refuses cause) a c e ok = absurd cc
  refused_row Absent a c e ok = absurd cc

  -- an attribute in its family, with the number that the code looked up
  module _ (rows : ℕ → FamilyRow F) (a : Attribute) (k : ℕ) (at : k ≡ masked a.kind) where
    at_row : IsOk (meaning_in f other (λ n. row_of (rows n)) a) →
        IsOk (row_meaning f other (row_of (rows k)) a)
    at_row ok =
        subst (λ (m : Result F DecodeError). IsOk m)
        (meaning_at f other rows a k (row_meaning f other (row_of (rows k)) a) at refl) ok

    for_row : attribute_for attribute (meaning_in f other (λ n. row_of (rows n)) a)
        ≡ attribute_for attribute (row_meaning f other (row_of (rows k)) a)
    for_row =
        ap (λ (m : Result F DecodeError). attribute_for attribute m)
        (meaning_at f other rows a k (row_meaning f other (row_of (rows k)) a) at refl)

    pub typed_canonical : (shape : Shape) →
        RowOwes attribute (masked a.kind) (row_of (rows (masked a.kind))) →
        IsFlat (rows (masked a.kind)) → lookup_of (rows k) ≡ lookup.Is shape →
        IsOk (meaning_in f other (λ n. row_of (rows n)) a) →
        attribute_for attribute (meaning_in f other (λ n. row_of (rows n)) a)
        ≡ record { kind = k; value = canonical shape a.value }
    typed_canonical shape owes flat e ok =
        for_row
        ∙ typed_row (rows k) a shape
        (subst (λ (n : ℕ). RowOwes attribute (masked a.kind) (row_of (rows n))) (sym at) owes)
        (flat_at rows k (masked a.kind) at flat) e (at_row ok)
        ∙ ap (λ (n : ℕ). record { kind = n; value = canonical shape a.value }) (sym at)

    pub kept_canonical : ((d : DefaultNla) →
        attribute (other d) ≡ record { kind = d.kind; value = d.value }) →
        lookup_of (rows k) ≡ lookup.Unknown →
        attribute_for attribute (meaning_in f other (λ n. row_of (rows n)) a)
        ≡ record { kind = a.kind; value = a.value }
    kept_canonical keeps e = for_row ∙ kept_row keeps (rows k) a e

    pub not_refused : (c : Cause) → lookup_of (rows k) ≡ lookup.Refused c →
        IsOk (meaning_in f other (λ n. row_of (rows n)) a) → ⊥
    not_refused c e ok = refused_row (rows k) a c e (at_row ok)

-- ---- lists: the first attribute, and those after it

module _ {X : Type 0} (attribute : X → Attribute) where
  -- an accepted list with a first attribute that means `m`, followed by `more`
  abbrev pub with_first : Result X DecodeError → Result (List X) DecodeError →
      Result (List X) DecodeError
  with_first m more = m >>= λ x. more >>= λ xs. Ok (x ∷ xs)

  pub record Takes (list more : Result (List X) DecodeError) (m : Result X DecodeError) : Type
      0 where
    pub first : IsOk m
    pub others : IsOk more
    pub whole : attributes_for attribute list
        ≡ attribute_for attribute m ∷ attributes_for attribute more

  pub takes : (list more : Result (List X) DecodeError) (m : Result X DecodeError) →
      list ≡ with_first m more → IsOk list → Takes list more m
  takes list more m e ok = go m more e (subst (λ (r : Result (List X) DecodeError). IsOk r) e ok)
    where
      go : (m : Result X DecodeError) (more : Result (List X) DecodeError) →
          list ≡ with_first m more → IsOk (with_first m more) → Takes list more m
      go (Ok x) (Ok xs) e ok = record {
        first = refl;
        others = refl;
        whole = ap (λ (r : Result (List X) DecodeError). attributes_for attribute r) e;
      }
      go (Ok x) (Err d) e ok = absurd cc
      go (Err d) more e ok = absurd cc

  -- what is left of a list: the byte string of its first attribute, and what is left after it
  pub left_is : (list more : Result (List X) DecodeError) (m : Result X DecodeError) →
      list ≡ with_first m more → IsOk list →
      list_string (attributes_for attribute list)
      ≡ canonical_string (attribute_for attribute m) ++ list_string (attributes_for attribute more)
  left_is list more m e ok = ap list_string (takes list more m e ok).whole

  -- a list written up to an offset, and its next attribute: `chunk` is the buffer from that offset
  -- on
  pub write_first : (whole : List ℕ) (list more : Result (List X) DecodeError)
      (m : Result X DecodeError) (at : ℕ) (old buffer : List ℕ) →
      Written whole (list_string (attributes_for attribute list)) at old buffer →
      list ≡ with_first m more → IsOk list → length whole ≤ length buffer →
      (n : ℕ) → n ≡ buffer_len_of (attribute_for attribute m) → (k : ℕ) → k ≡ length buffer - at →
      (chunk : List ℕ) →
      chunk ≡ canonical_string (attribute_for attribute m)
      ++ drop (buffer_len_of (attribute_for attribute m)) (take k (drop at buffer)) →
      Written whole (list_string (attributes_for attribute more)) (at + n) old
      (put_mid at k buffer chunk)
  write_first whole list more m at old buffer before e ok room n size k wide chunk new =
      let string = canonical_string (attribute_for attribute m) in
      write_text whole (list_string (attributes_for attribute list)) string
      (list_string (attributes_for attribute more))
      at old buffer before (left_is list more m e ok) room
      n (size ∙ sym (length-canonical_string (attribute_for attribute m))) k wide chunk
      (new ∙ ap (λ (j : ℕ). string ++ drop j (take k (drop at buffer))) (sym size))

-- a list written up to an offset, and its next attribute, for the items of a byte string
pub write_next : {T X : Type 0} (m : T → Attribute → Result X DecodeError)
    (after : T → Attribute → T) (attribute : X → Attribute) (whole : List ℕ) (t : T)
    (ps : List (Result Attribute ℕ)) (a : Attribute) (more : List (Result Attribute ℕ)) (at : ℕ)
    (old buffer : List ℕ) →
    Written whole (list_string (attributes_for attribute (values_under m after t ps)))
    at old buffer → ps ≡ Ok a ∷ more → IsOk (values_under m after t ps) →
    length whole ≤ length buffer → (n : ℕ) → n ≡ buffer_len_of (attribute_for attribute (m t a)) →
    (k : ℕ) → k ≡ length buffer - at → (chunk : List ℕ) →
    chunk ≡ canonical_string (attribute_for attribute (m t a))
    ++ drop (buffer_len_of (attribute_for attribute (m t a))) (take k (drop at buffer)) →
    Written whole (list_string (attributes_for attribute (values_under m after (after t a) more)))
    (at + n) old (put_mid at k buffer chunk)
write_next m after attribute whole t ps a more
    at old buffer before e ok room n size k wide chunk new =
    write_first attribute whole (values_under m after t ps) (values_under m after (after t a) more)
    (m t a) at old buffer before
    (ap (λ (qs : List (Result Attribute ℕ)). values_under m after t qs) e) ok room n size k wide
    chunk new
