-- Rows with payloads of types of their own, beside those of a table.
use Rattle.std.specs.Prelude.{
  ◌≡◌,
  ℕ,
  ◌<◌,
  ◌==◌,
  ◌&&◌,
  ◌||◌,
  Bool,
  true,
  false,
  if◌then◌else◌,
  List,
  ◌∷◌,
  ◌++◌,
  Some,
  Result,
  Ok,
  Err,
  is_ok,
  refl,
}
use Rattle.std.proofs.Common.{ap, subst, ◌∙◌}
use Rattle.nla_frame.specs.Attribute.{Attribute, masked}
use Rattle.nla_frame.specs.declared.default_nla.DefaultNla.{DefaultNla}
use Rattle.nla_frame.specs.declared.error.DecodeError.{DecodeError}
use Rattle.nla_frame.specs.declared.error.Family.{Family}
use Rattle.linkinfo_shapes.specs.Shapes.{IsPlain}
use Rattle.linkinfo_shapes.specs.Table.{found}
use Rattle.linkinfo_shapes.specs.declared.shape.Shape.{Shape}
use Rattle.linkinfo_shapes.specs.declared.shape.Shape.TheVariants.{
  BridgeId,
  CanBitTimingConst,
  Le16s,
  Le32s,
  Le32x8,
  LePair16,
  Nested,
  Peer,
  SelfList,
  V4List,
  V6List,
}
use Rattle.linkinfo_table.specs.Codecs.{Codec, IsCodec, PayloadError}
use Rattle.linkinfo_table.specs.FamilyRowLaws.{row_if_owes}
use Rattle.linkinfo_table.specs.FamilyRows.{
  Absent,
  Custom,
  FamilyRow,
  IsFlat,
  Plain,
  Refuses,
  RowOwes,
  lookup_in,
  lookup_of,
  row_if,
  row_of,
}
use Rattle.linkinfo_table.specs.Named.{IsNamed, named_after, named_before}
use Rattle.linkinfo_table.specs.Payloads.{
  IsAddresses,
  IsExact,
  IsPayload,
  IsPayloadShape,
  IsSingle,
  is_payload_row,
}
use Rattle.linkinfo_table.specs.Rows.{
  alike_in,
  labelled,
  meaning_in,
  memory_in,
  row_alike,
  row_meaning,
  row_needs_memory,
  written_kind,
}
use Rattle.linkinfo_table.specs.declared.lookup.Lookup.TheVariants as lookup

-- a row that the table of shapes reads, or one with a payload of a type of its own
abbrev pub IsTyped : {F : Type 0} → List Family → FamilyRow F → Type 0
IsTyped inside (Plain shape label) = IsPlain shape
IsTyped inside (Custom shape nested codec label) =
    IsPayload shape inside codec × (shape ≡ Peer → nested ≡ false)
IsTyped inside _ = Unit {0}

pub flat_typed : {F : Type 0} (inside : List Family) (r : FamilyRow F) → IsFlat r → IsTyped inside r
flat_typed inside (Plain shape label) h = h
flat_typed inside (Custom shape nested codec label) h = absurd h
flat_typed inside (Refuses cause) h = tt
flat_typed inside Absent h = tt

pub payload_not_plain : (shape : Shape) → IsPayloadShape shape → IsPlain shape → ⊥
payload_not_plain (Nested family) h plain = plain
payload_not_plain Peer h plain = plain
payload_not_plain BridgeId h plain = plain
payload_not_plain LePair16 h plain = plain
payload_not_plain Le32x8 h plain = plain
payload_not_plain CanBitTimingConst h plain = plain
payload_not_plain Le16s h plain = plain
payload_not_plain Le32s h plain = plain
payload_not_plain V4List h plain = plain
payload_not_plain V6List h plain = plain
payload_not_plain _ h plain = h

pub exact_not_plain : (shape : Shape) → IsExact shape → IsPlain shape → ⊥
exact_not_plain BridgeId h plain = plain
exact_not_plain LePair16 h plain = plain
exact_not_plain Le32x8 h plain = plain
exact_not_plain CanBitTimingConst h plain = plain
exact_not_plain Le16s h plain = plain
exact_not_plain Le32s h plain = plain
exact_not_plain _ h plain = h

pub addresses_not_plain : (shape : Shape) → IsAddresses shape → IsPlain shape → ⊥
addresses_not_plain V4List h plain = plain
addresses_not_plain V6List h plain = plain
addresses_not_plain _ h plain = h

-- a payload that contains neither attributes nor a peer is a record or an array
pub single_exact : (shape : Shape) → IsPayloadShape shape → IsSingle shape → IsExact shape
single_exact BridgeId h single = tt
single_exact LePair16 h single = tt
single_exact Le32x8 h single = tt
single_exact CanBitTimingConst h single = tt
single_exact Le16s h single = tt
single_exact Le32s h single = tt
single_exact (Nested family) h single = absurd single
single_exact Peer h single = absurd single
single_exact V4List h single = absurd single
single_exact V6List h single = absurd single
single_exact _ h single = absurd h

pub payload_not_list : (shape : Shape) → IsPayloadShape shape → shape ≡ SelfList → ⊥
payload_not_list shape h e = subst IsPayloadShape e h

-- the families inside may be more
payload_among : (shape : Shape) (inside more : List Family) (codec : Codec) →
    ((e : DecodeError) → IsNamed inside e → IsNamed more e) → IsPayload shape inside codec →
    IsPayload shape more codec
payload_among shape inside more codec wider payload = record {
  shaped = payload.shaped;
  codec = payload.codec;
  named = λ p e h. wider e (payload.named p e h);
  nest = payload.nest;
  peer = payload.peer;
  exact = payload.exact;
  exact_accepted = payload.exact_accepted;
  addresses_accepted = payload.addresses_accepted;
  addresses = payload.addresses;
}

typed_among : {F : Type 0} (inside more : List Family) (r : FamilyRow F) →
    ((e : DecodeError) → IsNamed inside e → IsNamed more e) → IsTyped inside r → IsTyped more r
typed_among inside more (Plain shape label) wider h = h
typed_among inside more (Custom shape nested codec label) wider h =
    (payload_among shape inside more codec wider h.0, h.1)
typed_among inside more (Refuses cause) wider h = tt
typed_among inside more Absent wider h = tt

pub inside_before : {F : Type 0} (inside after : List Family) (r : FamilyRow F) →
    IsTyped inside r → IsTyped (inside ++ after) r
inside_before inside after r h =
    typed_among inside (inside ++ after) r (λ e. named_before inside after e) h

pub inside_after : {F : Type 0} (before inside : List Family) (r : FamilyRow F) →
    IsTyped inside r → IsTyped (before ++ inside) r
inside_after before inside r h =
    typed_among inside (before ++ inside) r (λ e. named_after before inside e) h

-- ---- a row with such a payload

peer_unflagged : (shape : Shape) (nested : Bool) (number : ℕ) →
    is_payload_row shape nested number ≡ true → shape ≡ Peer → nested ≡ false
peer_unflagged shape nested number h is =
    go nested (subst (λ (s : Shape). is_payload_row s nested number ≡ true) is h)
  where
    go : (b : Bool) → is_payload_row Peer b number ≡ true → b ≡ false
    go true e = absurd cc
    go false e = refl

-- The row has the shape. What an attribute of the row means is what its payload means; so are
-- equivalence and need of memory those of payloads.
pub record HasPayload {F : Type 0} (r : FamilyRow F) (shape : Shape) (nested : Bool) (codec : Codec)
    (label : codec.Carrier → F) : Type 0 where
  pub looked_up : lookup_of r ≡ lookup.Is shape
  pub means : (f : Family) (other : DefaultNla → F) (a : Attribute) →
      row_meaning f other (row_of r) a ≡ labelled f (masked a.kind) label (codec.means a.value)
  pub needs_memory : (a : Attribute) → row_needs_memory (row_of r) a ≡ codec.needs_memory a.value
  pub alike : (a b : Attribute) →
      row_alike (row_of r) a b ≡ ((masked b.kind == masked a.kind) && codec.alike a.value b.value)
  pub typed : (inside : List Family) (number : ℕ) → is_payload_row shape nested number ≡ true →
      IsPayload shape inside codec → IsTyped inside r

pub has_payload : {F : Type 0} {shape : Shape} {nested : Bool} {codec : Codec}
    {label : codec.Carrier → F} →
    HasPayload (Custom shape nested codec label) shape nested codec label
has_payload {shape = shape} {nested = nested} = record {
  looked_up = refl;
  means = λ f other a. refl;
  needs_memory = λ a. refl;
  alike = λ a b. refl;
  typed = λ inside number suits payload.
      (payload, λ peer. peer_unflagged shape nested number suits peer);
}

-- ---- at a row with such a payload

-- a label does not change whether a payload is accepted
pub labelled_ok : {X F : Type 0} (f : Family) (number : ℕ) (label : X → F)
    (r : Result X PayloadError) → is_ok (labelled f number label r) ≡ is_ok r
labelled_ok f number label (Ok x) = refl
labelled_ok f number label (Err e) = refl

module _ {F : Type 0} (rows : ℕ → FamilyRow F) (a : Attribute) (k : ℕ) (at : masked a.kind ≡ k)
    {shape : Shape} {nested : Bool} {codec : Codec} {label : codec.Carrier → F}
    (row : HasPayload (rows k) shape nested codec label) where
  pub row_needs : memory_in (λ n. row_of (rows n)) a ≡ codec.needs_memory a.value
  unfolding memory_in
  row_needs = ap (λ (n : ℕ). row_needs_memory (row_of (rows n)) a) at ∙ row.needs_memory a

  pub row_compares : (b : Attribute) →
      alike_in (λ n. row_of (rows n)) a b
      ≡ ((masked b.kind == masked a.kind) && codec.alike a.value b.value)
  unfolding alike_in
  row_compares b = ap (λ (n : ℕ). row_alike (row_of (rows n)) a b) at ∙ row.alike a b

  pub row_means : (f : Family) (other : DefaultNla → F) →
      meaning_in f other (λ n. row_of (rows n)) a
      ≡ labelled f (masked a.kind) label (codec.means a.value)
  unfolding meaning_in
  row_means f other =
      ap (λ (n : ℕ). row_meaning f other (row_of (rows n)) a) at ∙ row.means f other a

  -- an attribute of the row is accepted if its payload is
  pub row_accepts : (f : Family) (other : DefaultNla → F) →
      is_ok (meaning_in f other (λ n. row_of (rows n)) a) ≡ is_ok (codec.means a.value)
  row_accepts f other =
      ap is_ok (row_means f other) ∙ labelled_ok f (masked a.kind) label (codec.means a.value)

-- ---- one such row before others

module _ {F : Type 0} (k : ℕ) (shape : Shape) (nested : Bool) (codec : Codec)
    (label : codec.Carrier → F) (rest : ℕ → FamilyRow F) where
  abbrev pub with_row : ℕ → FamilyRow F
  with_row n = row_if (n == k) (Custom shape nested codec label) (rest n)

  pub with_flat : (owned : Bool) (n : ℕ) → ((n == k) || owned) ≡ false →
      (owned ≡ false → IsFlat (rest n)) → IsFlat (with_row n)
  with_flat owned n h others = go (n == k) h
    where
      go : (b : Bool) → (b || owned) ≡ false →
          IsFlat (row_if b (Custom shape nested codec label) (rest n))
      go true e = absurd cc
      go false e = others e

  pub with_owes : (attribute : F → Attribute) → k < 16384 → IsCodec codec →
      ((x : codec.Carrier) →
      attribute (label x) ≡ record { kind = written_kind nested k; value = codec.canon x }) →
      ((x y : codec.Carrier) → label x ≡ label y → x ≡ y) →
      ((n : ℕ) → RowOwes attribute n (row_of (rest n))) →
      (n : ℕ) → RowOwes attribute n (row_of (with_row n))
  with_owes attribute low lawful keeps same others n =
      row_if_owes attribute k n (Custom shape nested codec label) (rest n)
      (record { low = low; codec = lawful; keeps = keeps; same = λ x y _ _ e. same x y e })
      (others n)

  -- the lookup agrees with a table that begins with the row's shape, if those of the others agree
  pub with_lookup : (shapes : List (ℕ × Shape)) (n : ℕ) →
      lookup_of (rest n) ≡ lookup_in (found shapes n) →
      lookup_of (with_row n) ≡ lookup_in (found ((k, shape) ∷ shapes) n)
  with_lookup shapes n others = go (n == k)
    where
      go : (b : Bool) → lookup_of (row_if b (Custom shape nested codec label) (rest n)) ≡
          lookup_in (if b then Some shape else found shapes n)
      go true = refl
      go false = others
