-- The rows of a family agree with its lookups.
use Rattle.std.specs.Prelude.{◌≡◌, ℕ, ◌⊎◌, Bool, List, Result, Ok, Err, refl}
use Rattle.std.proofs.Common.{ap, inl, inr, subst, sym, ◌∙◌}
use Rattle.nla_frame.specs.Attribute.{Attribute, masked}
use Rattle.nla_frame.specs.Error.{header_error}
use Rattle.nla_frame.specs.Kept.{kept}
use Rattle.nla_frame.specs.declared.default_nla.DefaultNla.{DefaultNla}
use Rattle.nla_frame.specs.declared.error.Cause.{Cause}
use Rattle.nla_frame.specs.declared.error.Cause.TheVariants as cause
use Rattle.nla_frame.specs.declared.error.DecodeError.{DecodeError}
use Rattle.nla_frame.specs.declared.error.Family.{Family}
use Rattle.linkinfo_shapes.specs.Shapes.{Carrier, IsPlain, means}
use Rattle.linkinfo_shapes.specs.declared.shape.Shape.{Shape}
use Rattle.linkinfo_shapes.specs.declared.shape.Shape.TheVariants.{
  BridgeId,
  CanBitTimingConst,
  Le16s,
  Le32s,
  Le32x8,
  LePair16,
  Nested,
  Peer,
  SelfList,
  V4List,
  V6List,
}
use Rattle.linkinfo_table.specs.Codecs.{Codec, Inside, Own, PayloadError}
use Rattle.linkinfo_table.specs.FamilyRows.{
  FamilyRow,
  Plain,
  Custom,
  Refuses,
  Absent,
  RowOwes,
  lookup_of,
  own,
  row_of,
}
use Rattle.linkinfo_table.specs.Lookups.{
  HoldsNoList,
  LookupSays,
  MeansDatum,
  ShapeSays,
  own_error,
}
use Rattle.linkinfo_table.specs.Named.{IsNamed}
use Rattle.linkinfo_table.specs.Payloads.{IsAddresses, IsExact, IsPayload}
use Rattle.linkinfo_table.specs.RowLaws.{masked_written}
use Rattle.linkinfo_table.specs.Rows.{
  Entry,
  Is,
  error_at,
  labelled,
  meaning_in,
  row_meaning,
  written_kind,
}
use Rattle.linkinfo_table.specs.TypedRows.{
  IsTyped,
  addresses_not_plain,
  exact_not_plain,
  labelled_ok,
  payload_not_list,
  payload_not_plain,
}
use Rattle.linkinfo_table.specs.declared.lookup.Lookup.{Lookup}
use Rattle.linkinfo_table.specs.declared.lookup.Lookup.TheVariants as lookup

pub list_no_peer : SelfList ≡ Peer → ⊥
list_no_peer e = absurd cc

pub list_no_nest : (family : Family) → SelfList ≡ Nested family → ⊥
list_no_nest family e = absurd cc

abbrev bad : {X : Type 0} → DecodeError → Result X DecodeError
bad e = Err e

abbrev good : {X : Type 0} → X → Result X DecodeError
good x = Ok x

module _ {C F : Type 0} (f : Family) (inside : List Family) (other : DefaultNla → F)
    (canonical attribute : F → Attribute) (written : (x : F) → attribute x ≡ canonical x)
    (meaning : C → Attribute → Result F DecodeError) where
  bad_same : (d e : DecodeError) → bad {X = F} d ≡ bad e → d ≡ e
  bad_same d e h = cc

  good_same : (x y : F) → good x ≡ good y → x ≡ y
  good_same x y h = cc

  -- the type of a value is the one that its row is written with
  kind_of : (a : Attribute) (e : Entry F) → RowOwes canonical (masked a.kind) (Is e) → (x : F) →
      labelled f (masked a.kind) e.label (e.codec.means a.value) ≡ Ok x →
      (attribute x).kind ≡ written_kind e.nested (masked a.kind)
  kind_of a e owes x h = go (e.codec.means a.value) h
    where
      go : (m : Result e.codec.Carrier PayloadError) →
          labelled f (masked a.kind) e.label m ≡ Ok x →
          (attribute x).kind ≡ written_kind e.nested (masked a.kind)
      go (Ok u) h =
          ap (λ (z : F). (attribute z).kind) (good_same x (e.label u) (sym h))
          ∙ ap (λ (b : Attribute). b.kind) (written (e.label u) ∙ owes.keeps u)
      go (Err error) h = absurd cc

  -- an error of a row is the one of its payload
  error_of : (a : Attribute) (e : Entry F) (d : DecodeError) →
      labelled f (masked a.kind) e.label (e.codec.means a.value) ≡ Err d →
      (error : PayloadError) × (e.codec.means a.value ≡ Err error)
      × (d ≡ error_at f (masked a.kind) error)
  error_of a e d h = go (e.codec.means a.value) refl h
    where
      go : (m : Result e.codec.Carrier PayloadError) → e.codec.means a.value ≡ m →
          labelled f (masked a.kind) e.label m ≡ Err d →
          (error : PayloadError) × (e.codec.means a.value ≡ Err error)
          × (d ≡ error_at f (masked a.kind) error)
      go (Ok u) k h = absurd cc
      go (Err error) k h = (error, k, sym (bad_same _ d h))

  inner_named : (shape : Shape) (codec : Codec) (n : ℕ) (p : List ℕ) →
      IsPayload shape inside codec → (inner : Family) → shape ≡ Nested inner →
      (error : PayloadError) → codec.means p ≡ Err error → IsNamed inside (error_at f n error)
  inner_named shape codec n p payload inner is (Own cause) h =
      absurd (payload.nest inner is p cause h)
  inner_named shape codec n p payload inner is (Inside e) h = payload.named p e h

  address_error : (a : Attribute) (error : PayloadError) (d : DecodeError) →
      d ≡ error_at f (masked a.kind) error →
      (error ≡ Own cause.Length) ⊎ (error ≡ Inside header_error) →
      (d ≡ own_error f a cause.Length) ⊎ (d ≡ header_error)
  address_error a error d is (inl length) =
      inl (is ∙ ap (λ (z : PayloadError). error_at f (masked a.kind) z) length)
  address_error a error d is (inr header) =
      inr (is ∙ ap (λ (z : PayloadError). error_at f (masked a.kind) z) header)

  pub row_says : (r : FamilyRow F) (a : Attribute) → IsTyped inside r →
      RowOwes canonical (masked a.kind) (row_of r) →
      LookupSays f inside other attribute meaning a (lookup_of r)
      (row_meaning f other (row_of r) a)
  row_says (Plain shape label) a plain owes = record {
    plain = λ _. go (means shape a.value);
    list = λ e. absurd (subst IsPlain e plain);
    peer = λ e. absurd (subst IsPlain e plain);
    peer_typed = λ e. absurd (subst IsPlain e plain);
    nest = λ inner e. absurd (subst IsPlain e plain);
    exact = λ i. absurd (exact_not_plain shape i plain);
    exact_accepted = λ i. absurd (exact_not_plain shape i plain);
    addresses_accepted = λ i. absurd (addresses_not_plain shape i plain);
    addresses = λ i. absurd (addresses_not_plain shape i plain);
    payload_typed = λ i. absurd (payload_not_plain shape i plain);
  }
    where
      go : (m : Result (Carrier shape) Cause) →
          MeansDatum f attribute a shape m (labelled f (masked a.kind) label (own m))
      go (Ok u) = (label u, refl, written (label u) ∙ owes.keeps u)
      go (Err c) = refl
  row_says (Custom shape nested codec label) a typed owes =
      let payload = typed.0 in
      let entry : Entry F = record { nested = nested; codec = codec; label = label } in record {
        plain = λ p. absurd (payload_not_plain shape payload.shaped p);
        list = λ e. absurd (payload_not_list shape payload.shaped e);
        peer = λ e d h.
            let error = error_of a entry d h in
            error.2
            ∙ ap (λ (z : PayloadError). error_at f (masked a.kind) z)
            (payload.peer e a.value error.0 error.1);
        peer_typed = λ e x h.
            kind_of a entry owes x h
            ∙ ap (λ (b : Bool). written_kind b (masked a.kind)) (typed.1 e);
        nest = λ inner e d h.
            let error = error_of a entry d h in
            subst (λ (z : DecodeError). IsNamed inside z) (sym error.2)
            (inner_named shape codec (masked a.kind) a.value payload inner e error.0 error.1);
        exact = λ i d h.
            let error = error_of a entry d h in
            error.2
            ∙ ap (λ (z : PayloadError). error_at f (masked a.kind) z)
            (payload.exact i a.value error.0 error.1).0;
        exact_accepted = λ i.
            labelled_ok f (masked a.kind) label (codec.means a.value)
            ∙ payload.exact_accepted i a.value;
        addresses_accepted = λ i.
            labelled_ok f (masked a.kind) label (codec.means a.value)
            ∙ payload.addresses_accepted i a.value;
        addresses = λ i d h.
            let error = error_of a entry d h in
            address_error a error.0 d error.2 (payload.addresses i a.value error.0 error.1);
        payload_typed = λ i x h.
            ap masked (kind_of a entry owes x h) ∙ masked_written nested (masked a.kind) owes.low;
      }
  row_says (Refuses c) a h owes = refl
  row_says Absent a h owes = refl

  pub rows_say : (rows : ℕ → FamilyRow F) (a : Attribute) → IsTyped inside (rows (masked a.kind)) →
      RowOwes canonical (masked a.kind) (row_of (rows (masked a.kind))) →
      LookupSays f inside other attribute meaning a (lookup_of (rows (masked a.kind)))
      (meaning_in f other (λ n. row_of (rows n)) a)
  unfolding meaning_in
  rows_say rows a typed owes = row_says (rows (masked a.kind)) a typed owes

-- a shape is read by the table, or is one of those that a family reads itself
pub data ShapeIs (shape : Shape) : Type 0 where
  OfTable : IsPlain shape → ShapeIs shape
  OwnList : shape ≡ SelfList → ShapeIs shape
  OfPeer : shape ≡ Peer → ShapeIs shape
  OtherList : (inner : Family) → shape ≡ Nested inner → ShapeIs shape
  Exactly : IsExact shape → ShapeIs shape
  OfAddresses : IsAddresses shape → ShapeIs shape

pub which : (shape : Shape) → ShapeIs shape
which SelfList = OwnList refl
which Peer = OfPeer refl
which (Nested inner) = OtherList inner refl
which BridgeId = Exactly tt
which LePair16 = Exactly tt
which Le32x8 = Exactly tt
which CanBitTimingConst = Exactly tt
which Le16s = Exactly tt
which Le32s = Exactly tt
which V4List = OfAddresses tt
which V6List = OfAddresses tt
which _ = OfTable tt

-- a payload that the table reads, a record and an array contain no attributes
pub plain_holds_none : (shape : Shape) → IsPlain shape → HoldsNoList (lookup.Is shape)
plain_holds_none SelfList i = absurd i
plain_holds_none Peer i = absurd i
plain_holds_none (Nested family) i = absurd i
plain_holds_none V4List i = absurd i
plain_holds_none V6List i = absurd i
plain_holds_none _ i = tt

pub exact_holds_none : (shape : Shape) → IsExact shape → HoldsNoList (lookup.Is shape)
exact_holds_none SelfList i = absurd i
exact_holds_none Peer i = absurd i
exact_holds_none (Nested family) i = absurd i
exact_holds_none V4List i = absurd i
exact_holds_none V6List i = absurd i
exact_holds_none _ i = tt

-- a list of addresses contains attributes
addresses_hold : (shape : Shape) → IsAddresses shape → HoldsNoList (lookup.Is shape) → ⊥
addresses_hold V4List i none = none
addresses_hold V6List i none = none
addresses_hold _ i none = i

-- an attribute's own error has its family and its masked type; the error of one inside a list need
-- not
pub own_family : {C X : Type 0} (f : Family) (inside : List Family) (keeping : DefaultNla → X)
    (attribute : X → Attribute) (meaning : C → Attribute → Result X DecodeError) (a : Attribute)
    (l : Lookup) (m : Result X DecodeError) →
    LookupSays f inside keeping attribute meaning a l m → HoldsNoList l → (e : DecodeError) →
    m ≡ Err e → (e.family ≡ f) × (e.kind ≡ masked a.kind)
own_family {X = X} f inside keeping attribute meaning a l m says none e h = go l says none
  where
    named : (c : Cause) → e ≡ own_error f a c → (e.family ≡ f) × (e.kind ≡ masked a.kind)
    named c k = (ap (λ (d : DecodeError). d.family) k, ap (λ (d : DecodeError). d.kind) k)

    same : (d : DecodeError) → m ≡ Err d → e ≡ d
    same d k = let both : bad {X = X} e ≡ bad d = sym h ∙ k in cc

    apart : (x : X) → m ≡ Ok x → ⊥
    apart x k = let both : bad {X = X} e ≡ Ok x = sym h ∙ k in absurd cc

    by_datum : (shape : Shape) (r : Result (Carrier shape) Cause) →
        MeansDatum f attribute a shape r m → (e.family ≡ f) × (e.kind ≡ masked a.kind)
    by_datum shape (Ok u) k = absurd (apart k.0 k.1)
    by_datum shape (Err c) k = named c (same (own_error f a c) k)

    by_shape : (s : Shape) → ShapeSays f inside attribute meaning a s m →
        HoldsNoList (lookup.Is s) → ShapeIs s → (e.family ≡ f) × (e.kind ≡ masked a.kind)
    by_shape s k none (OfTable plain) = by_datum s (means s a.value) (k.plain plain)
    by_shape s k none (OwnList list) =
        absurd (subst (λ (z : Shape). HoldsNoList (lookup.Is z)) list none)
    by_shape s k none (OfPeer peer) = named cause.Peer (k.peer peer e h)
    by_shape s k none (OtherList inner nest) =
        absurd (subst (λ (z : Shape). HoldsNoList (lookup.Is z)) nest none)
    by_shape s k none (Exactly exact) = named cause.Length (k.exact exact e h)
    by_shape s k none (OfAddresses addresses) = absurd (addresses_hold s addresses none)

    go : (l : Lookup) → LookupSays f inside keeping attribute meaning a l m → HoldsNoList l →
        (e.family ≡ f) × (e.kind ≡ masked a.kind)
    go (lookup.Is s) k none = by_shape s k none (which s)
    go (lookup.Refused c) k none = named c (same (own_error f a c) k)
    go lookup.Unknown k none = absurd (apart (keeping (kept a)) k)
