-- Rows of a family with a peer: type 1 is the peer, and the other types have rows of shapes or
-- none.
use Rattle.std.specs.Prelude.{
  ◌≡◌,
  ℕ,
  ◌==◌,
  ◌||◌,
  Bool,
  true,
  false,
  if◌then◌else◌,
  List,
  [],
  ◌∷◌,
  Option,
  refl,
}
use Rattle.std.proofs.Common.{arith, lit<}
use Rattle.nla_frame.specs.Attribute.{Attribute}
use Rattle.nla_frame.specs.declared.default_nla.DefaultNla.{DefaultNla}
use Rattle.linkinfo_shapes.specs.Table.{found}
use Rattle.linkinfo_shapes.specs.declared.shape.Shape.TheVariants as shape
use Rattle.linkinfo_table.specs.Codecs.{Codec}
use Rattle.linkinfo_table.specs.Contents.{Contents, IsContent, single_value, contents_either}
use Rattle.linkinfo_table.specs.CustomRows.{either_quarter, headers_either}
use Rattle.linkinfo_table.specs.FamilyRowLaws.{table_flat, table_lookup, table_owes}
use Rattle.linkinfo_table.specs.FamilyRows.{
  Custom,
  EachKeeps,
  FamilyRow,
  IsFlat,
  PlainRow,
  RowOwes,
  lookup_in,
  lookup_of,
  row_if,
  row_of,
  table_row,
  without_labels,
}
use Rattle.linkinfo_table.specs.FlatLaws.{none_inside}
use Rattle.linkinfo_table.specs.Peers.{IsPeer, peer_codec, peer_is_codec, peer_is_payload}
use Rattle.linkinfo_table.specs.TableFamily.{IsTableFamily, table_lawful}
use Rattle.linkinfo_table.specs.TypedRows.{
  IsTyped,
  flat_typed,
  with_flat,
  with_lookup,
  with_owes,
  with_row,
}
use Rattle.linkinfo_table.specs.declared.peer.LinkPeer.{Ghosts}

-- no headers are examined inside a peer, and none inside another attribute
abbrev pub peer_headers : Attribute → ℕ
peer_headers = headers_either 1 (λ _. 0) (λ _. 0)

-- nor any list
abbrev pub peer_contents : ℕ → Contents
peer_contents = λ n. contents_either 1 single_value (λ _. single_value) n

pub peer_contained : (accepts : Attribute → Bool) (alike : Attribute → Attribute → Bool) (n : ℕ) →
    IsContent (peer_contents n) n accepts alike
peer_contained accepts alike n = go (n == 1)
  where
    go : (b : Bool) → IsContent (if b then single_value else single_value) n accepts alike
    go true = tt
    go false = tt

-- a value that contains no peer
pub without_peer : (has_peer : Bool) → (has_peer || false) ≡ false → has_peer ≡ false
without_peer true h = h
without_peer false h = h

module _ {P F : Type 0} (meaning : List ℕ → Option P) (alike : List ℕ → List ℕ → Bool)
    (payload : P → List ℕ) (well : P → Type 0) (value : P → F) where
  -- the rows of a family, given those of shapes
  abbrev pub peer_rows : List (PlainRow F) → ℕ → FamilyRow F
  peer_rows plain n =
      with_row 1 shape.Peer false (peer_codec meaning alike payload well) value (table_row plain) n

  -- they are the rows of a table of shapes with the peer first
  pub peer_lookup : (plain : List (PlainRow F)) (n : ℕ) →
      lookup_of (peer_rows plain n) ≡ lookup_in (found ((1, shape.Peer) ∷ without_labels plain) n)
  peer_lookup plain n =
      with_lookup 1 shape.Peer false (peer_codec meaning alike payload well) value
      (table_row plain) (without_labels plain) n (table_lookup plain n)

module _ {P F : Type 0} (peer : Ghosts P) (value : P → F) (attribute : F → Attribute)
    (plain : List (PlainRow F)) (keeps : EachKeeps attribute plain) where
  abbrev codec : Codec
  codec = peer_codec peer.meaning peer.alike peer.canonical peer.well

  abbrev rows : ℕ → FamilyRow F
  rows n = peer_rows peer.meaning peer.alike peer.canonical peer.well value plain n

  -- every other row has a shape, or there is none
  pub peer_flat : (n : ℕ) → ((n == 1) || false) ≡ false → IsFlat (rows n)
  peer_flat n other =
      with_flat 1 shape.Peer false codec value (table_row plain) false n other
      (λ _. table_flat attribute plain keeps n)

  module _ (lawful : IsPeer peer.meaning peer.alike peer.canonical peer.well)
      (shown : (x : P) → attribute (value x) ≡ record { kind = 1; value = peer.canonical x })
      (same : (x y : P) → value x ≡ value y → x ≡ y) where
    -- what each row owes, from the laws of the peer and the canonical attribute of a peer's value
    pub peer_owes : (n : ℕ) → RowOwes attribute n (row_of (rows n))
    peer_owes n =
        with_owes 1 shape.Peer false codec value (table_row plain) attribute (lit< tt)
        (peer_is_codec peer.meaning peer.alike peer.canonical peer.well lawful) shown same
        (table_owes attribute plain keeps) n

    -- a peer contains no attributes, and its only error is the cause Peer
    peer_typed : (n : ℕ) → IsTyped [] (rows n)
    peer_typed n = go (n == 1)
      where
        go : (b : Bool) →
            IsTyped [] (row_if b (Custom shape.Peer false codec value) (table_row plain n))
        go true =
            (peer_is_payload peer.meaning peer.alike peer.canonical peer.well lawful, λ _. refl)
        go false = flat_typed [] (table_row plain n) (table_flat attribute plain keeps n)

    -- such a family is lawful
    pub peer_lawful : (other : DefaultNla → F) →
        ((d : DefaultNla) → attribute (other d) ≡ record { kind = d.kind; value = d.value }) →
        IsTableFamily other attribute rows peer_headers []
    peer_lawful other keeps_other =
        table_lawful other attribute attribute (λ _. refl) rows peer_headers [] peer_typed
        peer_owes keeps_other
        (λ a. either_quarter 1 (λ _. 0) (λ _. 0) (λ p. omega arith) none_inside a)
