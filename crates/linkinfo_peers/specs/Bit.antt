-- A peer that is one boolean: one byte, true if it is not zero, read as the shape Truth.
use Rattle.std.specs.Prelude.{
  ◌≡◌,
  ◌↔◌,
  ℕ,
  Bool,
  true,
  false,
  List,
  Option,
  Some,
  None,
  Result,
  Ok,
  Err,
  IsSome,
  refl,
}
use Rattle.nla_frame.specs.Attribute.{IsBytes}
use Rattle.nla_frame.specs.Canonical.{bytes_for}
use Rattle.nla_frame.specs.declared.error.Cause.{Cause}
use Rattle.linkinfo_shapes.specs.declared.shape.Shape.TheVariants.{Truth}
use Rattle.linkinfo_shapes.specs.Shapes.{IsAccepted, means, canon, canonical, payload_alike}
use Rattle.linkinfo_shapes.specs.ShapeLaws.{accepted, means_alike, means-canon, IsBytes-canon}
use Rattle.linkinfo_shapes.specs.declared.datum.Datum.{Datum}
use Rattle.linkinfo_shapes.specs.Data.{IsDatumOr, ReadsAs, unwrap, value_of}
use Rattle.linkinfo_shapes.specs.DataLaws.{read_means, read_suits}
use Rattle.linkinfo_table.specs.Peers.{IsPeer, payload_for}
use Rattle.linkinfo_peers.specs.declared.bit.BitPeer.{BitPeer}
use Rattle.std.proofs.Common.{sym, ap, ◌∙◌}

abbrev pub bit : Bool → BitPeer
bit b = record { 0 = b }

abbrev pub bit_of : Result Bool Cause → Option BitPeer
bit_of (Ok b) = Some (bit b)
bit_of (Err cause) = None

abbrev some_bit : Bool → Option BitPeer
some_bit b = Some (bit b)

abbrev pub bit_meaning : List ℕ → Option BitPeer
bit_meaning payload = bit_of (means Truth payload)

abbrev pub bit_alike : List ℕ → List ℕ → Bool
bit_alike p q = payload_alike Truth p q

-- 01 or 00
abbrev pub bit_payload : BitPeer → List ℕ
bit_payload peer = canon Truth peer.0

read_bit : (r : Result Bool Cause) (x : BitPeer) → bit_of r ≡ Some x → r ≡ Ok x.0
read_bit (Ok b) x e = cc
read_bit (Err c) x e = absurd cc

-- the boolean read from a payload is its bit
pub bit_was_read : (p : List ℕ) (d : Datum) (b : Bool) → ReadsAs Truth p (Ok d) →
    IsDatumOr Truth false d b → bit_meaning p ≡ Some (bit b)
bit_was_read p d b h is =
    let same : unwrap Truth (value_of d) ≡ b = sym (is.0 (read_suits Truth p d h)) in
    ap bit_of (read_means Truth p d h) ∙ ap (λ (z : Bool). some_bit z) same

-- a payload that means a bit is accepted under the shape Truth
pub bit_accepted : (p : List ℕ) → IsSome (bit_meaning p) → IsAccepted Truth p
bit_accepted p some = go (means Truth p) refl some
  where
    go : (r : Result Bool Cause) → means Truth p ≡ r → IsSome (bit_of r) → IsAccepted Truth p
    go (Ok b) e h = accepted Truth p b e
    go (Err c) e h = absurd cc

bit_alike_is : (p q : List ℕ) (x y : BitPeer) → IsBytes p → IsBytes q → bit_meaning p ≡ Some x →
    bit_meaning q ≡ Some y → (bit_alike p q ≡ true) ↔ (x ≡ y)
bit_alike_is p q x y i j e g =
    let law =
    means_alike Truth p q x.0 y.0 i j (read_bit (means Truth p) x e)
    (read_bit (means Truth q) y g) in
    (λ t. ap bit (law.0 t), λ same. law.1 (ap (λ (z : BitPeer). z.0) same))

pub bit_is_peer : IsPeer bit_meaning bit_alike bit_payload (λ _. Unit {0})
bit_is_peer = record {
  alike_is = bit_alike_is;
  meaning_well = λ _ _ _ _. tt;
  well_means = λ x _. ap bit_of (means-canon Truth x.0 tt);
  well_bytes = λ x _. IsBytes-canon Truth x.0 tt;
}

-- a bit is written as the canonical payload of the shape Truth
pub bit_written : (p : List ℕ) → payload_for bit_payload (bit_meaning p) ≡ canonical Truth p
unfolding canonical
bit_written p = go (means Truth p)
  where
    go : (r : Result Bool Cause) → payload_for bit_payload (bit_of r) ≡ bytes_for (canon Truth) r
    go (Ok b) = refl
    go (Err c) = refl
