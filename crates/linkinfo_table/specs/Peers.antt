-- A payload that is a peer of a user-supplied type: the results of its calls, its laws, the codec,
-- and that it is lawful if the peer is.
use Rattle.std.specs.Prelude.{
  ◌≡◌,
  ◌≢◌,
  ◌↔◌,
  ℕ,
  Bool,
  true,
  List,
  [],
  Option,
  Some,
  None,
  Result,
  Ok,
  Err,
}
use Rattle.std.proofs.Common.{arith, ap}
use Rattle.nla_frame.specs.Attribute.{IsBytes}
use Rattle.nla_frame.specs.Error.{memory_error}
use Rattle.nla_frame.specs.declared.error.Cause.TheVariants as cause
use Rattle.nla_frame.specs.declared.error.DecodeError.{DecodeError}
use Rattle.nla_frame.specs.declared.error.Family.{Family}
use Rattle.linkinfo_shapes.specs.declared.shape.Shape.TheVariants.{Nested, Peer}
use Rattle.linkinfo_table.specs.declared.peer.PeerFault.{PeerFault}
use Rattle.linkinfo_table.specs.declared.peer.PeerFault.TheVariants as error
use Rattle.linkinfo_table.specs.Codecs.{Codec, PayloadError, Own, Inside, IsCodec}
use Rattle.linkinfo_table.specs.Payloads.{IsPayload}

-- the result of reading a peer: its meaning; `Refused` only if there is none; or `Memory`
abbrev pub PeerGives : {P : Type 0} → Result P PeerFault → Option P → Type 0
PeerGives (Ok peer) meaning = meaning ≡ Some peer
PeerGives (Err error.Refused) meaning = meaning ≡ None
PeerGives (Err error.Memory) meaning = Unit {0}

-- the payload that is written for the peer that a payload means, and the empty payload if it means
-- none
abbrev pub payload_for : {P : Type 0} → (P → List ℕ) → Option P → List ℕ
payload_for canonical (Some peer) = canonical peer
payload_for canonical None = []

-- the laws of `LinkPeer`
pub record IsPeer {P : Type 0} (meaning : List ℕ → Option P) (alike : List ℕ → List ℕ → Bool)
    (canonical : P → List ℕ) (well : P → Type 0) : Type 0 where
  pub alike_is : (p q : List ℕ) (x y : P) → IsBytes p → IsBytes q → meaning p ≡ Some x →
      meaning q ≡ Some y → (alike p q ≡ true) ↔ (x ≡ y)
  pub meaning_well : (p : List ℕ) (x : P) → IsBytes p → meaning p ≡ Some x → well x
  pub well_means : (x : P) → well x → meaning (canonical x) ≡ Some x
  pub well_bytes : (x : P) → well x → IsBytes (canonical x)

-- a payload without a meaning has the cause Peer
abbrev pub peer_or_error : {P : Type 0} → Option P → Result P PayloadError
peer_or_error (Some peer) = Ok peer
peer_or_error None = Err (Own cause.Peer)

abbrev pub peer_codec : {P : Type 0} → (List ℕ → Option P) → (List ℕ → List ℕ → Bool) →
    (P → List ℕ) → (P → Type 0) → Codec
peer_codec {P = P} meaning alike payload well = record {
  Carrier = P;
  means = λ p. peer_or_error (meaning p);
  canon = payload;
  Holds = well;
  alike = alike;
  headers = λ _. 0;
  needs_memory = λ _. true;
}

is_some : {P : Type 0} (o : Option P) (x : P) → peer_or_error o ≡ Ok x → o ≡ Some x
is_some (Some y) x h = cc
is_some None x h = absurd cc

not_memory : {P : Type 0} (o : Option P) → peer_or_error o ≢ Err (Own cause.Memory)
not_memory (Some y) h = absurd cc
not_memory None h = absurd cc

not_inside : {P : Type 0} (o : Option P) → peer_or_error o ≢ Err (Inside memory_error)
not_inside (Some y) h = absurd cc
not_inside None h = absurd cc

pub peer_is_codec : {P : Type 0} (meaning : List ℕ → Option P) (alike : List ℕ → List ℕ → Bool)
    (payload : P → List ℕ) (well : P → Type 0) → IsPeer meaning alike payload well →
    IsCodec (peer_codec meaning alike payload well)
peer_is_codec meaning alike payload well lawful = record {
  holds = λ p x bytes e. lawful.meaning_well p x bytes (is_some (meaning p) x e);
  again = λ x w fits. ap peer_or_error (lawful.well_means x w);
  bytes = λ x w fits. lawful.well_bytes x w;
  alike_is = λ p q x y bp bq e g.
      lawful.alike_is p q x y bp bq (is_some (meaning p) x e) (is_some (meaning q) y g);
  quarter = λ p. omega arith;
  no_own_memory = λ p. not_memory (meaning p);
  no_inner_memory = λ p. not_inside (meaning p);
}

only_peer : {P : Type 0} (o : Option P) (error : PayloadError) → peer_or_error o ≡ Err error →
    error ≡ Own cause.Peer
only_peer (Some y) error h = absurd cc
only_peer None error h = cc

never_inside : {P : Type 0} (o : Option P) (e : DecodeError) → peer_or_error o ≡ Err (Inside e) → ⊥
never_inside (Some y) e h = absurd cc
never_inside None e h = absurd cc

peer_no_nest : (family : Family) → Peer ≡ Nested family → ⊥
peer_no_nest family h = absurd cc

pub peer_is_payload : {P : Type 0} (meaning : List ℕ → Option P) (alike : List ℕ → List ℕ → Bool)
    (payload : P → List ℕ) (well : P → Type 0) → IsPeer meaning alike payload well →
    IsPayload Peer [] (peer_codec meaning alike payload well)
peer_is_payload meaning alike payload well lawful = record {
  shaped = tt;
  codec = peer_is_codec meaning alike payload well lawful;
  named = λ p e h. absurd (never_inside (meaning p) e h);
  nest = λ family e. absurd (peer_no_nest family e);
  peer = λ _ p error h. only_peer (meaning p) error h;
  exact = λ i. absurd i;
  exact_accepted = λ i. absurd i;
  addresses_accepted = λ i. absurd i;
  addresses = λ i. absurd i;
}
