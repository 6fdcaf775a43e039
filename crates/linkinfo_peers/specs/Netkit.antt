-- The rows of `netkit` links, given a peer's meaning, the equivalence of its payloads, its
-- canonical payload, and the condition on it.
use Rattle.std.specs.Prelude.{
  ◌≡◌,
  ◌==◌,
  ◌||◌,
  ℕ,
  Bool,
  true,
  false,
  not,
  List,
  [],
  ◌∷◌,
  Option,
  refl,
}
use Rattle.std.proofs.Common.{ap}
use Rattle.nla_frame.specs.Attribute.{Attribute}
use Rattle.nla_frame.specs.Kept.{attribute_of}
use Rattle.nla_frame.specs.Pairs.{◌&◌}
use Rattle.linkinfo_shapes.specs.Shapes.{truth_number}
use Rattle.linkinfo_shapes.specs.declared.shape.Shape.TheVariants as shape
use Rattle.linkinfo_numbers.specs.Table.{key-value_of}
use Rattle.linkinfo_numbers.specs.Netkit.{
  netkit_mode,
  netkit_mode_number,
  netkit_mode_table_holds,
  netkit_policy,
  netkit_policy_number,
  netkit_policy_table_holds,
  netkit_scrub,
  netkit_scrub_number,
}
use Rattle.linkinfo_numbers.specs.declared.netkit.NetkitScrub.{NetkitScrub}
use Rattle.linkinfo_table.specs.FamilyRows.{
  EachKeeps,
  FamilyRow,
  IsFlat,
  PlainRow,
  RowOwes,
  row,
  row_of,
  typed,
}
use Rattle.linkinfo_table.specs.Labels.{each_keeps}
use Rattle.linkinfo_peers.specs.PeerRows.{
  peer_flat,
  peer_headers,
  peer_lawful,
  peer_owes,
  peer_rows,
}
use Rattle.linkinfo_table.specs.Peers.{IsPeer}
use Rattle.linkinfo_table.specs.TableFamily.{IsTableFamily}
use Rattle.linkinfo_table.specs.declared.peer.LinkPeer.{Ghosts}
use Rattle.linkinfo_peers.specs.declared.netkit.InfoNetkitOf.{InfoNetkitOf}
use Rattle.linkinfo_peers.specs.declared.netkit.InfoNetkitOf.TheVariants.{
  Peer,
  Primary,
  Policy,
  PeerPolicy,
  Mode,
  Scrub,
  PeerScrub,
  Headroom,
  Tailroom,
  Other,
}

-- the scrubbing if the number in the payload is not 0, and if it is
abbrev pub scrub_of : Bool → NetkitScrub
scrub_of by_default = netkit_scrub (truth_number by_default)

-- whether the number of the scrubbing is not 0
abbrev pub is_by_default : NetkitScrub → Bool
is_by_default scrub = not (netkit_scrub_number scrub == 0)

-- the rows except the peer's
abbrev pub netkit_plain : {P : Type 0} → List (PlainRow (InfoNetkitOf P))
netkit_plain =
    row 2 shape.Truth (λ b. Primary b) ∷
    row 3 shape.Le32 (λ n. Policy (netkit_policy n)) ∷
    row 4 shape.Le32 (λ n. PeerPolicy (netkit_policy n)) ∷
    row 5 shape.Le32 (λ n. Mode (netkit_mode n)) ∷
    row 6 shape.Scrub (λ b. Scrub (scrub_of b)) ∷
    row 7 shape.Scrub (λ b. PeerScrub (scrub_of b)) ∷
    row 8 shape.Le16 (λ n. Headroom n) ∷
    row 9 shape.Le16 (λ n. Tailroom n) ∷
    []

abbrev pub netkit_attribute : {P : Type 0} → (P → List ℕ) → InfoNetkitOf P → Attribute
netkit_attribute payload (Peer peer) = record { kind = 1; value = payload peer }
netkit_attribute payload (Primary b) = typed 2 shape.Truth b
netkit_attribute payload (Policy policy) = typed 3 shape.Le32 (netkit_policy_number policy)
netkit_attribute payload (PeerPolicy policy) = typed 4 shape.Le32 (netkit_policy_number policy)
netkit_attribute payload (Mode mode) = typed 5 shape.Le32 (netkit_mode_number mode)
netkit_attribute payload (Scrub scrub) = typed 6 shape.Scrub (is_by_default scrub)
netkit_attribute payload (PeerScrub scrub) = typed 7 shape.Scrub (is_by_default scrub)
netkit_attribute payload (Headroom n) = typed 8 shape.Le16 n
netkit_attribute payload (Tailroom n) = typed 9 shape.Le16 n
netkit_attribute payload (Other nla) = attribute_of nla

-- the family itself writes the payload of a peer
abbrev pub netkit_is_custom : {P : Type 0} → InfoNetkitOf P → Bool
netkit_is_custom (Peer peer) = true
netkit_is_custom _ = false

scrub_again : (by_default : Bool) → is_by_default (scrub_of by_default) ≡ by_default
scrub_again true = refl
scrub_again false = refl

pub netkit_keeps : {P : Type 0} (payload : P → List ℕ) →
    EachKeeps (netkit_attribute payload) netkit_plain
netkit_keeps payload = each_keeps (netkit_attribute payload) netkit_plain refl
    ((λ b. refl)
    & (λ n. ap (typed 3 shape.Le32) (key-value_of netkit_policy_table_holds n))
    & (λ n. ap (typed 4 shape.Le32) (key-value_of netkit_policy_table_holds n))
    & (λ n. ap (typed 5 shape.Le32) (key-value_of netkit_mode_table_holds n))
    & (λ b. ap (typed 6 shape.Scrub) (scrub_again b))
    & (λ b. ap (typed 7 shape.Scrub) (scrub_again b))
    & (λ n. refl)
    & (λ n. refl)
    & tt)

abbrev pub netkit_rows : {P : Type 0} → (List ℕ → Option P) → (List ℕ → List ℕ → Bool) →
    (P → List ℕ) → (P → Type 0) → ℕ → FamilyRow (InfoNetkitOf P)
netkit_rows meaning alike payload well n =
    peer_rows meaning alike payload well (λ peer. Peer peer) netkit_plain n

module _ {P : Type 0} (peer : Ghosts P) where
  abbrev rows : ℕ → FamilyRow (InfoNetkitOf P)
  rows n = netkit_rows peer.meaning peer.alike peer.canonical peer.well n

  pub netkit_flat : (n : ℕ) → ((n == 1) || false) ≡ false → IsFlat (rows n)
  netkit_flat n other =
      peer_flat peer (λ x. Peer x) (netkit_attribute peer.canonical) netkit_plain
      (netkit_keeps peer.canonical) n other

  module _ (lawful : IsPeer peer.meaning peer.alike peer.canonical peer.well) where
    pub netkit_owes : (n : ℕ) → RowOwes (netkit_attribute peer.canonical) n (row_of (rows n))
    netkit_owes n =
        peer_owes peer (λ x. Peer x) (netkit_attribute peer.canonical) netkit_plain
        (netkit_keeps peer.canonical) lawful (λ _. refl) (λ x y e. cc) n

    pub netkit_lawful :
        IsTableFamily (λ d. Other d) (netkit_attribute peer.canonical) rows peer_headers []
    netkit_lawful =
        peer_lawful peer (λ x. Peer x) (netkit_attribute peer.canonical) netkit_plain
        (netkit_keeps peer.canonical) lawful (λ _. refl) (λ x y e. cc) (λ d. Other d) (λ _. refl)
