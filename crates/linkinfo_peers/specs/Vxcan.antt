-- The rows of `vxcan` links, given a peer's meaning, the equivalence of its payloads, its canonical
-- payload, and the condition on it.
use Rattle.std.specs.Prelude.{◌≡◌, ◌==◌, ◌||◌, ℕ, Bool, true, false, List, [], Option, refl}
use Rattle.nla_frame.specs.Attribute.{Attribute}
use Rattle.nla_frame.specs.Kept.{attribute_of}
use Rattle.linkinfo_table.specs.FamilyRows.{FamilyRow, IsFlat, RowOwes, row_of}
use Rattle.linkinfo_peers.specs.PeerRows.{
  peer_flat,
  peer_headers,
  peer_lawful,
  peer_owes,
  peer_rows,
}
use Rattle.linkinfo_table.specs.Peers.{IsPeer}
use Rattle.linkinfo_table.specs.TableFamily.{IsTableFamily}
use Rattle.linkinfo_table.specs.declared.peer.LinkPeer.{Ghosts}
use Rattle.linkinfo_peers.specs.declared.vxcan.InfoVxcanOf.{InfoVxcanOf}
use Rattle.linkinfo_peers.specs.declared.vxcan.InfoVxcanOf.TheVariants.{Peer, Other}

abbrev pub vxcan_attribute : {P : Type 0} → (P → List ℕ) → InfoVxcanOf P → Attribute
vxcan_attribute payload (Peer peer) = record { kind = 1; value = payload peer }
vxcan_attribute payload (Other nla) = attribute_of nla

-- the family itself writes the payload of a peer
abbrev pub vxcan_is_custom : {P : Type 0} → InfoVxcanOf P → Bool
vxcan_is_custom (Peer peer) = true
vxcan_is_custom (Other nla) = false

-- there is no row except the peer's
abbrev pub vxcan_rows : {P : Type 0} → (List ℕ → Option P) → (List ℕ → List ℕ → Bool) →
    (P → List ℕ) → (P → Type 0) → ℕ → FamilyRow (InfoVxcanOf P)
vxcan_rows meaning alike payload well n =
    peer_rows meaning alike payload well (λ peer. Peer peer) [] n

module _ {P : Type 0} (peer : Ghosts P) where
  abbrev rows : ℕ → FamilyRow (InfoVxcanOf P)
  rows n = vxcan_rows peer.meaning peer.alike peer.canonical peer.well n

  pub vxcan_flat : (n : ℕ) → ((n == 1) || false) ≡ false → IsFlat (rows n)
  vxcan_flat n other =
      peer_flat peer (λ x. Peer x) (vxcan_attribute peer.canonical) [] tt n other

  module _ (lawful : IsPeer peer.meaning peer.alike peer.canonical peer.well) where
    pub vxcan_owes : (n : ℕ) → RowOwes (vxcan_attribute peer.canonical) n (row_of (rows n))
    vxcan_owes n =
        peer_owes peer (λ x. Peer x) (vxcan_attribute peer.canonical) []
        tt lawful (λ _. refl) (λ x y e. cc) n

    pub vxcan_lawful :
        IsTableFamily (λ d. Other d) (vxcan_attribute peer.canonical) rows peer_headers []
    vxcan_lawful =
        peer_lawful peer (λ x. Peer x) (vxcan_attribute peer.canonical) []
        tt lawful (λ _. refl) (λ x y e. cc) (λ d. Other d) (λ _. refl)
