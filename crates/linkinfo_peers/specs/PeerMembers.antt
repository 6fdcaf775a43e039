-- What each family with a peer defines, as a function of what the type of the peer defines.
use Rattle.std.specs.Prelude.{◌≡◌, ◌↔◌, ℕ, false, refl}
use Rattle.nla_frame.specs.Attribute.{Attribute}
use Rattle.nla_frame.specs.declared.error.Family.TheVariants as family
use Rattle.linkinfo_table.specs.ByRows.{members_with}
use Rattle.linkinfo_table.specs.Members.{Members}
use Rattle.linkinfo_table.specs.declared.peer.LinkPeer.{Ghosts}
use Rattle.linkinfo_peers.specs.Netkit.{netkit_attribute, netkit_rows}
use Rattle.linkinfo_peers.specs.PeerRows.{peer_contents, peer_headers}
use Rattle.linkinfo_peers.specs.Veth.{veth_attribute, veth_rows}
use Rattle.linkinfo_peers.specs.Vxcan.{vxcan_attribute, vxcan_rows}
use Rattle.linkinfo_peers.specs.declared.netkit.InfoNetkitOf.{InfoNetkitOf}
use Rattle.linkinfo_peers.specs.declared.netkit.InfoNetkitOf.TheVariants as netkit
use Rattle.linkinfo_peers.specs.declared.veth.InfoVethOf.{InfoVethOf}
use Rattle.linkinfo_peers.specs.declared.veth.InfoVethOf.TheVariants as veth
use Rattle.linkinfo_peers.specs.declared.vxcan.InfoVxcanOf.{InfoVxcanOf}
use Rattle.linkinfo_peers.specs.declared.vxcan.InfoVxcanOf.TheVariants as vxcan

abbrev pub veth_members : {P : Type 0} → Ghosts P → Members (InfoVethOf P)
veth_members peer =
    members_with family.Veth (λ d. veth.Other d) (veth_attribute peer.canonical)
    (λ n. veth_rows peer.meaning peer.alike peer.canonical peer.well n) peer_headers
    peer_contents false

abbrev pub vxcan_members : {P : Type 0} → Ghosts P → Members (InfoVxcanOf P)
vxcan_members peer =
    members_with family.Vxcan (λ d. vxcan.Other d) (vxcan_attribute peer.canonical)
    (λ n. vxcan_rows peer.meaning peer.alike peer.canonical peer.well n) peer_headers
    peer_contents false

abbrev pub netkit_members : {P : Type 0} → Ghosts P → Members (InfoNetkitOf P)
netkit_members peer =
    members_with family.Netkit (λ d. netkit.Other d) (netkit_attribute peer.canonical)
    (λ n. netkit_rows peer.meaning peer.alike peer.canonical peer.well n) peer_headers
    peer_contents false

-- two families define the same
pub record AreSame {X : Type 0} (f g : Members X) : Type 0 where
  pub family : f.family ≡ g.family
  pub inner : f.inner ≡ g.inner
  pub meaning : (a : Attribute) → f.meaning a ≡ g.meaning a
  pub headers : (a : Attribute) → f.headers a ≡ g.headers a
  pub alike : (a b : Attribute) → f.alike a b ≡ g.alike a b
  pub needs_memory : (a : Attribute) → f.needs_memory a ≡ g.needs_memory a
  pub attribute : (x : X) → f.attribute x ≡ g.attribute x
  pub well : (x : X) → f.well x ↔ g.well x
  pub contents : (n : ℕ) → f.contents n ≡ g.contents n
  pub is_set : f.is_set ≡ g.is_set

pub same_as_itself : {X : Type 0} (f : Members X) → AreSame f f
same_as_itself f = record {
  family = refl;
  inner = refl;
  meaning = λ _. refl;
  headers = λ _. refl;
  alike = λ _ _. refl;
  needs_memory = λ _. refl;
  attribute = λ _. refl;
  well = λ _. (λ h. h, λ h. h);
  contents = λ _. refl;
  is_set = refl;
}
