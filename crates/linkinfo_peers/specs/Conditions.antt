-- Which attributes of `batadv`, `wwan`, `veth`, `vxcan` and `netkit` links are well formed, by the
-- variant of each: the conditions on a number, a text, a peer or an opaque attribute.
use Rattle.std.specs.Prelude.{◌≡◌, ◌↔◌, ℕ, ◌<◌, ◌^◌, Bool, true, false, List, [], Option, refl}
use Rattle.std.proofs.Common.{subst}
use Rattle.linkinfo_numbers.specs.Table.{IsNumber, number_label}
use Rattle.linkinfo_numbers.specs.Netkit.{netkit_mode_table, netkit_mode_table_holds}
use Rattle.linkinfo_numbers.specs.Netkit.{netkit_policy_table, netkit_policy_table_holds}
use Rattle.linkinfo_numbers.specs.declared.netkit.NetkitScrub.{NetkitScrub}
use Rattle.linkinfo_numbers.specs.declared.netkit.NetkitScrub.TheVariants as scrub
use Rattle.linkinfo_table.specs.Conditions.{IsUnknownBeside, are_typed, plain_label}
use Rattle.linkinfo_table.specs.Conditions.{unknown_beside, unknown_label}
use Rattle.linkinfo_table.specs.FamilyRows.{row_of}
use Rattle.linkinfo_table.specs.Rows.{WellFormed}
use Rattle.linkinfo_peers.specs.Netkit.{netkit_attribute, netkit_plain, netkit_rows, scrub_of}
use Rattle.linkinfo_peers.specs.Veth.{veth_attribute, veth_rows}
use Rattle.linkinfo_peers.specs.Vxcan.{vxcan_attribute, vxcan_rows}
use Rattle.linkinfo_peers.specs.declared.netkit.InfoNetkitOf.{InfoNetkitOf}
use Rattle.linkinfo_peers.specs.declared.netkit.InfoNetkitOf.TheVariants as netkit
use Rattle.linkinfo_peers.specs.declared.veth.InfoVethOf.{InfoVethOf}
use Rattle.linkinfo_peers.specs.declared.veth.InfoVethOf.TheVariants as veth
use Rattle.linkinfo_peers.specs.declared.vxcan.InfoVxcanOf.{InfoVxcanOf}
use Rattle.linkinfo_peers.specs.declared.vxcan.InfoVxcanOf.TheVariants as vxcan
-- Begin: written by tables/generate from tables/families.
pub use Rattle.linkinfo_peers.specs.BatadvConditions.{bat_adv_conditions, bat_adv_stated}
pub use Rattle.linkinfo_peers.specs.WwanConditions.{wwan_conditions, wwan_stated}

-- End: written by tables/generate.

-- ---- links with a peer, which is well formed by its own type

abbrev pub veth_conditions : {P : Type 0} → (P → Type 0) → InfoVethOf P → Type 0
veth_conditions well (veth.Peer peer) = well peer
veth_conditions {P = P} well (veth.Other d) = IsUnknownBeside {F = InfoVethOf P} 1 [] d

abbrev pub vxcan_conditions : {P : Type 0} → (P → Type 0) → InfoVxcanOf P → Type 0
vxcan_conditions well (vxcan.Peer peer) = well peer
vxcan_conditions {P = P} well (vxcan.Other d) = IsUnknownBeside {F = InfoVxcanOf P} 1 [] d

abbrev pub netkit_conditions : {P : Type 0} → (P → Type 0) → InfoNetkitOf P → Type 0
netkit_conditions well (netkit.Peer peer) = well peer
netkit_conditions well (netkit.Policy policy) = IsNumber netkit_policy_table (2 ^ 32) policy
netkit_conditions well (netkit.PeerPolicy policy) = IsNumber netkit_policy_table (2 ^ 32) policy
netkit_conditions well (netkit.Mode mode) = IsNumber netkit_mode_table (2 ^ 32) mode
netkit_conditions well (netkit.Headroom n) = n < 2 ^ 16
netkit_conditions well (netkit.Tailroom n) = n < 2 ^ 16
netkit_conditions {P = P} well (netkit.Other d) = IsUnknownBeside 1 (netkit_plain {P = P}) d
netkit_conditions well _ = Unit {0}

abbrev netkit_is_other : {P : Type 0} → InfoNetkitOf P → Bool
netkit_is_other (netkit.Other d) = true
netkit_is_other _ = false

-- the scrubbing has two values, and each is read from a payload
scrubbed : {F : Type 0} (label : NetkitScrub → F) (s : NetkitScrub) →
    (u : Bool) × Unit {0} × (label (scrub_of u) ≡ label s)
scrubbed label scrub.None = (false, tt, refl)
scrubbed label scrub.Default = (true, tt, refl)

module _ {P : Type 0} (meaning : List ℕ → Option P) (alike : List ℕ → List ℕ → Bool)
    (payload : P → List ℕ) (well : P → Type 0) where
  pub veth_stated : (x : InfoVethOf P) →
      WellFormed (λ d. veth.Other d) (veth_attribute payload)
      (λ n. row_of (veth_rows meaning alike payload well n)) x ↔ veth_conditions well x
  unfolding WellFormed
  veth_stated = elim [
    | veth.Peer peer ↦ plain_label well (λ z. veth.Peer z) (veth_conditions well) (λ _ h. h)
        (λ _ h. h) peer
    | veth.Other d ↦ unknown_beside (λ z. veth.Other z) 1 _ [] d
        (λ w. let no : veth.Peer w.0 ≡ veth.Other d = w.2 in cc)
        (unknown_label (λ z. veth.Other z) (veth_attribute payload) [] (λ _. true) (λ _. refl)
        (λ _. refl) tt d)
  ]

  pub vxcan_stated : (x : InfoVxcanOf P) →
      WellFormed (λ d. vxcan.Other d) (vxcan_attribute payload)
      (λ n. row_of (vxcan_rows meaning alike payload well n)) x ↔ vxcan_conditions well x
  unfolding WellFormed
  vxcan_stated = elim [
    | vxcan.Peer peer ↦ plain_label well (λ z. vxcan.Peer z) (vxcan_conditions well) (λ _ h. h)
        (λ _ h. h) peer
    | vxcan.Other d ↦ unknown_beside (λ z. vxcan.Other z) 1 _ [] d
        (λ w. let no : vxcan.Peer w.0 ≡ vxcan.Other d = w.2 in cc)
        (unknown_label (λ z. vxcan.Other z) (vxcan_attribute payload) [] (λ _. true) (λ _. refl)
        (λ _. refl) tt d)
  ]

  pub netkit_stated : (x : InfoNetkitOf P) →
      WellFormed (λ d. netkit.Other d) (netkit_attribute payload)
      (λ n. row_of (netkit_rows meaning alike payload well n)) x ↔ netkit_conditions well x
  unfolding WellFormed
  netkit_stated = elim [
    | netkit.Peer peer ↦ plain_label well (λ z. netkit.Peer z) (netkit_conditions well) (λ _ h. h)
        (λ _ h. h) peer
    | netkit.Policy x ↦ number_label netkit_policy_table_holds (2 ^ 32) (λ y. netkit.Policy y)
        (netkit_conditions well) (λ _ is. is) (λ _ is. is) x
    | netkit.PeerPolicy x ↦ number_label netkit_policy_table_holds (2 ^ 32)
        (λ y. netkit.PeerPolicy y) (netkit_conditions well) (λ _ is. is) (λ _ is. is) x
    | netkit.Mode x ↦ number_label netkit_mode_table_holds (2 ^ 32) (λ y. netkit.Mode y)
        (netkit_conditions well) (λ _ is. is) (λ _ is. is) x
    | netkit.Scrub s ↦ (λ w. tt, λ h. scrubbed (λ z. netkit.Scrub z) s)
    | netkit.PeerScrub s ↦ (λ w. tt, λ h. scrubbed (λ z. netkit.PeerScrub z) s)
    | netkit.Other d ↦ unknown_beside (λ z. netkit.Other z) 1 _ netkit_plain d
        (λ w. let no : netkit.Peer w.0 ≡ netkit.Other d = w.2 in cc)
        (unknown_label (λ z. netkit.Other z) (netkit_attribute payload) netkit_plain
        (netkit_is_other {P = P}) (λ _. refl) (λ _. refl)
        (are_typed (netkit_is_other {P = P}) netkit_plain refl) d)
    | _ ↦ (λ w. subst (netkit_conditions well) w.2 w.1, λ h. (_, h, refl))
  ]
