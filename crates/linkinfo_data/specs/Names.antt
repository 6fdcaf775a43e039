-- The name of the family of each sort of data, and those of the families inside: the names in the
-- errors of its attributes.
use Rattle.std.specs.Prelude.{◌≡◌, List, [], ◌∷◌, ℕ, Option, Some, None, Result, Ok, Err}
use Rattle.std.proofs.Common.{subst}
use Rattle.nla_frame.specs.NlaItems.{nla_items}
use Rattle.nla_frame.specs.declared.error.DecodeError.{DecodeError}
use Rattle.nla_frame.specs.declared.error.Family.{Family}
use Rattle.nla_frame.specs.declared.error.Family.TheVariants as family
use Rattle.linkinfo_table.specs.Named.{EachNamed}
use Rattle.linkinfo_table.specs.Lists.{◌>>=◌, first_meaning, values}
use Rattle.linkinfo_table.specs.Members.{Members}
use Rattle.linkinfo_data.specs.Data.{data_of}
use Rattle.linkinfo_table.specs.Layers.{Families, Types}
use Rattle.linkinfo_data.specs.Payloads.{Payload, as_first, as_list}
use Rattle.linkinfo_data.specs.PortData.{port_data_of}
use Rattle.linkinfo_data.specs.declared.data.DataFamily.{DataFamily}
use Rattle.linkinfo_data.specs.declared.data.DataFamily.TheVariants as of
use Rattle.linkinfo_data.specs.declared.devices.DeviceFamily.{DeviceFamily}
use Rattle.linkinfo_data.specs.declared.devices.DeviceFamily.TheVariants as device
use Rattle.linkinfo_data.specs.declared.lower.LowerFamily.{LowerFamily}
use Rattle.linkinfo_data.specs.declared.lower.LowerFamily.TheVariants as lower
use Rattle.linkinfo_data.specs.declared.peers.PeeredFamily.{PeeredFamily}
use Rattle.linkinfo_data.specs.declared.peers.PeeredFamily.TheVariants as peered
use Rattle.linkinfo_data.specs.declared.port_data.PortFamily.{PortFamily}
use Rattle.linkinfo_data.specs.declared.port_data.PortFamily.TheVariants as port_data
use Rattle.linkinfo_data.specs.declared.tunnels.TunnelFamily.{TunnelFamily}
use Rattle.linkinfo_data.specs.declared.tunnels.TunnelFamily.TheVariants as tunnel

abbrev pub lower_name : {t : Types} → Families t → LowerFamily → Family
-- Begin: written by tables/generate from tables/kinds (lower).
lower_name layer lower.Bridge = layer.bridge.family
lower_name layer lower.Tun = layer.tun.family
lower_name layer lower.Vlan = layer.vlan.family
lower_name layer lower.Bond = layer.bond.family
lower_name layer lower.Hsr = layer.hsr.family
lower_name layer lower.Can = layer.can.family
lower_name layer lower.Dsa = layer.dsa.family

-- End: written by tables/generate.

abbrev pub device_name : {t : Types} → Families t → DeviceFamily → Family
-- Begin: written by tables/generate from tables/kinds (device).
device_name layer device.IpVlan = family.IpVlan
device_name layer device.IpVtap = family.IpVtap
device_name layer (device.MacVlan lists) = family.MacVlan
device_name layer (device.MacVtap lists) = family.MacVtap
device_name layer device.Vrf = family.Vrf
device_name layer device.Ipoib = family.Ipoib
device_name layer device.Xfrm = family.Xfrm
device_name layer device.MacSec = family.MacSec
device_name layer device.RmNet = family.RmNet

-- End: written by tables/generate.

abbrev pub tunnel_name : {t : Types} → Families t → TunnelFamily → Family
-- Begin: written by tables/generate from tables/kinds (tunnel).
tunnel_name layer tunnel.Vxlan = family.Vxlan
tunnel_name layer tunnel.GreTap = family.Gre
tunnel_name layer tunnel.GreTap6 = family.Gre6
tunnel_name layer (tunnel.IpTunnel tag) = family.IpTunnel
tunnel_name layer tunnel.GreTun = family.Gre
tunnel_name layer tunnel.GreTun6 = family.Gre6
tunnel_name layer tunnel.Vti = family.Vti
tunnel_name layer tunnel.Gtp = family.Gtp
tunnel_name layer tunnel.Geneve = family.Geneve
tunnel_name layer tunnel.Amt = family.Amt
tunnel_name layer tunnel.BareUdp = family.BareUdp
tunnel_name layer tunnel.ErSpan = family.Gre
tunnel_name layer tunnel.Ip6ErSpan = family.Gre6

-- End: written by tables/generate.

abbrev pub peered_name : {t : Types} → Families t → PeeredFamily → Family
-- Begin: written by tables/generate from tables/kinds (peered).
peered_name layer peered.Veth = family.Veth
peered_name layer peered.Wireguard = family.Wireguard
peered_name layer peered.Netkit = family.Netkit
peered_name layer peered.Vxcan = family.Vxcan
peered_name layer peered.BatAdv = family.BatAdv
peered_name layer peered.Wwan = family.Wwan
peered_name layer peered.Pfcp = family.Pfcp

-- End: written by tables/generate.

abbrev pub data_name : {t : Types} → Families t → DataFamily → Option Family
data_name layer (of.Lower f) = Some (lower_name layer f)
data_name layer (of.Device f) = Some (device_name layer f)
data_name layer (of.Tunnel f) = Some (tunnel_name layer f)
data_name layer (of.Peered f) = Some (peered_name layer f)
data_name layer of.Raw = None

abbrev pub port_data_name : {t : Types} → Families t → PortFamily → Option Family
port_data_name layer port_data.Bond = Some layer.bond_port.family
port_data_name layer port_data.Bridge = Some layer.bridge_port.family
port_data_name layer port_data.Vrf = Some family.Vrf
port_data_name layer port_data.Team = Some family.TeamPort
port_data_name layer port_data.Raw = None

-- ---- the families inside: those that the layer supplies may have some, the others have none

abbrev pub lower_inner : {t : Types} → Families t → LowerFamily → List Family
-- Begin: written by tables/generate from tables/kinds (lower inside).
lower_inner layer lower.Bridge = layer.bridge.inner
lower_inner layer lower.Tun = layer.tun.inner
lower_inner layer lower.Vlan = layer.vlan.inner
lower_inner layer lower.Bond = layer.bond.inner
lower_inner layer lower.Hsr = layer.hsr.inner
lower_inner layer lower.Can = layer.can.inner
lower_inner layer lower.Dsa = layer.dsa.inner

-- End: written by tables/generate.

abbrev pub data_inner : {t : Types} → Families t → DataFamily → List Family
data_inner layer (of.Lower f) = lower_inner layer f
data_inner layer (of.Device f) = []
data_inner layer (of.Tunnel f) = []
data_inner layer (of.Peered f) = []
data_inner layer of.Raw = []

abbrev pub port_data_inner : {t : Types} → Families t → PortFamily → List Family
port_data_inner layer port_data.Bond = layer.bond_port.inner
port_data_inner layer port_data.Bridge = layer.bridge_port.inner
port_data_inner layer port_data.Vrf = []
port_data_inner layer port_data.Team = []
port_data_inner layer port_data.Raw = []

-- ---- an error in a payload is (Frame, 0, Header), or names one of the families

abbrev pub ErrorsName : {X : Type 0} → List Family → Payload X → Type 0
ErrorsName names payload = (p : List ℕ) → EachNamed names (payload.means p)

-- errors in data and port data of each family name it or a family inside, by the tables above
pub record AreNamed {t : Types} (layer : Families t) : Type 0 where
  pub link : (f : DataFamily) (name : Family) → data_name layer f ≡ Some name →
      ErrorsName (name ∷ data_inner layer f) (data_of layer f)
  pub port : (f : PortFamily) (name : Family) → port_data_name layer f ≡ Some name →
      ErrorsName (name ∷ port_data_inner layer f) (port_data_of layer f)

-- the names of the families that the layer supplies are those of the tables of names, and no family
-- is inside them
pub record AreNamedAfter {t : Types} (layer : Families t) : Type 0 where
  pub bond : layer.bond.family ≡ family.Bond
  pub bridge : layer.bridge.family ≡ family.Bridge
  pub vlan : layer.vlan.family ≡ family.Vlan
  pub can : layer.can.family ≡ family.Can
  pub hsr : layer.hsr.family ≡ family.Hsr
  pub dsa : layer.dsa.family ≡ family.Dsa
  pub tun : layer.tun.family ≡ family.Tun
  pub bond_port : layer.bond_port.family ≡ family.BondPort
  pub bridge_port : layer.bridge_port.family ≡ family.BridgePort
  pub link_inner : (f : DataFamily) → data_inner layer f ≡ []
  pub port_inner : (f : PortFamily) → port_data_inner layer f ≡ []

labelled_names : {A X : Type 0} (names : List Family) (label : A → X) (r : Result A DecodeError) →
    EachNamed names r →
    EachNamed names (r >>= λ a. let s : Result X DecodeError = Ok (label a) in s)
labelled_names names label (Ok a) h e k = absurd cc
labelled_names names label (Err d) h e k = h e cc

pub list_errors_name : {A X : Type 0} (names : List Family) (m : Members A) (label : List A → X) →
    ((p : List ℕ) → EachNamed names (values m.meaning (nla_items p))) →
    ErrorsName names (as_list m label)
list_errors_name names m label h p =
    labelled_names names label (values m.meaning (nla_items p)) (h p)

pub first_errors_name : {A X : Type 0} (names : List Family) (m : Members A) (label : A → X) →
    ((p : List ℕ) → EachNamed names (first_meaning m.meaning (nla_items p))) →
    ErrorsName names (as_first m label)
first_errors_name names m label h p =
    labelled_names names label (first_meaning m.meaning (nla_items p)) (h p)

-- the family that is named is that of the table
pub under_name : {X : Type 0} (payload : Payload X) (a b : Family) (inner : List Family) →
    Some a ≡ Some b → ErrorsName (a ∷ inner) payload → ErrorsName (b ∷ inner) payload
under_name payload a b inner e h = let same : a ≡ b = cc in
    subst (λ (z : Family). ErrorsName (z ∷ inner) payload) same h

-- the case where the table names none
pub no_name : (name : Family) → (let none : Option Family = None in none) ≡ Some name → ⊥
no_name name e = absurd cc
