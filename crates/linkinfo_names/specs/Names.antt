-- The names that the kernel gives to the types of attributes, by family and type without flag bits.
use Rattle.std.specs.Prelude.{ℕ, ◌==◌, if◌then◌else◌, List, [], ◌∷◌, map, Option, Some, None}
use Rattle.std.specs.Borrow.{Bor}
use Rattle.nla_frame.specs.declared.error.Family.{Family}
use Rattle.nla_frame.specs.declared.error.Family.TheVariants as family
-- Begin: written by tables/generate from tables/families (imports).
use Rattle.linkinfo_names.specs.declared.entries.TheConstants.{
  AMT,
  BARE_UDP,
  BAT_ADV,
  BOND,
  BOND_AD_INFO,
  BOND_PORT,
  BRIDGE,
  BRIDGE_PORT,
  BRIDGE_QUERIER_STATE,
  CAN,
  CAN_CTRL_MODE_EXT,
  CAN_PWM,
  CAN_TDC,
  DSA,
  GENEVE,
  GRE,
  GRE6,
  GTP,
  HSR,
  IPOIB,
  IP_TUNNEL,
  IP_VLAN,
  LINK_INFO,
  MAC_SEC,
  MAC_VLAN,
  NETKIT,
  OVPN,
  PPP,
  RM_NET,
  TUN,
  VETH,
  VLAN,
  VLAN_QOS_MAPPING,
  VRF,
  VTI,
  VXCAN,
  VXLAN,
  WWAN,
  XFRM,
}

-- End: written by tables/generate.

-- the rows of a constant
abbrev pub rows : List (ℕ × record { now : List ℕ }) → List (ℕ × List ℕ)
rows entries = map (λ (number, name). (number, name.now)) entries

-- the rows of a slice
abbrev pub slice_rows : List (ℕ × Bor (List ℕ)) → List (ℕ × List ℕ)
slice_rows entries = map (λ (number, name). (number, name.now)) entries

-- the names of a family, by type, as `entries.rt` lists them
abbrev pub names_of : Family → List (ℕ × List ℕ)
-- Begin: written by tables/generate from tables/families (clauses).
names_of family.LinkInfo = rows LINK_INFO.now
names_of family.Amt = rows AMT.now
names_of family.BareUdp = rows BARE_UDP.now
names_of family.BatAdv = rows BAT_ADV.now
names_of family.Geneve = rows GENEVE.now
names_of family.Gre = rows GRE.now
names_of family.Gre6 = rows GRE6.now
names_of family.Gtp = rows GTP.now
names_of family.Ipoib = rows IPOIB.now
names_of family.IpTunnel = rows IP_TUNNEL.now
names_of family.IpVlan = rows IP_VLAN.now
names_of family.IpVtap = rows IP_VLAN.now
names_of family.MacVlan = rows MAC_VLAN.now
names_of family.MacVtap = rows MAC_VLAN.now
names_of family.MacSec = rows MAC_SEC.now
names_of family.Netkit = rows NETKIT.now
names_of family.RmNet = rows RM_NET.now
names_of family.Veth = rows VETH.now
names_of family.Vxcan = rows VXCAN.now
names_of family.Vrf = rows VRF.now
names_of family.Wwan = rows WWAN.now
names_of family.Xfrm = rows XFRM.now
names_of family.Vti = rows VTI.now
names_of family.Vxlan = rows VXLAN.now
names_of family.Bond = rows BOND.now
names_of family.BondPort = rows BOND_PORT.now
names_of family.Bridge = rows BRIDGE.now
names_of family.BridgePort = rows BRIDGE_PORT.now
names_of family.Vlan = rows VLAN.now
names_of family.Can = rows CAN.now
names_of family.Dsa = rows DSA.now
names_of family.Hsr = rows HSR.now
names_of family.Tun = rows TUN.now
names_of family.VlanQosMapping = rows VLAN_QOS_MAPPING.now
names_of family.BondAdInfo = rows BOND_AD_INFO.now
names_of family.BridgeQuerierState = rows BRIDGE_QUERIER_STATE.now
names_of family.CanTdc = rows CAN_TDC.now
names_of family.CanCtrlModeExt = rows CAN_CTRL_MODE_EXT.now
names_of family.CanPwm = rows CAN_PWM.now
names_of family.Ovpn = rows OVPN.now
names_of family.Ppp = rows PPP.now
-- End: written by tables/generate.
names_of _ = []

-- the name in the row of a type, if there is one
abbrev pub named : List (ℕ × List ℕ) → ℕ → Option (List ℕ)
named [] number = None
named (row ∷ more) number = if number == row.0 then Some row.1 else named more number

abbrev pub attribute_name : Family → ℕ → Option (List ℕ)
attribute_name f number = named (names_of f) number
