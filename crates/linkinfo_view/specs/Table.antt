-- The rows of all tables, by type without flag bits.
use Rattle.std.specs.Prelude.{
  ℕ,
  ◌==◌,
  if◌then◌else◌,
  List,
  [],
  ◌∷◌,
  ◌++◌,
  Option,
  Some,
  None,
  codes,
}
use Rattle.std.specs.Str.{bytes_eq}
use Rattle.nla_frame.specs.declared.error.Family.{Family}
use Rattle.nla_frame.specs.declared.error.Family.TheVariants as family
use Rattle.linkinfo_view.specs.Lines.{Line, lines}
use Rattle.linkinfo_view.specs.declared.format.Table.{Table}
use Rattle.linkinfo_view.specs.declared.format.Table.TheVariants as table
-- Begin: written by tables/generate from tables/families (imports).
use Rattle.linkinfo_view.specs.declared.entries.TheConstants.{
  AMT,
  BARE_UDP,
  BAT_ADV,
  BOND,
  BOND_AD_INFO,
  BOND_PORT,
  BRIDGE,
  BRIDGE_PORT,
  BRIDGE_QUERIER_STATE,
  CAN,
  CAN_CTRL_MODE_EXT,
  CAN_PWM,
  CAN_TDC,
  DSA,
  GENEVE,
  GRE,
  GRE6,
  GTP,
  HSR,
  IP6_TUNNEL,
  IPOIB,
  IP_TUNNEL,
  IP_VLAN,
  MAC_SEC,
  MAC_VLAN,
  NETKIT,
  OVPN,
  PPP,
  RM_NET,
  SIT,
  TUN,
  TUNNEL,
  VETH,
  VLAN,
  VRF,
  VTI,
  VXLAN,
  WWAN,
  XFRM,
}

-- End: written by tables/generate.

-- the rows of a family, as `entries.rt` lists them, but for those that it shares with others
abbrev pub family_rows : Family → List (ℕ × Line)
-- Begin: written by tables/generate from tables/families (clauses).
family_rows family.Amt = lines AMT.now
family_rows family.BareUdp = lines BARE_UDP.now
family_rows family.BatAdv = lines BAT_ADV.now
family_rows family.Geneve = lines GENEVE.now
family_rows family.Gre = lines GRE.now
family_rows family.Gre6 = lines GRE6.now
family_rows family.Gtp = lines GTP.now
family_rows family.Ipoib = lines IPOIB.now
family_rows family.IpTunnel = lines IP_TUNNEL.now
family_rows family.IpVlan = lines IP_VLAN.now
family_rows family.IpVtap = lines IP_VLAN.now
family_rows family.MacVlan = lines MAC_VLAN.now
family_rows family.MacVtap = lines MAC_VLAN.now
family_rows family.MacSec = lines MAC_SEC.now
family_rows family.Netkit = lines NETKIT.now
family_rows family.RmNet = lines RM_NET.now
family_rows family.Veth = lines VETH.now
family_rows family.Vxcan = lines VETH.now
family_rows family.Vrf = lines VRF.now
family_rows family.Wwan = lines WWAN.now
family_rows family.Xfrm = lines XFRM.now
family_rows family.Vti = lines VTI.now
family_rows family.Vxlan = lines VXLAN.now
family_rows family.Bond = lines BOND.now
family_rows family.BondPort = lines BOND_PORT.now
family_rows family.Bridge = lines BRIDGE.now
family_rows family.BridgePort = lines BRIDGE_PORT.now
family_rows family.Vlan = lines VLAN.now
family_rows family.Can = lines CAN.now
family_rows family.Dsa = lines DSA.now
family_rows family.Hsr = lines HSR.now
family_rows family.Tun = lines TUN.now
family_rows family.BondAdInfo = lines BOND_AD_INFO.now
family_rows family.BridgeQuerierState = lines BRIDGE_QUERIER_STATE.now
family_rows family.CanTdc = lines CAN_TDC.now
family_rows family.CanCtrlModeExt = lines CAN_CTRL_MODE_EXT.now
family_rows family.CanPwm = lines CAN_PWM.now
family_rows family.Ovpn = lines OVPN.now
family_rows family.Ppp = lines PPP.now
-- End: written by tables/generate.
family_rows _ = []

-- the rows of a table, but for those that it shares with others
abbrev pub own_rows : Table → List (ℕ × Line)
own_rows (table.Family f) = family_rows f
own_rows table.Sit = lines SIT.now
own_rows table.Ip6Tunnel = lines IP6_TUNNEL.now

-- the rows that a table shares with others: those of tunnels
abbrev pub shared_rows : Table → List (ℕ × Line)
shared_rows (table.Family family.IpTunnel) = lines TUNNEL.now
shared_rows table.Sit = lines TUNNEL.now
shared_rows table.Ip6Tunnel = lines TUNNEL.now
shared_rows _ = []

-- the rows of a table
abbrev pub rows_of : Table → List (ℕ × Line)
rows_of t = own_rows t ++ shared_rows t

-- the row of a type, if there is one
abbrev pub found : List (ℕ × Line) → ℕ → Option Line
found [] number = None
found (row ∷ rows) number = if number == row.0 then Some row.1 else found rows number

abbrev pub row_of : Table → ℕ → Option Line
row_of table number = found (rows_of table) number

-- the table of the data of a link of a kind
abbrev pub tunnel_table : List ℕ → Table
tunnel_table kind = if bytes_eq kind (codes "sit") then table.Sit
    else if bytes_eq kind (codes "ip6tnl") then table.Ip6Tunnel
    else table.Family family.IpTunnel

abbrev pub table_of : Family → List ℕ → Table
table_of family.IpTunnel kind = tunnel_table kind
table_of f kind = table.Family f

-- the table of the data of a link of a kind that the library keeps as bytes, if it has rows
abbrev pub table_of_other : List ℕ → Option Table
table_of_other kind =
    -- Begin: written by tables/generate from tables/families (arms).
    if bytes_eq kind (codes "ovpn") then Some (table.Family family.Ovpn) else
    if bytes_eq kind (codes "ppp") then Some (table.Family family.Ppp) else
    -- End: written by tables/generate.
    None
