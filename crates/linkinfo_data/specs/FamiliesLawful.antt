-- The families of data that rows define: each is lawful, and its errors name it. The laws of
-- macvlan, macvtap and the families with a peer are in their crates.
use Rattle.std.specs.Prelude.{ℕ, false, List, [], refl}
use Rattle.nla_frame.specs.NlaItems.{nla_items}
use Rattle.nla_frame.specs.declared.error.Family.TheVariants as family
use Rattle.nla_frame.specs.declared.error.Family.{Family}
use Rattle.linkinfo_numbers.specs.declared.tags.KindTag.{KindTag}
use Rattle.linkinfo_table.specs.ByRows.{members_by_rows, rows_are_family, rows_name}
use Rattle.linkinfo_table.specs.Contents.{single_value}
use Rattle.linkinfo_table.specs.ByRows.{table_is_family, table_names}
use Rattle.linkinfo_table.specs.Conditions.{opaque_attribute}
use Rattle.linkinfo_table.specs.FamilyRows.{lookup_of, row_of, table_row}
use Rattle.linkinfo_table.specs.ErrorNames.{names_list}
use Rattle.linkinfo_table.specs.Named.{EachNames}
use Rattle.linkinfo_table.specs.FlatLaws.{none_inside}
use Rattle.linkinfo_table.specs.Lists.{values}
use Rattle.linkinfo_table.specs.Members.{IsFamily, Members}
use Rattle.linkinfo_table.specs.Rows.{meaning_in}
use Rattle.linkinfo_table.specs.declared.opaque.Opaque.TheVariants as opaque
use Rattle.linkinfo_table.specs.declared.opaque.Opaque.{Opaque}
use Rattle.linkinfo_devices.specs.Ipvlan.{ip_vlan_attribute, ip_vlan_keeps, ip_vlan_rows}
use Rattle.linkinfo_devices.specs.Macvlan.{mac_vlan_attribute}
use Rattle.linkinfo_devices.specs.Macvlan.{mac_vlan_rows, mac_vlan_says}
use Rattle.linkinfo_devices.specs.Macvtap.{mac_vtap_attribute}
use Rattle.linkinfo_devices.specs.Macvtap.{mac_vtap_rows, mac_vtap_says}
use Rattle.linkinfo_devices.specs.declared.ipvlan.InfoIpVlanOf.TheVariants as ip_vlan
use Rattle.linkinfo_devices.specs.declared.macvlan.InfoMacVlan as macvlan
use Rattle.linkinfo_devices.specs.declared.macvtap.InfoMacVtap as macvtap
use Rattle.linkinfo_tunnels.specs.IpTunnel.{ip_tunnel_attribute, ip_tunnel_flat, ip_tunnel_owes}
use Rattle.linkinfo_tunnels.specs.IpTunnel.{ip_tunnel_row}
use Rattle.linkinfo_tunnels.specs.declared.ip_tunnel.InfoIpTunnel.TheVariants as ip_tunnel
-- Begin: written by tables/generate from tables/kinds (specs).
use Rattle.linkinfo_devices.specs.Vrf.{vrf_attribute, vrf_keeps, vrf_rows}
use Rattle.linkinfo_devices.specs.declared.vrf.InfoVrf.TheVariants as vrf
use Rattle.linkinfo_devices.specs.Ipoib.{ipoib_attribute, ipoib_keeps, ipoib_rows}
use Rattle.linkinfo_devices.specs.declared.ipoib.InfoIpoib.TheVariants as ipoib
use Rattle.linkinfo_devices.specs.Xfrm.{xfrm_attribute, xfrm_keeps, xfrm_rows}
use Rattle.linkinfo_devices.specs.declared.xfrm.InfoXfrm.TheVariants as xfrm
use Rattle.linkinfo_devices.specs.Macsec.{mac_sec_attribute, mac_sec_keeps, mac_sec_rows}
use Rattle.linkinfo_devices.specs.declared.macsec.InfoMacSec.TheVariants as mac_sec
use Rattle.linkinfo_devices.specs.Rmnet.{rm_net_attribute, rm_net_keeps, rm_net_rows}
use Rattle.linkinfo_devices.specs.declared.rmnet.InfoRmNet.TheVariants as rm_net
use Rattle.linkinfo_tunnels.specs.Vxlan.{vxlan_attribute, vxlan_keeps, vxlan_rows}
use Rattle.linkinfo_tunnels.specs.declared.vxlan.InfoVxlan.TheVariants as vxlan
use Rattle.linkinfo_tunnels.specs.Gre.{gre_attribute, gre_keeps, gre_rows}
use Rattle.linkinfo_tunnels.specs.declared.gre.InfoGre.TheVariants as gre
use Rattle.linkinfo_tunnels.specs.Gre6.{gre6_attribute, gre6_keeps, gre6_rows}
use Rattle.linkinfo_tunnels.specs.declared.gre6.InfoGre6.TheVariants as gre6
use Rattle.linkinfo_tunnels.specs.Vti.{vti_attribute, vti_keeps, vti_rows}
use Rattle.linkinfo_tunnels.specs.declared.vti.InfoVti.TheVariants as vti
use Rattle.linkinfo_tunnels.specs.Gtp.{gtp_attribute, gtp_keeps, gtp_rows}
use Rattle.linkinfo_tunnels.specs.declared.gtp.InfoGtp.TheVariants as gtp
use Rattle.linkinfo_tunnels.specs.Geneve.{geneve_attribute, geneve_keeps, geneve_rows}
use Rattle.linkinfo_tunnels.specs.declared.geneve.InfoGeneve.TheVariants as geneve
use Rattle.linkinfo_tunnels.specs.Amt.{amt_attribute, amt_keeps, amt_rows}
use Rattle.linkinfo_tunnels.specs.declared.amt.InfoAmt.TheVariants as amt
use Rattle.linkinfo_tunnels.specs.BareUdp.{bare_udp_attribute, bare_udp_keeps, bare_udp_rows}
use Rattle.linkinfo_tunnels.specs.declared.bare_udp.InfoBareUdp.TheVariants as bare_udp
use Rattle.linkinfo_peers.specs.Batadv.{bat_adv_attribute, bat_adv_keeps, bat_adv_rows}
use Rattle.linkinfo_peers.specs.declared.batadv.InfoBatAdv.TheVariants as bat_adv
use Rattle.linkinfo_peers.specs.Wwan.{wwan_attribute, wwan_keeps, wwan_rows}
use Rattle.linkinfo_peers.specs.declared.wwan.InfoWwan.TheVariants as wwan
-- End: written by tables/generate.
use Rattle.linkinfo_data.specs.Plain.{plain}

-- ---- ipvlan and ipvtap

pub ip_vlan_is : {tap : ℕ} (f : Family) → IsFamily
    (members_by_rows f (λ d. ip_vlan.Other d) (ip_vlan_attribute {tap = tap})
    (λ n. table_row ip_vlan_rows n) (λ _. 0))
ip_vlan_is f = table_is_family f
    (λ d. ip_vlan.Other d) ip_vlan_attribute ip_vlan_rows (ip_vlan_keeps _) (λ _. refl)

pub ip_vlan_names : {tap : ℕ} (f : Family) (s : List ℕ) → EachNames f
    (values (meaning_in f (λ d. ip_vlan.Other d)
    (λ n. row_of (table_row (ip_vlan_rows {tap = tap}) n))) (nla_items s))
ip_vlan_names f s = table_names f
    (λ d. ip_vlan.Other d) ip_vlan_attribute ip_vlan_rows (ip_vlan_keeps _) s

-- Begin: written by tables/generate from tables/kinds (laws).

-- ---- vrf

pub vrf_is : IsFamily plain.vrf
vrf_is = table_is_family family.Vrf (λ d. vrf.Other d) vrf_attribute vrf_rows vrf_keeps (λ _. refl)

pub vrf_names : (s : List ℕ) → EachNames family.Vrf (values plain.vrf.meaning (nla_items s))
vrf_names s = table_names family.Vrf (λ d. vrf.Other d) vrf_attribute vrf_rows vrf_keeps s

-- ---- ipoib

pub ipoib_is : IsFamily plain.ipoib
ipoib_is = table_is_family family.Ipoib (λ d. ipoib.Other d) ipoib_attribute ipoib_rows ipoib_keeps
    (λ _. refl)

pub ipoib_names : (s : List ℕ) → EachNames family.Ipoib (values plain.ipoib.meaning (nla_items s))
ipoib_names s = table_names family.Ipoib
    (λ d. ipoib.Other d) ipoib_attribute ipoib_rows ipoib_keeps s

-- ---- xfrm

pub xfrm_is : IsFamily plain.xfrm
xfrm_is = table_is_family family.Xfrm (λ d. xfrm.Other d) xfrm_attribute xfrm_rows xfrm_keeps
    (λ _. refl)

pub xfrm_names : (s : List ℕ) → EachNames family.Xfrm (values plain.xfrm.meaning (nla_items s))
xfrm_names s = table_names family.Xfrm (λ d. xfrm.Other d) xfrm_attribute xfrm_rows xfrm_keeps s

-- ---- macsec

pub mac_sec_is : IsFamily plain.mac_sec
mac_sec_is = table_is_family family.MacSec
    (λ d. mac_sec.Other d) mac_sec_attribute mac_sec_rows mac_sec_keeps (λ _. refl)

pub mac_sec_names : (s : List ℕ) →
    EachNames family.MacSec (values plain.mac_sec.meaning (nla_items s))
mac_sec_names s = table_names family.MacSec
    (λ d. mac_sec.Other d) mac_sec_attribute mac_sec_rows mac_sec_keeps s

-- ---- rmnet

pub rm_net_is : IsFamily plain.rm_net
rm_net_is = table_is_family family.RmNet
    (λ d. rm_net.Other d) rm_net_attribute rm_net_rows rm_net_keeps (λ _. refl)

pub rm_net_names : (s : List ℕ) → EachNames family.RmNet (values plain.rm_net.meaning (nla_items s))
rm_net_names s = table_names family.RmNet
    (λ d. rm_net.Other d) rm_net_attribute rm_net_rows rm_net_keeps s

-- ---- vxlan

pub vxlan_is : IsFamily plain.vxlan
vxlan_is = table_is_family family.Vxlan (λ d. vxlan.Other d) vxlan_attribute vxlan_rows vxlan_keeps
    (λ _. refl)

pub vxlan_names : (s : List ℕ) → EachNames family.Vxlan (values plain.vxlan.meaning (nla_items s))
vxlan_names s = table_names family.Vxlan
    (λ d. vxlan.Other d) vxlan_attribute vxlan_rows vxlan_keeps s

-- ---- gre, gretap and erspan

pub gre_is : IsFamily plain.gre
gre_is = table_is_family family.Gre (λ d. gre.Other d) gre_attribute gre_rows gre_keeps (λ _. refl)

pub gre_names : (s : List ℕ) → EachNames family.Gre (values plain.gre.meaning (nla_items s))
gre_names s = table_names family.Gre (λ d. gre.Other d) gre_attribute gre_rows gre_keeps s

-- ---- ip6gre, ip6gretap and ip6erspan

pub gre6_is : IsFamily plain.gre6
gre6_is = table_is_family family.Gre6 (λ d. gre6.Other d) gre6_attribute gre6_rows gre6_keeps
    (λ _. refl)

pub gre6_names : (s : List ℕ) → EachNames family.Gre6 (values plain.gre6.meaning (nla_items s))
gre6_names s = table_names family.Gre6 (λ d. gre6.Other d) gre6_attribute gre6_rows gre6_keeps s

-- ---- vti and vti6

pub vti_is : IsFamily plain.vti
vti_is = table_is_family family.Vti (λ d. vti.Other d) vti_attribute vti_rows vti_keeps (λ _. refl)

pub vti_names : (s : List ℕ) → EachNames family.Vti (values plain.vti.meaning (nla_items s))
vti_names s = table_names family.Vti (λ d. vti.Other d) vti_attribute vti_rows vti_keeps s

-- ---- gtp

pub gtp_is : IsFamily plain.gtp
gtp_is = table_is_family family.Gtp (λ d. gtp.Other d) gtp_attribute gtp_rows gtp_keeps (λ _. refl)

pub gtp_names : (s : List ℕ) → EachNames family.Gtp (values plain.gtp.meaning (nla_items s))
gtp_names s = table_names family.Gtp (λ d. gtp.Other d) gtp_attribute gtp_rows gtp_keeps s

-- ---- geneve

pub geneve_is : IsFamily plain.geneve
geneve_is = table_is_family family.Geneve
    (λ d. geneve.Other d) geneve_attribute geneve_rows geneve_keeps (λ _. refl)

pub geneve_names : (s : List ℕ) →
    EachNames family.Geneve (values plain.geneve.meaning (nla_items s))
geneve_names s = table_names family.Geneve
    (λ d. geneve.Other d) geneve_attribute geneve_rows geneve_keeps s

-- ---- amt

pub amt_is : IsFamily plain.amt
amt_is = table_is_family family.Amt (λ d. amt.Other d) amt_attribute amt_rows amt_keeps (λ _. refl)

pub amt_names : (s : List ℕ) → EachNames family.Amt (values plain.amt.meaning (nla_items s))
amt_names s = table_names family.Amt (λ d. amt.Other d) amt_attribute amt_rows amt_keeps s

-- ---- bareudp

pub bare_udp_is : IsFamily plain.bare_udp
bare_udp_is = table_is_family family.BareUdp
    (λ d. bare_udp.Other d) bare_udp_attribute bare_udp_rows bare_udp_keeps (λ _. refl)

pub bare_udp_names : (s : List ℕ) →
    EachNames family.BareUdp (values plain.bare_udp.meaning (nla_items s))
bare_udp_names s = table_names family.BareUdp
    (λ d. bare_udp.Other d) bare_udp_attribute bare_udp_rows bare_udp_keeps s

-- ---- batadv

pub bat_adv_is : IsFamily plain.bat_adv
bat_adv_is = table_is_family family.BatAdv
    (λ d. bat_adv.Other d) bat_adv_attribute bat_adv_rows bat_adv_keeps (λ _. refl)

pub bat_adv_names : (s : List ℕ) →
    EachNames family.BatAdv (values plain.bat_adv.meaning (nla_items s))
bat_adv_names s = table_names family.BatAdv
    (λ d. bat_adv.Other d) bat_adv_attribute bat_adv_rows bat_adv_keeps s

-- ---- wwan

pub wwan_is : IsFamily plain.wwan
wwan_is = table_is_family family.Wwan (λ d. wwan.Other d) wwan_attribute wwan_rows wwan_keeps
    (λ _. refl)

pub wwan_names : (s : List ℕ) → EachNames family.Wwan (values plain.wwan.meaning (nla_items s))
wwan_names s = table_names family.Wwan (λ d. wwan.Other d) wwan_attribute wwan_rows wwan_keeps s

-- End: written by tables/generate.

-- ---- ipip, ip6tnl and sit

pub ip_tunnel_is : (tag : KindTag) → IsFamily (plain.ip_tunnel tag)
ip_tunnel_is tag = rows_are_family family.IpTunnel (λ d. ip_tunnel.Other d) ip_tunnel_attribute
    (ip_tunnel_row tag) (ip_tunnel_owes tag) (λ _. refl) (λ _. 0) none_inside (λ _. single_value)
    false (λ _. tt)

pub ip_tunnel_names : (tag : KindTag) (s : List ℕ) →
    EachNames family.IpTunnel (values (plain.ip_tunnel tag).meaning (nla_items s))
ip_tunnel_names tag s = rows_name family.IpTunnel (λ d. ip_tunnel.Other d) ip_tunnel_attribute
    (ip_tunnel_row tag) (ip_tunnel_owes tag)
    (λ n. ip_tunnel_flat tag n) s

-- ---- macvlan links, whose attributes may hold lists

pub mac_vlan_names : (lists : ℕ) (s : List ℕ) →
    EachNames family.MacVlan (values (plain.mac_vlan lists).meaning (nla_items s))
mac_vlan_names lists s = names_list family.MacVlan [] (λ d. macvlan.Other d) mac_vlan_attribute
    (λ c n. lookup_of (mac_vlan_rows c n))
    (λ c a. meaning_in family.MacVlan (λ d. macvlan.Other d)
    (λ n. row_of (mac_vlan_rows c n)) a) mac_vlan_says lists s

-- ---- macvtap links, whose attributes may hold lists

pub mac_vtap_names : (lists : ℕ) (s : List ℕ) →
    EachNames family.MacVtap (values (plain.mac_vtap lists).meaning (nla_items s))
mac_vtap_names lists s = names_list family.MacVtap [] (λ d. macvtap.Other d) mac_vtap_attribute
    (λ c n. lookup_of (mac_vtap_rows c n))
    (λ c a. meaning_in family.MacVtap (λ d. macvtap.Other d)
    (λ n. row_of (mac_vtap_rows c n)) a) mac_vtap_says lists s

-- ---- families without rows

-- a family without rows, whose attributes are kept verbatim
pub opaque_is : {number : ℕ} (f : Family) →
    IsFamily (members_by_rows f (λ d. opaque.Other d) (opaque_attribute {number = number})
    (λ n. table_row [] n) (λ _. 0))
opaque_is f = table_is_family f (λ d. opaque.Other d) opaque_attribute [] tt (λ _. refl)

abbrev pub opaque_members : (number : ℕ) → Family → Members (Opaque number)
opaque_members number f =
    members_by_rows f (λ d. opaque.Other d) (opaque_attribute {number = number})
    (λ n. table_row [] n) (λ _. 0)

pub opaque_names : {number : ℕ} (f : Family) (s : List ℕ) →
    EachNames f (values (opaque_members number f).meaning (nla_items s))
opaque_names f s = table_names f (λ d. opaque.Other d) opaque_attribute [] tt s
