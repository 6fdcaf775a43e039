-- Data of ipvlan, ipvtap, macvlan, macvtap, vrf, ipoib, xfrm, macsec and rmnet links: what payloads
-- mean under each family, and the variant that holds it.
use Rattle.linkinfo_table.specs.Layers.{Types}
use Rattle.linkinfo_data.specs.Layered.{DataOf}
use Rattle.linkinfo_data.specs.declared.info_data.InfoDataOf.TheVariants as info
use Rattle.linkinfo_data.specs.declared.devices.DeviceFamily.{DeviceFamily}
use Rattle.linkinfo_data.specs.declared.devices.DeviceFamily.TheVariants as of
use Rattle.linkinfo_data.specs.Known.{IsKnown, list_is_known}
use Rattle.linkinfo_data.specs.Payloads.{Payload, as_list}
use Rattle.linkinfo_data.specs.Plain.{plain}
use Rattle.linkinfo_data.specs.PeerLayer.{peer_types}
use Rattle.linkinfo_data.specs.Refined.{AreEqual, list_equal}

abbrev pub devices_data_of : (t : Types) → DeviceFamily → Payload (DataOf t)
-- Begin: written by tables/generate from tables/kinds (data).
devices_data_of t of.IpVlan = as_list plain.ip_vlan (λ xs. info.IpVlan xs)
devices_data_of t of.IpVtap = as_list plain.ip_vtap (λ xs. info.IpVtap xs)
devices_data_of t (of.MacVlan around) =
    as_list (plain.mac_vlan around) (λ xs. info.MacVlan xs)
devices_data_of t (of.MacVtap around) =
    as_list (plain.mac_vtap around) (λ xs. info.MacVtap xs)
devices_data_of t of.Vrf = as_list plain.vrf (λ xs. info.Vrf xs)
devices_data_of t of.Ipoib = as_list plain.ipoib (λ xs. info.Ipoib xs)
devices_data_of t of.Xfrm = as_list plain.xfrm (λ xs. info.Xfrm xs)
devices_data_of t of.MacSec = as_list plain.mac_sec (λ xs. info.MacSec xs)
devices_data_of t of.RmNet = as_list plain.rm_net (λ xs. info.RmNet xs)

-- End: written by tables/generate.

pub devices_known : (t : Types) (f : DeviceFamily) →
    IsKnown (devices_data_of t f)
-- Begin: written by tables/generate from tables/kinds (known).
devices_known t of.IpVlan = list_is_known plain.ip_vlan (λ xs. info.IpVlan xs)
devices_known t of.IpVtap = list_is_known plain.ip_vtap (λ xs. info.IpVtap xs)
devices_known t (of.MacVlan around) =
    list_is_known (plain.mac_vlan around) (λ xs. info.MacVlan xs)
devices_known t (of.MacVtap around) =
    list_is_known (plain.mac_vtap around) (λ xs. info.MacVtap xs)
devices_known t of.Vrf = list_is_known plain.vrf (λ xs. info.Vrf xs)
devices_known t of.Ipoib = list_is_known plain.ipoib (λ xs. info.Ipoib xs)
devices_known t of.Xfrm = list_is_known plain.xfrm (λ xs. info.Xfrm xs)
devices_known t of.MacSec = list_is_known plain.mac_sec (λ xs. info.MacSec xs)
devices_known t of.RmNet = list_is_known plain.rm_net (λ xs. info.RmNet xs)

-- End: written by tables/generate.

pub devices_equal : (t : Types) (f : DeviceFamily) →
    AreEqual (devices_data_of t f) (devices_data_of (peer_types t.Peer) f)
-- Begin: written by tables/generate from tables/kinds (beside).
devices_equal t of.IpVlan = list_equal plain.ip_vlan _ _
devices_equal t of.IpVtap = list_equal plain.ip_vtap _ _
devices_equal t (of.MacVlan around) = list_equal (plain.mac_vlan around) _ _
devices_equal t (of.MacVtap around) = list_equal (plain.mac_vtap around) _ _
devices_equal t of.Vrf = list_equal plain.vrf _ _
devices_equal t of.Ipoib = list_equal plain.ipoib _ _
devices_equal t of.Xfrm = list_equal plain.xfrm _ _
devices_equal t of.MacSec = list_equal plain.mac_sec _ _
devices_equal t of.RmNet = list_equal plain.rm_net _ _

-- End: written by tables/generate.
