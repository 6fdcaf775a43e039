-- What contracts say of the typed layer, over peers that are kept as bytes.
use Rattle.std.specs.Prelude.{◌≡◌, false, refl}
use Rattle.nla_frame.specs.declared.bytes.Bytes.{Bytes}
use Rattle.linkinfo_data.specs.DataFamilies.{DataFamilies, data_families, data_types}
use Rattle.linkinfo_data.specs.NoSets.{HasNoSets}
use Rattle.linkinfo_data.specs.Plain.{plain}
use Rattle.linkinfo_data.specs.Refined.{is_set_in}
use Rattle.linkinfo_data.specs.TypedTypes.{typed_families, typed_types}
use Rattle.linkinfo_data.specs.declared.data.DataFamily.{DataFamily}
use Rattle.linkinfo_data.specs.declared.data.DataFamily.TheVariants as of
use Rattle.linkinfo_data.specs.declared.devices.DeviceFamily.{DeviceFamily}
use Rattle.linkinfo_data.specs.declared.devices.DeviceFamily.TheVariants as device
use Rattle.linkinfo_data.specs.declared.lower.LowerFamily.{LowerFamily}
use Rattle.linkinfo_data.specs.declared.lower.LowerFamily.TheVariants as lower
use Rattle.linkinfo_data.specs.declared.peers.PeeredFamily.{PeeredFamily}
use Rattle.linkinfo_data.specs.declared.peers.PeeredFamily.TheVariants as peered
use Rattle.linkinfo_data.specs.declared.port_data.PortFamily.{PortFamily}
use Rattle.linkinfo_data.specs.declared.port_data.PortFamily.TheVariants as port
use Rattle.linkinfo_data.specs.declared.tunnels.TunnelFamily.{TunnelFamily}
use Rattle.linkinfo_data.specs.declared.tunnels.TunnelFamily.TheVariants as tunnel

abbrev pub typed_layer : DataFamilies (data_types (typed_types Bytes))
typed_layer = data_families (typed_families plain.bytes_peer)

-- no data of this layer is a set

lower_none : (f : LowerFamily) → is_set_in (typed_layer.data_of (of.Lower f)).contents ≡ false
lower_none lower.Bond = refl
lower_none _ = refl

device_none : (f : DeviceFamily) → is_set_in (typed_layer.data_of (of.Device f)).contents ≡ false
device_none device.Vrf = refl
device_none _ = refl

tunnel_none : (f : TunnelFamily) → is_set_in (typed_layer.data_of (of.Tunnel f)).contents ≡ false
tunnel_none tunnel.Vxlan = refl
tunnel_none _ = refl

peered_none : (f : PeeredFamily) → is_set_in (typed_layer.data_of (of.Peered f)).contents ≡ false
peered_none peered.Veth = refl
peered_none _ = refl

data_none : (f : DataFamily) → is_set_in (typed_layer.data_of f).contents ≡ false
data_none (of.Lower f) = lower_none f
data_none (of.Device f) = device_none f
data_none (of.Tunnel f) = tunnel_none f
data_none (of.Peered f) = peered_none f
data_none of.Raw = refl

port_none : (f : PortFamily) → is_set_in (typed_layer.port_data_of f).contents ≡ false
port_none port.Vrf = refl
port_none _ = refl

pub typed_has_no_sets : HasNoSets typed_layer
typed_has_no_sets = record { of_data = data_none; of_ports = port_none }
