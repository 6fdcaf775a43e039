-- What data is under a kind, and port data under a port kind, by the name.
use Rattle.std.specs.Prelude.{
  ℕ,
  Bool,
  true,
  false,
  if◌then◌else◌,
  List,
  Option,
  Some,
  None,
}
use Rattle.nla_frame.specs.declared.error.Family.{Family}
use Rattle.nla_frame.specs.declared.error.Family.TheVariants as family
use Rattle.linkinfo_numbers.specs.Kind.{tag_of_name}
use Rattle.linkinfo_numbers.specs.PortKind.{port_tag_of_name}
use Rattle.linkinfo_numbers.specs.declared.tags.KindTag.{KindTag}
use Rattle.linkinfo_numbers.specs.declared.tags.KindTag.TheVariants as tag
use Rattle.linkinfo_numbers.specs.declared.tags.PortTag.{PortTag}
use Rattle.linkinfo_numbers.specs.declared.tags.PortTag.TheVariants as port
use Rattle.linkinfo_shapes.specs.declared.shape.Shape.{Shape}
use Rattle.linkinfo_shapes.specs.declared.shape.Shape.TheVariants.{Be16, Le32}
use Rattle.linkinfo_build.specs.Rows.{rows_of}
use Rattle.linkinfo_build.specs.declared.forms.DataForm.{DataForm}
use Rattle.linkinfo_build.specs.declared.forms.DataForm.TheVariants as form

-- the family of the attributes in the data of a kind
abbrev pub kind_family : KindTag → Option Family
-- Begin: written by tables/generate from tables/kinds.
kind_family tag.Bridge = Some family.Bridge
kind_family tag.Tun = Some family.Tun
kind_family tag.Vlan = Some family.Vlan
kind_family tag.Veth = Some family.Veth
kind_family tag.Vxlan = Some family.Vxlan
kind_family tag.Bond = Some family.Bond
kind_family tag.IpVlan = Some family.IpVlan
kind_family tag.IpVtap = Some family.IpVtap
kind_family tag.MacVlan = Some family.MacVlan
kind_family tag.MacVtap = Some family.MacVtap
kind_family tag.GreTap = Some family.Gre
kind_family tag.GreTap6 = Some family.Gre6
kind_family tag.IpIp = Some family.IpTunnel
kind_family tag.Ip6Tnl = Some family.IpTunnel
kind_family tag.SitTun = Some family.IpTunnel
kind_family tag.GreTun = Some family.Gre
kind_family tag.GreTun6 = Some family.Gre6
kind_family tag.Vti = Some family.Vti
kind_family tag.Vti6 = Some family.Vti
kind_family tag.Vrf = Some family.Vrf
kind_family tag.Gtp = Some family.Gtp
kind_family tag.Ipoib = Some family.Ipoib
kind_family tag.Wireguard = Some family.Wireguard
kind_family tag.Xfrm = Some family.Xfrm
kind_family tag.MacSec = Some family.MacSec
kind_family tag.Hsr = Some family.Hsr
kind_family tag.Geneve = Some family.Geneve
kind_family tag.Netkit = Some family.Netkit
kind_family tag.Vxcan = Some family.Vxcan
kind_family tag.Amt = Some family.Amt
kind_family tag.BatAdv = Some family.BatAdv
kind_family tag.BareUdp = Some family.BareUdp
kind_family tag.Wwan = Some family.Wwan
kind_family tag.Can = Some family.Can
kind_family tag.Dsa = Some family.Dsa
kind_family tag.ErSpan = Some family.Gre
kind_family tag.Ip6ErSpan = Some family.Gre6
kind_family tag.Pfcp = Some family.Pfcp
kind_family tag.RmNet = Some family.RmNet
-- End: written by tables/generate.
kind_family _ = None

-- the family of the attributes in the data of ports of a kind
abbrev pub port_kind_family : PortTag → Option Family
port_kind_family port.Bond = Some family.BondPort
port_kind_family port.Bridge = Some family.BridgePort
port_kind_family port.Vrf = Some family.Vrf
port_kind_family port.Team = Some family.TeamPort
port_kind_family port.Other = None

-- the shape of the tunnel flags in data of a kind: 16 bits big-endian over IPv4, else 32 bits
abbrev pub tunnel_flags : KindTag → Option Shape
tunnel_flags tag.IpIp = Some Be16
tunnel_flags tag.SitTun = Some Be16
tunnel_flags tag.Ip6Tnl = Some Le32
tunnel_flags _ = None

-- data that is one attribute, whatever follows it
abbrev pub is_single : Family → Bool
is_single family.Veth = true
is_single family.Vxcan = true
is_single _ = false

-- ---- forms

abbrev pub form_of : Option Shape → Option Family → DataForm
form_of flags None = form.Bytes
form_of flags (Some f) =
    if is_single f then form.OneAttribute (rows_of f)
    else form.Attributes (record { family = f; tunnel_flags = flags })

abbrev pub data_form : Option (List ℕ) → DataForm
data_form None = form.NoKind
data_form (Some name) = form_of (tunnel_flags (tag_of_name name)) (kind_family (tag_of_name name))

abbrev pub port_form_of : Option Family → DataForm
port_form_of None = form.Bytes
port_form_of (Some f) = form.Attributes (rows_of f)

abbrev pub port_data_form : Option (List ℕ) → DataForm
port_data_form None = form.NoKind
port_data_form (Some name) = port_form_of (port_kind_family (port_tag_of_name name))
