-- The texts of errors, and the two errors that name no attribute.
use Rattle.std.specs.Prelude.{ℕ, ◌++◌, List, codes}
use Rattle.std.specs.Fmt.{decimal}
use Rattle.nla_frame.specs.declared.error.Family.{Family}
use Rattle.nla_frame.specs.declared.error.Family.TheVariants as family
use Rattle.nla_frame.specs.declared.error.Cause.{Cause}
use Rattle.nla_frame.specs.declared.error.Cause.TheVariants as cause
use Rattle.nla_frame.specs.declared.error.DecodeError.{DecodeError}
use Rattle.nla_frame.specs.declared.to_vec.ToVecError.{ToVecError}
use Rattle.nla_frame.specs.declared.to_vec.ToVecError.TheVariants as to_vec

-- the name of a family in lower case
abbrev pub family_name : Family → List ℕ
-- Begin: written by tables/generate from tables/families.
family_name family.Frame = codes "frame"
family_name family.LinkInfo = codes "linkinfo"
family_name family.Amt = codes "amt"
family_name family.BareUdp = codes "bareudp"
family_name family.BatAdv = codes "batadv"
family_name family.Bond = codes "bond"
family_name family.BondPort = codes "bondport"
family_name family.Bridge = codes "bridge"
family_name family.BridgePort = codes "bridgeport"
family_name family.Can = codes "can"
family_name family.Dsa = codes "dsa"
family_name family.Geneve = codes "geneve"
family_name family.Gre = codes "gre"
family_name family.Gre6 = codes "gre6"
family_name family.Gtp = codes "gtp"
family_name family.Hsr = codes "hsr"
family_name family.IpTunnel = codes "iptunnel"
family_name family.IpVlan = codes "ipvlan"
family_name family.IpVtap = codes "ipvtap"
family_name family.Ipoib = codes "ipoib"
family_name family.MacSec = codes "macsec"
family_name family.MacVlan = codes "macvlan"
family_name family.MacVtap = codes "macvtap"
family_name family.Netkit = codes "netkit"
family_name family.Pfcp = codes "pfcp"
family_name family.RmNet = codes "rmnet"
family_name family.TeamPort = codes "teamport"
family_name family.Tun = codes "tun"
family_name family.Veth = codes "veth"
family_name family.Vlan = codes "vlan"
family_name family.Vrf = codes "vrf"
family_name family.Vti = codes "vti"
family_name family.Vxcan = codes "vxcan"
family_name family.Vxlan = codes "vxlan"
family_name family.Wireguard = codes "wireguard"
family_name family.Wwan = codes "wwan"
family_name family.Xfrm = codes "xfrm"
family_name family.VlanQosMapping = codes "vlanqosmapping"
family_name family.BondAdInfo = codes "bondadinfo"
family_name family.BridgeQuerierState = codes "bridgequerierstate"
family_name family.CanTdc = codes "cantdc"
family_name family.CanCtrlModeExt = codes "canctrlmodeext"
family_name family.CanPwm = codes "canpwm"
family_name family.Ovpn = codes "ovpn"
family_name family.Ppp = codes "ppp"

-- End: written by tables/generate.

-- the name of a cause in lower case
abbrev pub cause_name : Cause → List ℕ
cause_name cause.Header = codes "header"
cause_name cause.Length = codes "length"
cause_name cause.Utf8 = codes "utf8"
cause_name cause.Order = codes "order"
cause_name cause.AddressKind = codes "addresskind"
cause_name cause.Word = codes "word"
cause_name cause.WrongType = codes "wrongtype"
cause_name cause.Kind = codes "kind"
cause_name cause.Depth = codes "depth"
cause_name cause.Memory = codes "memory"
cause_name cause.Peer = codes "peer"

-- the number of a cause
abbrev pub cause_number : Cause → ℕ
cause_number cause.Header = 1
cause_number cause.Length = 2
cause_number cause.Utf8 = 3
cause_number cause.Order = 4
cause_number cause.AddressKind = 5
cause_number cause.Word = 6
cause_number cause.WrongType = 7
cause_number cause.Kind = 8
cause_number cause.Depth = 9
cause_number cause.Memory = 10
cause_number cause.Peer = 11

-- family, type in decimal, cause
abbrev pub error_text : DecodeError → List ℕ
error_text error =
    family_name error.family ++ codes " " ++ decimal error.kind ++ codes " "
    ++ cause_name error.cause

-- no header is accepted here
abbrev pub header_error : DecodeError
header_error = record { family = family.Frame; kind = 0; cause = cause.Header }

-- an allocation failed
abbrev pub memory_error : DecodeError
memory_error = record { family = family.Frame; kind = 0; cause = cause.Memory }

-- why a list is not written, in lower case
abbrev pub to_vec_error_name : ToVecError → List ℕ
to_vec_error_name to_vec.Unfit = codes "unfit"
to_vec_error_name to_vec.Memory = codes "memory"
