-- Data of ports: what a payload means under the port kind.
use Rattle.std.specs.Prelude.{◌≡◌, ℕ, Bool, true, false, List, map, refl}
use Rattle.nla_frame.specs.Attribute.{Attribute, list_string}
use Rattle.linkinfo_numbers.specs.declared.tags.PortTag.{PortTag}
use Rattle.linkinfo_numbers.specs.declared.tags.PortTag.TheVariants as tag
use Rattle.linkinfo_table.specs.Layers.{Families, IsLayer, Types}
use Rattle.linkinfo_data.specs.Layered.{PortDataOf}
use Rattle.linkinfo_data.specs.declared.port_data.InfoPortDataOf.TheVariants as info
use Rattle.linkinfo_data.specs.declared.port_data.PortFamily.{PortFamily}
use Rattle.linkinfo_data.specs.declared.port_data.PortFamily.TheVariants as of
use Rattle.linkinfo_data.specs.Known.{IsKnown, list_is_known}
use Rattle.linkinfo_data.specs.Payloads.{Payload, as_list, as_bytes}
use Rattle.linkinfo_data.specs.PeerFamilies.{peer_families}
use Rattle.linkinfo_data.specs.Plain.{plain}
use Rattle.linkinfo_data.specs.Refined.{
  AreEqual,
  Refines,
  bytes_equal,
  equal_refines,
  list_equal,
  list_refined,
  opaque_verbatim,
}

-- the family of a port kind's data
abbrev pub port_family_of : PortTag → PortFamily
port_family_of tag.Bond = of.Bond
port_family_of tag.Bridge = of.Bridge
port_family_of tag.Vrf = of.Vrf
port_family_of tag.Team = of.Team
port_family_of _ = of.Raw

-- what payloads mean as port data of a family, and the variant that holds it
abbrev pub port_data_of : {t : Types} → Families t → PortFamily → Payload (PortDataOf t)
port_data_of layer of.Bond = as_list layer.bond_port (λ xs. info.BondPort xs)
port_data_of layer of.Bridge = as_list layer.bridge_port (λ xs. info.BridgePort xs)
port_data_of layer of.Vrf = as_list plain.vrf_port (λ xs. info.VrfPort xs)
port_data_of layer of.Team = as_list plain.team_port (λ xs. info.TeamPort xs)
port_data_of layer of.Raw = as_bytes (λ bytes. info.Other bytes)

-- the canonical payload of port data
unfoldable pub port_data_payload : {t : Types} → Families t → PortDataOf t → List ℕ
port_data_payload layer (info.BondPort xs) = list_string (map layer.bond_port.attribute xs)
port_data_payload layer (info.BridgePort xs) = list_string (map layer.bridge_port.attribute xs)
port_data_payload layer (info.VrfPort xs) = list_string (map plain.vrf_port.attribute xs)
port_data_payload layer (info.TeamPort xs) = list_string (map plain.team_port.attribute xs)
port_data_payload layer (info.Other bytes) = bytes

-- the canonical attribute of port data
abbrev pub port_data_attribute : {t : Types} → Families t → PortDataOf t → Attribute
port_data_attribute layer d = record { kind = 5; value = port_data_payload layer d }

pub port_known : {t : Types} (layer : Families t) (f : PortFamily) →
    IsKnown (port_data_of layer f)
port_known layer of.Bond = list_is_known layer.bond_port (λ xs. info.BondPort xs)
port_known layer of.Bridge = list_is_known layer.bridge_port (λ xs. info.BridgePort xs)
port_known layer of.Vrf = list_is_known plain.vrf_port (λ xs. info.VrfPort xs)
port_known layer of.Team = list_is_known plain.team_port (λ xs. info.TeamPort xs)
port_known layer of.Raw = λ p. refl

-- ---- beside the layer of the same peer, whose families keep each attribute

-- a layer supplies the family
abbrev pub is_port_supplied : PortFamily → Bool
is_port_supplied of.Bond = true
is_port_supplied of.Bridge = true
is_port_supplied _ = false

-- every other family has the same answers
pub port_equal : {t : Types} (layer : Families t) (f : PortFamily) → is_port_supplied f ≡ false →
    AreEqual (port_data_of layer f) (port_data_of (peer_families layer.peer) f)
port_equal layer of.Bond e = absurd cc
port_equal layer of.Bridge e = absurd cc
port_equal layer of.Vrf e = list_equal plain.vrf_port _ _
port_equal layer of.Team e = list_equal plain.team_port _ _
port_equal layer of.Raw e = bytes_equal _ _

equal_refined : {t : Types} (layer : Families t) (f : PortFamily) → is_port_supplied f ≡ false →
    Refines (port_data_of layer f) (port_data_of (peer_families layer.peer) f)
equal_refined layer f e =
    equal_refines (port_data_of layer f) (port_data_of (peer_families layer.peer) f)
    (port_known layer f) (port_known (peer_families layer.peer) f) (port_equal layer f e)

pub port_refined : {t : Types} (layer : Families t) → IsLayer layer → (f : PortFamily) →
    Refines (port_data_of layer f) (port_data_of (peer_families layer.peer) f)
port_refined layer is of.Bond =
    list_refined layer.bond_port plain.bond_port (opaque_verbatim _ _) is.bond_port.laws _ _
port_refined layer is of.Bridge =
    list_refined layer.bridge_port plain.bridge_port (opaque_verbatim _ _) is.bridge_port.laws _ _
port_refined layer is of.Vrf = equal_refined layer of.Vrf refl
port_refined layer is of.Team = equal_refined layer of.Team refl
port_refined layer is of.Raw = equal_refined layer of.Raw refl
