-- Written by tables/generate from tables/uses.
-- How the kernel uses each type of attributes.
use Rattle.std.specs.Prelude.{
  ℕ,
  ◌==◌,
  if◌then◌else◌,
  List,
  [],
  ◌∷◌,
  Option,
  Some,
  None,
}
use Rattle.nla_frame.specs.declared.error.Family.{Family}
use Rattle.nla_frame.specs.declared.error.Family.TheVariants as family
use Rattle.linkinfo_names.specs.Names.{attribute_name}
use Rattle.linkinfo_names.specs.declared.usage.AttributeUse.{AttributeUse}
use Rattle.linkinfo_names.specs.declared.usage.AttributeUse.TheVariants.{
  Command,
  NeverReturned,
  ReadOnly,
  ReadWrite,
}

abbrev pub link_info_uses : List (ℕ × AttributeUse)
link_info_uses =
    (3, ReadOnly) ∷
    []

abbrev pub amt_uses : List (ℕ × AttributeUse)
amt_uses =
    (6, ReadOnly) ∷
    []

abbrev pub bat_adv_uses : List (ℕ × AttributeUse)
bat_adv_uses =
    (1, NeverReturned) ∷
    []

abbrev pub gtp_uses : List (ℕ × AttributeUse)
gtp_uses =
    (1, NeverReturned) ∷
    (2, NeverReturned) ∷
    (5, NeverReturned) ∷
    (7, NeverReturned) ∷
    (8, NeverReturned) ∷
    []

abbrev pub mac_vlan_uses : List (ℕ × AttributeUse)
mac_vlan_uses =
    (3, Command) ∷
    (6, ReadOnly) ∷
    (8, ReadOnly) ∷
    []

abbrev pub mac_sec_uses : List (ℕ × AttributeUse)
mac_sec_uses =
    (2, NeverReturned) ∷
    []

abbrev pub netkit_uses : List (ℕ × AttributeUse)
netkit_uses =
    (1, NeverReturned) ∷
    (2, ReadOnly) ∷
    []

abbrev pub veth_uses : List (ℕ × AttributeUse)
veth_uses =
    (1, NeverReturned) ∷
    []

abbrev pub vxlan_uses : List (ℕ × AttributeUse)
vxlan_uses =
    (34, NeverReturned) ∷
    []

abbrev pub bond_uses : List (ℕ × AttributeUse)
bond_uses =
    (23, ReadOnly) ∷
    []

abbrev pub bond_port_uses : List (ℕ × AttributeUse)
bond_port_uses =
    (1, ReadOnly) ∷
    (2, ReadOnly) ∷
    (3, ReadOnly) ∷
    (4, ReadOnly) ∷
    (6, ReadOnly) ∷
    (7, ReadOnly) ∷
    (8, ReadOnly) ∷
    (11, ReadOnly) ∷
    (12, ReadOnly) ∷
    []

abbrev pub bridge_uses : List (ℕ × AttributeUse)
bridge_uses =
    (10, ReadOnly) ∷
    (11, ReadOnly) ∷
    (12, ReadOnly) ∷
    (13, ReadOnly) ∷
    (14, ReadOnly) ∷
    (15, ReadOnly) ∷
    (16, ReadOnly) ∷
    (17, ReadOnly) ∷
    (18, ReadOnly) ∷
    (19, ReadOnly) ∷
    (21, Command) ∷
    (26, ReadOnly) ∷
    (47, ReadOnly) ∷
    (48, ReadOnly) ∷
    []

abbrev pub bridge_port_uses : List (ℕ × AttributeUse)
bridge_port_uses =
    (11, NeverReturned) ∷
    (13, ReadOnly) ∷
    (14, ReadOnly) ∷
    (15, ReadOnly) ∷
    (16, ReadOnly) ∷
    (17, ReadOnly) ∷
    (18, ReadOnly) ∷
    (19, ReadOnly) ∷
    (20, ReadOnly) ∷
    (21, ReadOnly) ∷
    (22, ReadOnly) ∷
    (23, ReadOnly) ∷
    (24, Command) ∷
    (35, ReadOnly) ∷
    (36, ReadOnly) ∷
    (38, ReadOnly) ∷
    (41, ReadOnly) ∷
    []

abbrev pub can_uses : List (ℕ × AttributeUse)
can_uses =
    (2, ReadOnly) ∷
    (3, ReadOnly) ∷
    (4, ReadOnly) ∷
    (7, Command) ∷
    (8, ReadOnly) ∷
    (10, ReadOnly) ∷
    (12, ReadOnly) ∷
    (13, ReadOnly) ∷
    (14, ReadOnly) ∷
    (15, ReadOnly) ∷
    (17, ReadOnly) ∷
    (19, ReadOnly) ∷
    (20, ReadOnly) ∷
    []

abbrev pub hsr_uses : List (ℕ × AttributeUse)
hsr_uses =
    (3, NeverReturned) ∷
    (4, ReadOnly) ∷
    (5, ReadOnly) ∷
    []

abbrev pub tun_uses : List (ℕ × AttributeUse)
tun_uses =
    (1, ReadOnly) ∷
    (2, ReadOnly) ∷
    (3, ReadOnly) ∷
    (4, ReadOnly) ∷
    (5, ReadOnly) ∷
    (6, ReadOnly) ∷
    (7, ReadOnly) ∷
    (8, ReadOnly) ∷
    (9, ReadOnly) ∷
    []

abbrev pub bond_ad_info_uses : List (ℕ × AttributeUse)
bond_ad_info_uses =
    (1, ReadOnly) ∷
    (2, ReadOnly) ∷
    (3, ReadOnly) ∷
    (4, ReadOnly) ∷
    (5, ReadOnly) ∷
    []

abbrev pub bridge_querier_state_uses : List (ℕ × AttributeUse)
bridge_querier_state_uses =
    (1, ReadOnly) ∷
    (2, ReadOnly) ∷
    (3, ReadOnly) ∷
    (5, ReadOnly) ∷
    (6, ReadOnly) ∷
    (7, ReadOnly) ∷
    []

abbrev pub can_tdc_uses : List (ℕ × AttributeUse)
can_tdc_uses =
    (1, ReadOnly) ∷
    (2, ReadOnly) ∷
    (3, ReadOnly) ∷
    (4, ReadOnly) ∷
    (5, ReadOnly) ∷
    (6, ReadOnly) ∷
    []

abbrev pub can_ctrl_mode_ext_uses : List (ℕ × AttributeUse)
can_ctrl_mode_ext_uses =
    (1, ReadOnly) ∷
    []

abbrev pub can_pwm_uses : List (ℕ × AttributeUse)
can_pwm_uses =
    (1, ReadOnly) ∷
    (2, ReadOnly) ∷
    (3, ReadOnly) ∷
    (4, ReadOnly) ∷
    (5, ReadOnly) ∷
    (6, ReadOnly) ∷
    []

abbrev pub ppp_uses : List (ℕ × AttributeUse)
ppp_uses =
    (1, NeverReturned) ∷
    []

-- of a family: the types that not both a request sets and a reply has
abbrev pub uses_of : Family → List (ℕ × AttributeUse)
uses_of family.LinkInfo = link_info_uses
uses_of family.Amt = amt_uses
uses_of family.BatAdv = bat_adv_uses
uses_of family.Gtp = gtp_uses
uses_of family.MacVlan = mac_vlan_uses
uses_of family.MacVtap = mac_vlan_uses
uses_of family.MacSec = mac_sec_uses
uses_of family.Netkit = netkit_uses
uses_of family.Veth = veth_uses
uses_of family.Vxcan = veth_uses
uses_of family.Vxlan = vxlan_uses
uses_of family.Bond = bond_uses
uses_of family.BondPort = bond_port_uses
uses_of family.Bridge = bridge_uses
uses_of family.BridgePort = bridge_port_uses
uses_of family.Can = can_uses
uses_of family.Hsr = hsr_uses
uses_of family.Tun = tun_uses
uses_of family.BondAdInfo = bond_ad_info_uses
uses_of family.BridgeQuerierState = bridge_querier_state_uses
uses_of family.CanTdc = can_tdc_uses
uses_of family.CanCtrlModeExt = can_ctrl_mode_ext_uses
uses_of family.CanPwm = can_pwm_uses
uses_of family.Ppp = ppp_uses
uses_of _ = []

-- the use in the row of a type, if there is one
abbrev pub use_among : List (ℕ × AttributeUse) → ℕ → Option AttributeUse
use_among [] number = None
use_among (row ∷ rows) number = if number == row.0 then Some row.1 else use_among rows number

abbrev pub use_apart : Family → ℕ → Option AttributeUse
use_apart f number = use_among (uses_of f) number

-- the use of a type with a name: that in its row, or else a request sets it and a reply has it
abbrev pub use_of : Option (List ℕ) → Option AttributeUse → Option AttributeUse
use_of None apart = None
use_of (Some name) None = Some ReadWrite
use_of (Some name) (Some how) = Some how

abbrev pub attribute_use : Family → ℕ → Option AttributeUse
attribute_use f number = use_of (attribute_name f number) (use_apart f number)
