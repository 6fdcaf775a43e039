-- The `==` of an enum over a layer decides equality if the `==` of the contents of each variant
-- does. The equality of the values of the types that the layer supplies is given with these types.
use denote.Enum.Compared.{by, Each}
use denote.Enum.Declared.{Record}
use denote.RattleType.{RattleType}
use mir.Syntax.{Dict}
use Rattle.std.specs.Prelude.{◌≡◌, Bool, false}
use Rattle.std.specs.Bool.{Decides}
use Rattle.std.specs.declared.cmp.PartialEq.{Ghosts as Equal}
use Rattle.std.specs.contracts.cmp.PartialEq.TheBound as equal
use Rattle.nla_frame.specs.Derived.{EachDecides, derived_decides}
use Rattle.nla_frame.specs.declared.exact_eq.ExactEq.{Ghosts as Exact}
use Rattle.nla_frame.specs.contracts.exact_eq.ExactEq.TheBound as exact

-- an enum, by the layer and the types that it supplies
abbrev pub LayerEnum : Type 2
LayerEnum = (layer peer bond bridge vlan can hsr dsa tun bond_port bridge_port : RattleType) →
    Record

pub by_variants : (enum : LayerEnum)
    {layer peer bond bridge vlan can hsr dsa tun bond_port bridge_port : RattleType}
    {S : Equal layer.Denot} {F : Dict}
    {E1 : Exact peer.Denot} {D1 : Dict} {S1 : Equal peer.Denot} {F1 : Dict}
    {E2 : Exact bond.Denot} {D2 : Dict} {S2 : Equal bond.Denot} {F2 : Dict}
    {E3 : Exact bridge.Denot} {D3 : Dict} {S3 : Equal bridge.Denot} {F3 : Dict}
    {E4 : Exact vlan.Denot} {D4 : Dict} {S4 : Equal vlan.Denot} {F4 : Dict}
    {E5 : Exact can.Denot} {D5 : Dict} {S5 : Equal can.Denot} {F5 : Dict}
    {E6 : Exact hsr.Denot} {D6 : Dict} {S6 : Equal hsr.Denot} {F6 : Dict}
    {E7 : Exact dsa.Denot} {D7 : Dict} {S7 : Equal dsa.Denot} {F7 : Dict}
    {E8 : Exact tun.Denot} {D8 : Dict} {S8 : Equal tun.Denot} {F8 : Dict}
    {E9 : Exact bond_port.Denot} {D9 : Dict} {S9 : Equal bond_port.Denot} {F9 : Dict}
    {E10 : Exact bridge_port.Denot} {D10 : Dict} {S10 : Equal bridge_port.Denot} {F10 : Dict} →
    equal.All layer S F →
    exact.All peer E1 D1 S1 F1 →
    exact.All bond E2 D2 S2 F2 →
    exact.All bridge E3 D3 S3 F3 →
    exact.All vlan E4 D4 S4 F4 →
    exact.All can E5 D5 S5 F5 →
    exact.All hsr E6 D6 S6 F6 →
    exact.All dsa E7 D7 S7 F7 →
    exact.All tun E8 D8 S8 F8 →
    exact.All bond_port E9 D9 S9 F9 →
    exact.All bridge_port E10 D10 S10 F10 →
    (tests : Each Bool
    (enum layer peer bond bridge vlan can hsr dsa tun bond_port bridge_port).parts) →
    EachDecides (enum layer peer bond bridge vlan can hsr dsa tun bond_port bridge_port).parts tests
    →
    (x y : (enum layer peer bond bridge vlan can hsr dsa tun bond_port bridge_port).D) →
    Decides
    (by false false (enum layer peer bond bridge vlan can hsr dsa tun bond_port bridge_port).parts
    tests
    ((enum layer peer bond bridge vlan can hsr dsa tun bond_port bridge_port).as_values x)
    ((enum layer peer bond bridge vlan can hsr dsa tun bond_port bridge_port).as_values y))
    (x ≡ y)
by_variants enum {layer = layer} {peer = peer} {bond = bond} {bridge = bridge} {vlan = vlan}
    {can = can} {hsr = hsr} {dsa = dsa} {tun = tun} {bond_port = bond_port}
    {bridge_port = bridge_port} _ _ _ _ _ _ _ _ _ _ _ tests each x y =
    derived_decides (enum layer peer bond bridge vlan can hsr dsa tun bond_port bridge_port)
    tests each x y
