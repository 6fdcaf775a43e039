-- The `==` of the attributes of the list decides equality if the `==` of the contents of each
-- variant does. The equality of data and of port data is given with the layer.
use denote.Enum.Compared.{by, Each}
use denote.Enum.Declared.{Record}
use denote.RattleType.{RattleType}
use mir.Syntax.{Dict}
use Rattle.std.specs.Prelude.{◌≡◌, Bool, false}
use Rattle.std.specs.Bool.{Decides}
use Rattle.std.specs.declared.cmp.PartialEq.{Ghosts as Equal}
use Rattle.std.specs.contracts.cmp.PartialEq.TheBound as equal
use Rattle.nla_frame.specs.Derived.{EachDecides, derived_decides}
use Rattle.nla_frame.specs.declared.exact_eq.ExactEq.{Ghosts as Exact}
use Rattle.nla_frame.specs.contracts.exact_eq.ExactEq.TheBound as exact

-- an enum, by the layer and the types of its data and of its port data
abbrev pub LinkEnum : Type 2
LinkEnum = (layer d q : RattleType) → Record

pub by_variants : (enum : LinkEnum) {layer d q : RattleType}
    {S : Equal layer.Denot} {F : Dict}
    {E1 : Exact d.Denot} {D1 : Dict} {S1 : Equal d.Denot} {F1 : Dict}
    {E2 : Exact q.Denot} {D2 : Dict} {S2 : Equal q.Denot} {F2 : Dict} →
    equal.All layer S F →
    exact.All d E1 D1 S1 F1 →
    exact.All q E2 D2 S2 F2 →
    (tests : Each Bool (enum layer d q).parts) →
    EachDecides (enum layer d q).parts tests →
    (x y : (enum layer d q).D) →
    Decides
    (by false false (enum layer d q).parts tests
    ((enum layer d q).as_values x) ((enum layer d q).as_values y))
    (x ≡ y)
by_variants enum {layer = layer} {d = d} {q = q} _ _ _ tests each x y =
    derived_decides (enum layer d q) tests each x y
