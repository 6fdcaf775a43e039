-- What the steps of finding the first unmet attribute require, and where they find names.
use Rattle.std.specs.Prelude.{◌+◌, ◌<◌, ◌≤◌, ◌^◌, ◌==◌, ◌&&◌, ℕ, Bool, IsOk, List, []}
use Rattle.std.specs.Prelude.{◌||◌, drop, length}
use Rattle.std.specs.Prelude.{Option, None, Some, Result, Ok, Err, if◌then◌else◌}
use Rattle.nla_frame.specs.Attribute.{Attribute}
use Rattle.nla_frame.specs.Payload.{stripped}
use Rattle.nla_frame.specs.NlaItems.{attribute_at}
use Rattle.nla_frame.specs.declared.error.DecodeError.{DecodeError}
use Rattle.linkinfo_data.specs.DataFamilies.{DataFamilies, DataTypes}
use Rattle.linkinfo.specs.Items.{link_meaning}
use Rattle.linkinfo.specs.Unmet.{Linked, kinds_named}

-- an attribute means something under its kinds, and is in memory as a whole
pub record IsAcceptedLink {L : DataTypes} (layer : DataFamilies L) (link : Linked) : Type 0 where
  pub means : IsOk (link_meaning layer (kinds_named link.named) link.at.nla)
  pub room : link.at.offset + (4 + length link.at.nla.value) < 2 ^ 64

-- what attributes of these types mean depends on a kind: data, statistics and port data
abbrev pub belongs_to_a_kind : ℕ → Bool
belongs_to_a_kind kind = kind == 2 || kind == 3 || kind == 5

-- where the current kind, and the current port kind, is named after an attribute
abbrev pub kind_place : Bool → ℕ → ℕ → Option ℕ → Option ℕ
kind_place is_before kind offset old = if is_before && kind == 1 then Some offset else old

abbrev pub port_place : Bool → ℕ → ℕ → Option ℕ → Option ℕ
port_place is_before kind offset old =
    if is_before
    then (if kind == 4 then Some offset else if kind == 5 then None else old)
    else old

-- an attribute is at an offset, and the name in it
pub record HasAttribute (s : List ℕ) (n : ℕ) : Type 0 where
  pub within : n ≤ length s
  pub attribute : IsOk (attribute_at (drop n s))

abbrev pub name_in : Result Attribute DecodeError → List ℕ
name_in (Ok a) = stripped a.value
name_in (Err e) = []

abbrev pub name_there : List ℕ → ℕ → List ℕ
name_there s n = name_in (attribute_at (drop n s))
