-- Written by tables/generate from tables/rmnet.
-- The rows of `rmnet` links.
use Rattle.std.specs.Prelude.{ℕ, List, [], ◌∷◌, refl}
use Rattle.nla_frame.specs.Attribute.{Attribute}
use Rattle.nla_frame.specs.Kept.{attribute_of}
use Rattle.linkinfo_table.specs.FamilyRows.{PlainRow, row, typed, EachKeeps}
use Rattle.linkinfo_shapes.specs.declared.shape.Shape.TheVariants.{Le16, FlagPair}
use Rattle.linkinfo_numbers.specs.Rmnet.{rm_net_flags}
use Rattle.linkinfo_numbers.specs.declared.rmnet.InfoRmNetFlags.{InfoRmNetFlags}
use Rattle.linkinfo_table.specs.Labels.{each_keeps}
use Rattle.linkinfo_devices.specs.declared.rmnet.InfoRmNet.{InfoRmNet}
use Rattle.linkinfo_devices.specs.declared.rmnet.InfoRmNet.TheVariants.{MuxId, Flags, Other}

-- both sets of their numbers
abbrev pub both_sets : ℕ × ℕ → InfoRmNetFlags
both_sets pair = record { flags = rm_net_flags pair.0; mask = rm_net_flags pair.1 }

abbrev pub rm_net_rows : List (PlainRow InfoRmNet)
rm_net_rows =
    row 1 Le16 (λ n. MuxId n) ∷
    row 2 FlagPair (λ pair. Flags (both_sets pair)) ∷
    []

abbrev pub rm_net_attribute : InfoRmNet → Attribute
rm_net_attribute (MuxId n) = typed 1 Le16 n
rm_net_attribute (Flags x) = typed 2 FlagPair (x.flags.0, x.mask.0)
rm_net_attribute (Other nla) = attribute_of nla

pub rm_net_keeps : EachKeeps rm_net_attribute rm_net_rows
rm_net_keeps = each_keeps rm_net_attribute rm_net_rows refl
    (λ n. refl, (λ pair. refl, tt))
