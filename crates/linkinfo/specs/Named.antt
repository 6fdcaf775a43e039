-- Names of the families of data, and shapes of its attributes, over the typed layer.
use Rattle.std.specs.Prelude.{ℕ, ◌==◌, if◌then◌else◌, Option, Some, None}
use Rattle.nla_frame.specs.declared.bytes.Bytes.{Bytes}
use Rattle.nla_frame.specs.declared.error.Family.{Family}
use Rattle.nla_frame.specs.declared.error.Family.TheVariants as family
use Rattle.linkinfo_numbers.specs.declared.tags.KindTag.{KindTag}
use Rattle.linkinfo_numbers.specs.declared.tags.KindTag.TheVariants as kind
use Rattle.linkinfo_shapes.specs.Typed.{typed_shape_of}
use Rattle.linkinfo_shapes.specs.declared.shape.Shape.{Shape}
use Rattle.linkinfo_shapes.specs.declared.shape.Shape.TheVariants.{Be16, Le32}
use Rattle.linkinfo_table.specs.Layers.{Families}
use Rattle.linkinfo_data.specs.Plain.{plain}
use Rattle.linkinfo_data.specs.TypedTypes.{typed_families, typed_types}

-- the families that the typed layer supplies
abbrev pub typed_data : Families (typed_types Bytes)
typed_data = typed_families plain.bytes_peer

-- the shape of the tunnel flags, by the kind
abbrev pub flags_shape : Option KindTag → Option Shape
flags_shape (Some kind.IpIp) = Some Be16
flags_shape (Some kind.SitTun) = Some Be16
flags_shape (Some kind.Ip6Tnl) = Some Le32
flags_shape _ = None

-- the shape of a masked type in attributes of a family in data of a kind, if it has one
abbrev pub shape_under : Option KindTag → Family → ℕ → Option Shape
shape_under tag family.IpTunnel n =
    if n == 8 then flags_shape tag else typed_shape_of family.IpTunnel n
shape_under tag f n = typed_shape_of f n
