-- Written by tables/generate from tables/gtp.
-- The rows of `gtp` links.
use Rattle.std.specs.Prelude.{List, [], ◌∷◌, refl}
use Rattle.std.proofs.Common.{ap}
use Rattle.nla_frame.specs.Attribute.{Attribute}
use Rattle.nla_frame.specs.Kept.{attribute_of}
use Rattle.nla_frame.specs.Pairs.{◌&◌}
use Rattle.linkinfo_table.specs.FamilyRows.{PlainRow, row, typed, EachKeeps}
use Rattle.linkinfo_shapes.specs.declared.shape.Shape.TheVariants.{Le32, Truth, U8, V4, V6}
use Rattle.linkinfo_numbers.specs.Table.{key-value_of}
use Rattle.linkinfo_numbers.specs.Gtp.{gtp_role, gtp_role_number, gtp_role_table_holds}
use Rattle.linkinfo_table.specs.Labels.{each_keeps}
use Rattle.linkinfo_tunnels.specs.declared.gtp.InfoGtp.{InfoGtp}
use Rattle.linkinfo_tunnels.specs.declared.gtp.InfoGtp.TheVariants.{
  Fd0,
  Fd1,
  PdpHashsize,
  Role,
  CreateSockets,
  RestartCount,
  Local,
  Local6,
  Other,
}

abbrev pub gtp_rows : List (PlainRow InfoGtp)
gtp_rows =
    row 1 Le32 (λ n. Fd0 n) ∷
    row 2 Le32 (λ n. Fd1 n) ∷
    row 3 Le32 (λ n. PdpHashsize n) ∷
    row 4 Le32 (λ n. Role (gtp_role n)) ∷
    row 5 Truth (λ b. CreateSockets b) ∷
    row 6 U8 (λ n. RestartCount n) ∷
    row 7 V4 (λ a. Local a) ∷
    row 8 V6 (λ a. Local6 a) ∷
    []

abbrev pub gtp_attribute : InfoGtp → Attribute
gtp_attribute (Fd0 n) = typed 1 Le32 n
gtp_attribute (Fd1 n) = typed 2 Le32 n
gtp_attribute (PdpHashsize n) = typed 3 Le32 n
gtp_attribute (Role role) = typed 4 Le32 (gtp_role_number role)
gtp_attribute (CreateSockets b) = typed 5 Truth b
gtp_attribute (RestartCount n) = typed 6 U8 n
gtp_attribute (Local a) = typed 7 V4 a
gtp_attribute (Local6 a) = typed 8 V6 a
gtp_attribute (Other nla) = attribute_of nla

pub gtp_keeps : EachKeeps gtp_attribute gtp_rows
gtp_keeps = each_keeps gtp_attribute gtp_rows refl
    ((λ n. refl)
    & (λ n. refl)
    & (λ n. refl)
    & (λ n. ap (typed 4 Le32) (key-value_of gtp_role_table_holds n))
    & (λ b. refl)
    & (λ n. refl)
    & (λ a. refl)
    & (λ a. refl)
    & tt)
