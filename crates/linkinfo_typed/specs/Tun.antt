-- Written by tables/generate from tables/tun.
-- The rows of `tun` links.
use Rattle.std.specs.Prelude.{List, [], ◌∷◌, refl}
use Rattle.std.proofs.Common.{ap}
use Rattle.nla_frame.specs.Attribute.{Attribute}
use Rattle.nla_frame.specs.Kept.{attribute_of}
use Rattle.nla_frame.specs.Pairs.{◌&◌}
use Rattle.linkinfo_table.specs.FamilyRows.{PlainRow, row, typed, EachKeeps}
use Rattle.linkinfo_shapes.specs.declared.shape.Shape.TheVariants.{Le32, U8, Truth}
use Rattle.linkinfo_numbers.specs.Table.{key-value_of}
use Rattle.linkinfo_numbers.specs.Tun.{tun_type, tun_type_number, tun_type_table_holds}
use Rattle.linkinfo_table.specs.Labels.{each_keeps}
use Rattle.linkinfo_typed.specs.declared.tun.InfoTun.{InfoTun}
use Rattle.linkinfo_typed.specs.declared.tun.InfoTun.TheVariants.{
  Owner,
  Group,
  «Type»,
  Pi,
  VnetHdr,
  Persist,
  MultiQueue,
  NumQueues,
  NumDisabledQueues,
  Other,
}

abbrev pub tun_rows : List (PlainRow InfoTun)
tun_rows =
    row 1 Le32 (λ n. Owner n) ∷
    row 2 Le32 (λ n. Group n) ∷
    row 3 U8 (λ n. «Type» (tun_type n)) ∷
    row 4 Truth (λ b. Pi b) ∷
    row 5 Truth (λ b. VnetHdr b) ∷
    row 6 Truth (λ b. Persist b) ∷
    row 7 Truth (λ b. MultiQueue b) ∷
    row 8 Le32 (λ n. NumQueues n) ∷
    row 9 Le32 (λ n. NumDisabledQueues n) ∷
    []

abbrev pub tun_attribute : InfoTun → Attribute
tun_attribute (Owner n) = typed 1 Le32 n
tun_attribute (Group n) = typed 2 Le32 n
tun_attribute («Type» device) = typed 3 U8 (tun_type_number device)
tun_attribute (Pi b) = typed 4 Truth b
tun_attribute (VnetHdr b) = typed 5 Truth b
tun_attribute (Persist b) = typed 6 Truth b
tun_attribute (MultiQueue b) = typed 7 Truth b
tun_attribute (NumQueues n) = typed 8 Le32 n
tun_attribute (NumDisabledQueues n) = typed 9 Le32 n
tun_attribute (Other nla) = attribute_of nla

pub tun_keeps : EachKeeps tun_attribute tun_rows
tun_keeps = each_keeps tun_attribute tun_rows refl
    ((λ n. refl)
    & (λ n. refl)
    & (λ n. ap (typed 3 U8) (key-value_of tun_type_table_holds n))
    & (λ b. refl)
    & (λ b. refl)
    & (λ b. refl)
    & (λ b. refl)
    & (λ n. refl)
    & (λ n. refl)
    & tt)
