-- Written by tables/generate from tables/bondadinfo.
-- The rows of `IFLA_BOND_AD_INFO` of a `bond` link.
use Rattle.std.specs.Prelude.{false, List, [], ◌∷◌, refl}
use Rattle.nla_frame.specs.Attribute.{Attribute}
use Rattle.nla_frame.specs.Kept.{attribute_of}
use Rattle.nla_frame.specs.declared.error.Family.TheVariants as family
use Rattle.linkinfo_table.specs.ByRows.{members_with, table_is_family}
use Rattle.linkinfo_table.specs.Contents.{single_value}
use Rattle.linkinfo_table.specs.FamilyRows.{PlainRow, row, table_row, typed, EachKeeps}
use Rattle.linkinfo_table.specs.Members.{IsFamily, Members}
use Rattle.linkinfo_shapes.specs.declared.shape.Shape.TheVariants.{Le16, Mac}
use Rattle.linkinfo_table.specs.Labels.{each_keeps}
use Rattle.linkinfo_typed.specs.declared.bond_ad_info.BondAdInfo.{BondAdInfo}
use Rattle.linkinfo_typed.specs.declared.bond_ad_info.BondAdInfo.TheVariants.{
  Aggregator,
  NumPorts,
  ActorKey,
  PartnerKey,
  PartnerMac,
  Other,
}

abbrev pub bond_ad_info_rows : List (PlainRow BondAdInfo)
bond_ad_info_rows =
    row 1 Le16 (λ n. Aggregator n) ∷
    row 2 Le16 (λ n. NumPorts n) ∷
    row 3 Le16 (λ n. ActorKey n) ∷
    row 4 Le16 (λ n. PartnerKey n) ∷
    row 5 Mac (λ a. PartnerMac a) ∷
    []

abbrev pub bond_ad_info_attribute : BondAdInfo → Attribute
bond_ad_info_attribute (Aggregator n) = typed 1 Le16 n
bond_ad_info_attribute (NumPorts n) = typed 2 Le16 n
bond_ad_info_attribute (ActorKey n) = typed 3 Le16 n
bond_ad_info_attribute (PartnerKey n) = typed 4 Le16 n
bond_ad_info_attribute (PartnerMac a) = typed 5 Mac a
bond_ad_info_attribute (Other nla) = attribute_of nla

pub bond_ad_info_keeps : EachKeeps bond_ad_info_attribute bond_ad_info_rows
bond_ad_info_keeps = each_keeps bond_ad_info_attribute bond_ad_info_rows refl
    (λ n. refl, (λ n. refl, (λ n. refl, (λ n. refl, (λ a. refl, tt)))))

-- what the family defines, and that it is lawful
abbrev pub bond_ad_info_members : Members BondAdInfo
bond_ad_info_members =
    members_with family.BondAdInfo (λ d. Other d) bond_ad_info_attribute
    (λ n. table_row bond_ad_info_rows n) (λ _. 0) (λ _. single_value) false

pub bond_ad_info_lawful : IsFamily bond_ad_info_members
bond_ad_info_lawful =
    table_is_family family.BondAdInfo (λ d. Other d) bond_ad_info_attribute
    bond_ad_info_rows bond_ad_info_keeps (λ _. refl)
