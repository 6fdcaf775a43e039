-- Written by tables/generate from tables/bondadinfo.
-- Which attributes are well formed, by the variant of each, inside
-- `IFLA_BOND_AD_INFO` of a `bond` link.
use Rattle.std.specs.Prelude.{◌≡◌, ◌↔◌, ◌<◌, ◌^◌, Bool, true, false, length, refl}
use Rattle.std.proofs.Common.{subst}
use Rattle.nla_frame.specs.Attribute.{IsBytes}
use Rattle.linkinfo_table.specs.Conditions.{IsUnknown, are_typed, unknown_label}
use Rattle.linkinfo_table.specs.FamilyRows.{row_of, table_row}
use Rattle.linkinfo_table.specs.Rows.{WellFormed}
use Rattle.linkinfo_typed.specs.BondAdInfo.{bond_ad_info_attribute, bond_ad_info_rows}
use Rattle.linkinfo_typed.specs.declared.bond_ad_info.BondAdInfo.{BondAdInfo}
use Rattle.linkinfo_typed.specs.declared.bond_ad_info.BondAdInfo.TheVariants as bond_ad_info

abbrev pub bond_ad_info_conditions : BondAdInfo → Type 0
bond_ad_info_conditions (bond_ad_info.Aggregator n) = n < 2 ^ 16
bond_ad_info_conditions (bond_ad_info.NumPorts n) = n < 2 ^ 16
bond_ad_info_conditions (bond_ad_info.ActorKey n) = n < 2 ^ 16
bond_ad_info_conditions (bond_ad_info.PartnerKey n) = n < 2 ^ 16
bond_ad_info_conditions (bond_ad_info.PartnerMac a) = (length a ≡ 6) × IsBytes a
bond_ad_info_conditions (bond_ad_info.Other d) = IsUnknown bond_ad_info_rows d

abbrev bond_ad_info_is_other : BondAdInfo → Bool
bond_ad_info_is_other (bond_ad_info.Other d) = true
bond_ad_info_is_other _ = false

pub bond_ad_info_stated : (x : BondAdInfo) →
    WellFormed (λ d. bond_ad_info.Other d) bond_ad_info_attribute
    (λ n. row_of (table_row bond_ad_info_rows n)) x ↔ bond_ad_info_conditions x
unfolding WellFormed
bond_ad_info_stated = elim [
  | bond_ad_info.Other d ↦ unknown_label (λ z. bond_ad_info.Other z) bond_ad_info_attribute
      bond_ad_info_rows bond_ad_info_is_other (λ _. refl) (λ _. refl)
      (are_typed bond_ad_info_is_other bond_ad_info_rows refl) d
  | _ ↦ (λ w. subst bond_ad_info_conditions w.2 w.1, λ h. (_, h, refl))
]
