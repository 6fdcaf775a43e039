-- Written by tables/generate from tables/hsr.
-- Which attributes are well formed, by the variant of each, in the data of
-- `hsr` links.
use Rattle.std.specs.Prelude.{◌≡◌, ◌↔◌, ◌<◌, ◌^◌, Bool, true, false, length, refl}
use Rattle.std.proofs.Common.{subst}
use Rattle.nla_frame.specs.Attribute.{IsBytes}
use Rattle.linkinfo_numbers.specs.Table.{IsNumber, number_label}
use Rattle.linkinfo_table.specs.Conditions.{IsUnknown, are_typed, unknown_label}
use Rattle.linkinfo_table.specs.FamilyRows.{row_of, table_row}
use Rattle.linkinfo_table.specs.Rows.{WellFormed}
use Rattle.linkinfo_numbers.specs.Hsr.{hsr_protocol_table, hsr_protocol_table_holds}
use Rattle.linkinfo_typed.specs.Hsr.{hsr_attribute, hsr_rows}
use Rattle.linkinfo_typed.specs.declared.hsr.InfoHsr.{InfoHsr}
use Rattle.linkinfo_typed.specs.declared.hsr.InfoHsr.TheVariants as hsr

abbrev pub hsr_conditions : InfoHsr → Type 0
hsr_conditions (hsr.Port1 n) = n < 2 ^ 32
hsr_conditions (hsr.Port2 n) = n < 2 ^ 32
hsr_conditions (hsr.MulticastSpec n) = n < 256
hsr_conditions (hsr.SupervisionAddr a) = (length a ≡ 6) × IsBytes a
hsr_conditions (hsr.SeqNr n) = n < 2 ^ 16
hsr_conditions (hsr.Version n) = n < 256
hsr_conditions (hsr.Protocol x) = IsNumber hsr_protocol_table 256 x
hsr_conditions (hsr.Interlink n) = n < 2 ^ 32
hsr_conditions (hsr.Other d) = IsUnknown hsr_rows d

abbrev hsr_is_other : InfoHsr → Bool
hsr_is_other (hsr.Other d) = true
hsr_is_other _ = false

pub hsr_stated : (x : InfoHsr) → WellFormed (λ d. hsr.Other d) hsr_attribute
    (λ n. row_of (table_row hsr_rows n)) x ↔ hsr_conditions x
unfolding WellFormed
hsr_stated = elim [
  | hsr.Protocol x ↦ number_label hsr_protocol_table_holds 256
      (λ y. hsr.Protocol y) hsr_conditions (λ _ is. is) (λ _ is. is) x
  | hsr.Other d ↦ unknown_label (λ z. hsr.Other z) hsr_attribute hsr_rows hsr_is_other
      (λ _. refl) (λ _. refl) (are_typed hsr_is_other hsr_rows refl) d
  | _ ↦ (λ w. subst hsr_conditions w.2 w.1, λ h. (_, h, refl))
]
