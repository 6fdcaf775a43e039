-- Written by tables/generate from tables/numbers/vxlan.
-- VXLAN tunnels: the values of each type.
use Rattle.std.specs.Prelude.{ℕ, List, [], ◌∷◌, codes, refl}
use Rattle.std.specs.Fmt.{decimal}
use Rattle.std.proofs.Common.{inl, inr}
use Rattle.std.proofs.lemmas.Bool.Decides.{Decides-eqb}
use Rattle.linkinfo_numbers.specs.declared.vxlan.VxlanDf.{VxlanDf}
use Rattle.linkinfo_numbers.specs.declared.vxlan.VxlanDf.TheVariants as df
use Rattle.linkinfo_numbers.specs.Table.{Table, IsTable, by_number, value_of}

-- the number of each value
abbrev pub vxlan_df_number : VxlanDf → ℕ
vxlan_df_number df.Unset = 0
vxlan_df_number df.Set = 1
vxlan_df_number df.Inherit = 2
vxlan_df_number (df.Other n) = n

abbrev pub vxlan_df_table : Table ℕ VxlanDf
vxlan_df_table = by_number vxlan_df_number df.Other (df.Unset ∷ df.Set ∷ df.Inherit ∷ [])

-- the value of each number
abbrev pub vxlan_df : ℕ → VxlanDf
vxlan_df n = value_of vxlan_df_table n

pub vxlan_df_table_holds : IsTable vxlan_df_table
vxlan_df_table_holds = record {
  same_decides = Decides-eqb;
  other_key = λ n. refl;
  found = elim [ df.Other n ↦ inl refl | _ ↦ inr refl ];
  apart = (λ p. cc, (λ p. cc, (λ p. cc, tt)));
}

-- the text of each value
abbrev pub vxlan_df_text : VxlanDf → List ℕ
vxlan_df_text df.Unset = codes "unset"
vxlan_df_text df.Set = codes "set"
vxlan_df_text df.Inherit = codes "inherit"
vxlan_df_text (df.Other n) = decimal n
