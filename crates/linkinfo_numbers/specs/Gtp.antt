-- Written by tables/generate from tables/numbers/gtp.
-- GTP tunnels: the values of each type.
use Rattle.std.specs.Prelude.{ℕ, List, [], ◌∷◌, ◌++◌, codes, refl}
use Rattle.std.specs.Fmt.{decimal}
use Rattle.std.proofs.Common.{inl, inr}
use Rattle.std.proofs.lemmas.Bool.Decides.{Decides-eqb}
use Rattle.linkinfo_numbers.specs.declared.gtp.GtpRole.{GtpRole}
use Rattle.linkinfo_numbers.specs.declared.gtp.GtpRole.TheVariants as role
use Rattle.linkinfo_numbers.specs.Table.{Table, IsTable, by_number, value_of}

-- the number of each value
abbrev pub gtp_role_number : GtpRole → ℕ
gtp_role_number role.Ggsn = 0
gtp_role_number role.Sgsn = 1
gtp_role_number (role.Other n) = n

abbrev pub gtp_role_table : Table ℕ GtpRole
gtp_role_table = by_number gtp_role_number role.Other (role.Ggsn ∷ role.Sgsn ∷ [])

-- the value of each number
abbrev pub gtp_role : ℕ → GtpRole
gtp_role n = value_of gtp_role_table n

pub gtp_role_table_holds : IsTable gtp_role_table
gtp_role_table_holds = record {
  same_decides = Decides-eqb;
  other_key = λ n. refl;
  found = elim [ role.Other n ↦ inl refl | _ ↦ inr refl ];
  apart = (λ p. cc, (λ p. cc, tt));
}

-- the text of each value
abbrev pub gtp_role_text : GtpRole → List ℕ
gtp_role_text role.Ggsn = codes "ggsn"
gtp_role_text role.Sgsn = codes "sgsn"
gtp_role_text (role.Other n) = codes "unknown(" ++ decimal n ++ codes ")"
