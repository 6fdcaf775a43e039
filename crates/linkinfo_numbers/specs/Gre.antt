-- Written by tables/generate from tables/numbers/gre.
-- GRE tunnels: the values of each type.
use Rattle.std.specs.Prelude.{◌≡◌, ℕ, List, [], ◌∷◌, ◌++◌, codes, refl}
use Rattle.std.specs.Fmt.{decimal}
use Rattle.std.proofs.Common.{inl, inr}
use Rattle.std.proofs.lemmas.Bool.Decides.{Decides-eqb}
use Rattle.bitflags.specs.Sets.{known_bits, known_from}
use Rattle.linkinfo_numbers.specs.declared.gre.GreEncapType.{GreEncapType}
use Rattle.linkinfo_numbers.specs.declared.gre.GreEncapType.TheVariants as encapsulation
use Rattle.linkinfo_numbers.specs.declared.gre.ErSpanDir.{ErSpanDir}
use Rattle.linkinfo_numbers.specs.declared.gre.ErSpanDir.TheVariants as direction
use Rattle.linkinfo_numbers.specs.declared.gre.GreIOFlags.{GreIOFlags}
use Rattle.linkinfo_numbers.specs.declared.gre.GreEncapFlags.{GreEncapFlags}
use Rattle.linkinfo_numbers.specs.Table.{Table, IsTable, by_number, value_of}

-- the number of each value
abbrev pub gre_encap_type_number : GreEncapType → ℕ
gre_encap_type_number encapsulation.None = 0
gre_encap_type_number encapsulation.Fou = 1
gre_encap_type_number encapsulation.Gue = 2
gre_encap_type_number (encapsulation.Other n) = n

abbrev pub gre_encap_type_table : Table ℕ GreEncapType
gre_encap_type_table = by_number gre_encap_type_number encapsulation.Other
    (encapsulation.None ∷ encapsulation.Fou ∷ encapsulation.Gue ∷ [])

-- the value of each number
abbrev pub gre_encap_type : ℕ → GreEncapType
gre_encap_type n = value_of gre_encap_type_table n

pub gre_encap_type_table_holds : IsTable gre_encap_type_table
gre_encap_type_table_holds = record {
  same_decides = Decides-eqb;
  other_key = λ n. refl;
  found = elim [ encapsulation.Other n ↦ inl refl | _ ↦ inr refl ];
  apart = (λ p. cc, (λ p. cc, (λ p. cc, tt)));
}

-- the text of each value
abbrev pub gre_encap_type_text : GreEncapType → List ℕ
gre_encap_type_text encapsulation.None = codes "none"
gre_encap_type_text encapsulation.Fou = codes "fou"
gre_encap_type_text encapsulation.Gue = codes "gue"
gre_encap_type_text (encapsulation.Other n) = codes "other(" ++ decimal n ++ codes ")"

-- the number of each value
abbrev pub er_span_dir_number : ErSpanDir → ℕ
er_span_dir_number direction.Ingress = 0
er_span_dir_number direction.Egress = 1
er_span_dir_number (direction.Other n) = n

abbrev pub er_span_dir_table : Table ℕ ErSpanDir
er_span_dir_table =
    by_number er_span_dir_number direction.Other (direction.Ingress ∷ direction.Egress ∷ [])

-- the value of each number
abbrev pub er_span_dir : ℕ → ErSpanDir
er_span_dir n = value_of er_span_dir_table n

pub er_span_dir_table_holds : IsTable er_span_dir_table
er_span_dir_table_holds = record {
  same_decides = Decides-eqb;
  other_key = λ n. refl;
  found = elim [ direction.Other n ↦ inl refl | _ ↦ inr refl ];
  apart = (λ p. cc, (λ p. cc, tt));
}

-- the text of each value
abbrev pub er_span_dir_text : ErSpanDir → List ℕ
er_span_dir_text direction.Ingress = codes "ingress"
er_span_dir_text direction.Egress = codes "egress"
er_span_dir_text (direction.Other n) = codes "other(" ++ decimal n ++ codes ")"

-- the flags by name, and a last entry without a name that has every bit
abbrev pub gre_io_flags_table : List (List ℕ × ℕ)
gre_io_flags_table =
    (codes "Checksum", 0x8000) ∷
    (codes "Routing", 0x4000) ∷
    (codes "Key", 0x2000) ∷
    (codes "Seq", 0x1000) ∷
    (codes "Strict0", 0x0800) ∷
    (codes "Rec", 0x0700) ∷
    (codes "Ack", 0x0080) ∷
    (codes "Flags", 0x0078) ∷
    (codes "Version", 0x0007) ∷
    (codes "", 0xffff) ∷ []

pub gre_io_flags_known : known_bits gre_io_flags_table ≡ 0xffff
unfolding known_from
gre_io_flags_known = refl

-- the set with these bits
abbrev pub gre_io_flags : ℕ → GreIOFlags
gre_io_flags bits = record { 0 = bits }

-- the flags by name, and a last entry without a name that has every bit
abbrev pub gre_encap_flags_table : List (List ℕ × ℕ)
gre_encap_flags_table =
    (codes "Checksum", 1) ∷
    (codes "Checksum6", 2) ∷
    (codes "RemoteChecksum", 4) ∷
    (codes "", 0xffff) ∷ []

pub gre_encap_flags_known : known_bits gre_encap_flags_table ≡ 0xffff
unfolding known_from
gre_encap_flags_known = refl

-- the set with these bits
abbrev pub gre_encap_flags : ℕ → GreEncapFlags
gre_encap_flags bits = record { 0 = bits }
