-- Written by tables/generate from tables/numbers/tunnel.
-- IP tunnels: the values of each type.
use Rattle.std.specs.Prelude.{◌≡◌, ℕ, List, [], ◌∷◌, codes, refl}
use Rattle.std.specs.Fmt.{decimal}
use Rattle.std.proofs.Common.{inl, inr}
use Rattle.std.proofs.lemmas.Bool.Decides.{Decides-eqb}
use Rattle.bitflags.specs.Sets.{known_bits, known_from}
use Rattle.linkinfo_numbers.specs.declared.tunnel.TunnelEncapType.{TunnelEncapType}
use Rattle.linkinfo_numbers.specs.declared.tunnel.TunnelEncapType.TheVariants as encapsulation
use Rattle.linkinfo_numbers.specs.declared.tunnel.TunnelEncapFlags.{TunnelEncapFlags}
use Rattle.linkinfo_numbers.specs.declared.tunnel.Ip6TunnelFlags.{Ip6TunnelFlags}
use Rattle.linkinfo_numbers.specs.Table.{Table, IsTable, by_number, value_of}

-- the number of each value
abbrev pub tunnel_encap_type_number : TunnelEncapType → ℕ
tunnel_encap_type_number encapsulation.None = 0
tunnel_encap_type_number encapsulation.Fou = 1
tunnel_encap_type_number encapsulation.Gue = 2
tunnel_encap_type_number encapsulation.Mpls = 3
tunnel_encap_type_number (encapsulation.Other n) = n

abbrev pub tunnel_encap_type_table : Table ℕ TunnelEncapType
tunnel_encap_type_table = by_number tunnel_encap_type_number encapsulation.Other
    (encapsulation.None ∷ encapsulation.Fou ∷ encapsulation.Gue ∷ encapsulation.Mpls ∷ [])

-- the value of each number
abbrev pub tunnel_encap_type : ℕ → TunnelEncapType
tunnel_encap_type n = value_of tunnel_encap_type_table n

pub tunnel_encap_type_table_holds : IsTable tunnel_encap_type_table
tunnel_encap_type_table_holds = record {
  same_decides = Decides-eqb;
  other_key = λ n. refl;
  found = elim [ encapsulation.Other n ↦ inl refl | _ ↦ inr refl ];
  apart = (λ p. cc, (λ p. cc, (λ p. cc, (λ p. cc, tt))));
}

-- the text of each value
abbrev pub tunnel_encap_type_text : TunnelEncapType → List ℕ
tunnel_encap_type_text encapsulation.None = codes "none"
tunnel_encap_type_text encapsulation.Fou = codes "fou"
tunnel_encap_type_text encapsulation.Gue = codes "gue"
tunnel_encap_type_text encapsulation.Mpls = codes "mpls"
tunnel_encap_type_text (encapsulation.Other n) = decimal n

-- the flags by name, and a last entry without a name that has every bit
abbrev pub tunnel_encap_flags_table : List (List ℕ × ℕ)
tunnel_encap_flags_table =
    (codes "CSum", 1) ∷
    (codes "CSum6", 2) ∷
    (codes "RemCSum", 4) ∷
    (codes "", 0xffff) ∷ []

pub tunnel_encap_flags_known : known_bits tunnel_encap_flags_table ≡ 0xffff
unfolding known_from
tunnel_encap_flags_known = refl

-- the set with these bits
abbrev pub tunnel_encap_flags : ℕ → TunnelEncapFlags
tunnel_encap_flags bits = record { 0 = bits }

-- the flags by name, and a last entry without a name that has every bit
abbrev pub ip6_tunnel_flags_table : List (List ℕ × ℕ)
ip6_tunnel_flags_table =
    (codes "IgnEncapLimit", 0x1) ∷
    (codes "UseOrigTclass", 0x2) ∷
    (codes "UseOrigFlowlabel", 0x4) ∷
    (codes "Mip6Dev", 0x8) ∷
    (codes "RcvDscpCopy", 0x10) ∷
    (codes "UseOrigFwMark", 0x20) ∷
    (codes "AllowLocalRemote", 0x40) ∷
    (codes "CapXmit", 0x10000) ∷
    (codes "CapRcv", 0x20000) ∷
    (codes "CapPerPacket", 0x40000) ∷
    (codes "", 0xffffffff) ∷ []

pub ip6_tunnel_flags_known : known_bits ip6_tunnel_flags_table ≡ 0xffffffff
unfolding known_from
ip6_tunnel_flags_known = refl

-- the set with these bits
abbrev pub ip6_tunnel_flags : ℕ → Ip6TunnelFlags
ip6_tunnel_flags bits = record { 0 = bits }
