-- Written by tables/generate from tables/numbers/ip.
-- Protocols carried in IP packets: the values of each type.
use Rattle.std.specs.Prelude.{ℕ, [], ◌∷◌, refl}
use Rattle.std.proofs.Common.{inl, inr}
use Rattle.std.proofs.lemmas.Bool.Decides.{Decides-eqb}
use Rattle.linkinfo_numbers.specs.declared.ip.IpProtocol.{IpProtocol}
use Rattle.linkinfo_numbers.specs.declared.ip.IpProtocol.TheVariants as protocol
use Rattle.linkinfo_numbers.specs.Table.{Table, IsTable, by_number, value_of}

-- the number of each value
abbrev pub ip_protocol_number : IpProtocol → ℕ
ip_protocol_number protocol.Ipip = 4
ip_protocol_number protocol.Ipv6 = 41
ip_protocol_number protocol.Mpls = 137
ip_protocol_number (protocol.Other n) = n

abbrev pub ip_protocol_table : Table ℕ IpProtocol
ip_protocol_table =
    by_number ip_protocol_number protocol.Other (protocol.Ipip ∷ protocol.Ipv6 ∷ protocol.Mpls ∷ [])

-- the value of each number
abbrev pub ip_protocol : ℕ → IpProtocol
ip_protocol n = value_of ip_protocol_table n

pub ip_protocol_table_holds : IsTable ip_protocol_table
ip_protocol_table_holds = record {
  same_decides = Decides-eqb;
  other_key = λ n. refl;
  found = elim [ protocol.Other n ↦ inl refl | _ ↦ inr refl ];
  apart = (λ p. cc, (λ p. cc, (λ p. cc, tt)));
}
