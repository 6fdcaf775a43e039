-- Written by tables/generate from tables/numbers/ethernet.
-- Protocols carried in Ethernet frames: the values of each type.
use Rattle.std.specs.Prelude.{ℕ, [], ◌∷◌, refl}
use Rattle.std.proofs.Common.{inl, inr}
use Rattle.std.proofs.lemmas.Bool.Decides.{Decides-eqb}
use Rattle.linkinfo_numbers.specs.declared.ethernet.EthernetProtocol.{EthernetProtocol}
use Rattle.linkinfo_numbers.specs.declared.ethernet.EthernetProtocol.TheVariants as protocol
use Rattle.linkinfo_numbers.specs.Table.{Table, IsTable, by_number, value_of}

-- the number of each value
abbrev pub ethernet_protocol_number : EthernetProtocol → ℕ
ethernet_protocol_number protocol.MplsUc = 0x8847
ethernet_protocol_number (protocol.Other n) = n

abbrev pub ethernet_protocol_table : Table ℕ EthernetProtocol
ethernet_protocol_table = by_number ethernet_protocol_number protocol.Other (protocol.MplsUc ∷ [])

-- the value of each number
abbrev pub ethernet_protocol : ℕ → EthernetProtocol
ethernet_protocol n = value_of ethernet_protocol_table n

pub ethernet_protocol_table_holds : IsTable ethernet_protocol_table
ethernet_protocol_table_holds = record {
  same_decides = Decides-eqb;
  other_key = λ n. refl;
  found = elim [ protocol.Other n ↦ inl refl | _ ↦ inr refl ];
  apart = (λ p. cc, tt);
}
