-- Written by tables/generate from tables/numbers/ipoib.
-- IP over InfiniBand: the values of each type.
use Rattle.std.specs.Prelude.{ℕ, [], ◌∷◌, refl}
use Rattle.std.proofs.Common.{inl, inr}
use Rattle.std.proofs.lemmas.Bool.Decides.{Decides-eqb}
use Rattle.linkinfo_numbers.specs.declared.ipoib.IpoibMode.{IpoibMode}
use Rattle.linkinfo_numbers.specs.declared.ipoib.IpoibMode.TheVariants as mode
use Rattle.linkinfo_numbers.specs.Table.{Table, IsTable, by_number, value_of}

-- the number of each value
abbrev pub ipoib_mode_number : IpoibMode → ℕ
ipoib_mode_number mode.Datagram = 0
ipoib_mode_number mode.Connected = 1
ipoib_mode_number (mode.Other n) = n

abbrev pub ipoib_mode_table : Table ℕ IpoibMode
ipoib_mode_table = by_number ipoib_mode_number mode.Other (mode.Datagram ∷ mode.Connected ∷ [])

-- the value of each number
abbrev pub ipoib_mode : ℕ → IpoibMode
ipoib_mode n = value_of ipoib_mode_table n

pub ipoib_mode_table_holds : IsTable ipoib_mode_table
ipoib_mode_table_holds = record {
  same_decides = Decides-eqb;
  other_key = λ n. refl;
  found = elim [ mode.Other n ↦ inl refl | _ ↦ inr refl ];
  apart = (λ p. cc, (λ p. cc, tt));
}
