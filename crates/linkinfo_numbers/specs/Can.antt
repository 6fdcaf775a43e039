-- Written by tables/generate from tables/numbers/can.
-- CAN devices: the values of each type.
use Rattle.std.specs.Prelude.{◌≡◌, ℕ, List, [], ◌∷◌, codes, Result, refl}
use Rattle.std.specs.Fmt.{decimal}
use Rattle.std.proofs.Common.{inl, inr}
use Rattle.std.proofs.lemmas.Bool.Decides.{Decides-eqb}
use Rattle.bitflags.specs.Sets.{known_bits, known_from}
use Rattle.nla_frame.specs.declared.error.Family.TheVariants as family
use Rattle.nla_frame.specs.declared.error.DecodeError.{DecodeError}
use Rattle.linkinfo_numbers.specs.declared.can.CanState.{CanState}
use Rattle.linkinfo_numbers.specs.declared.can.CanState.TheVariants as state
use Rattle.linkinfo_numbers.specs.declared.can.CanCtrlModeFlags.{CanCtrlModeFlags}
use Rattle.linkinfo_numbers.specs.declared.can.CanClock.{CanClock}
use Rattle.linkinfo_numbers.specs.FlagWords.{FlagWord, set_if, set_text, text_bits}
use Rattle.linkinfo_numbers.specs.Table.{Table, IsTable, by_number, value_of}
use Rattle.linkinfo_numbers.specs.Word.{value_of_word, ReadsWords, reads_words}

-- the number of each value
abbrev pub can_state_number : CanState → ℕ
can_state_number state.ErrorActive = 0
can_state_number state.ErrorWarning = 1
can_state_number state.ErrorPassive = 2
can_state_number state.BusOff = 3
can_state_number state.Stopped = 4
can_state_number state.Sleeping = 5
can_state_number (state.Other n) = n

abbrev pub can_state_table : Table ℕ CanState
can_state_table = by_number can_state_number state.Other
    (state.ErrorActive ∷ state.ErrorWarning ∷ state.ErrorPassive ∷ state.BusOff ∷ state.Stopped
    ∷ state.Sleeping ∷ [])

-- the value of each number
abbrev pub can_state : ℕ → CanState
can_state n = value_of can_state_table n

pub can_state_table_holds : IsTable can_state_table
can_state_table_holds = record {
  same_decides = Decides-eqb;
  other_key = λ n. refl;
  found = elim [ state.Other n ↦ inl refl | _ ↦ inr refl ];
  apart = (λ p. cc, (λ p. cc, (λ p. cc, (λ p. cc, (λ p. cc, (λ p. cc, tt))))));
}

-- the text of each value
abbrev pub can_state_text : CanState → List ℕ
can_state_text state.ErrorActive = codes "ERROR-ACTIVE"
can_state_text state.ErrorWarning = codes "ERROR-WARNING"
can_state_text state.ErrorPassive = codes "ERROR-PASSIVE"
can_state_text state.BusOff = codes "BUS-OFF"
can_state_text state.Stopped = codes "STOPPED"
can_state_text state.Sleeping = codes "SLEEPING"
can_state_text (state.Other n) = decimal n

-- the value that a word names, or the error
abbrev pub can_state_of_word : List ℕ → Result CanState DecodeError
can_state_of_word word = value_of_word family.Can can_state_text can_state_table.named word

pub can_state_words_hold : ReadsWords family.Can can_state_text can_state_table.named
can_state_words_hold = reads_words family.Can can_state_text can_state_table.named
    (refl, (refl, (refl, (refl, (refl, (refl, tt))))))

-- the flags by name, and a last entry without a name that has every bit
abbrev pub can_ctrl_mode_flags_table : List (List ℕ × ℕ)
can_ctrl_mode_flags_table =
    (codes "Loopback", 0x1) ∷
    (codes "ListenOnly", 0x2) ∷
    (codes "TripleSampling", 0x4) ∷
    (codes "OneShot", 0x8) ∷
    (codes "BerrReporting", 0x10) ∷
    (codes "Fd", 0x20) ∷
    (codes "PresumeAck", 0x40) ∷
    (codes "FdNonIso", 0x80) ∷
    (codes "CcLen8Dlc", 0x100) ∷
    (codes "TdcAuto", 0x200) ∷
    (codes "TdcManual", 0x400) ∷
    (codes "Restricted", 0x800) ∷
    (codes "Xl", 0x1000) ∷
    (codes "XlTdcAuto", 0x2000) ∷
    (codes "XlTdcManual", 0x4000) ∷
    (codes "XlTms", 0x8000) ∷
    (codes "", 0xffffffff) ∷ []

pub can_ctrl_mode_flags_known : known_bits can_ctrl_mode_flags_table ≡ 0xffffffff
unfolding known_from
can_ctrl_mode_flags_known = refl

-- the set with these bits
abbrev pub can_ctrl_mode_flags : ℕ → CanCtrlModeFlags
can_ctrl_mode_flags bits = record { 0 = bits }

-- the flags with their words
abbrev pub can_ctrl_mode_flags_words : List FlagWord
can_ctrl_mode_flags_words =
    (0x1, codes "LOOPBACK") ∷
    (0x2, codes "LISTEN-ONLY") ∷
    (0x4, codes "TRIPLE-SAMPLING") ∷
    (0x8, codes "ONE-SHOT") ∷
    (0x10, codes "BERR-REPORTING") ∷
    (0x20, codes "FD") ∷
    (0x40, codes "PRESUME-ACK") ∷
    (0x80, codes "FD-NON-ISO") ∷
    (0x100, codes "CC-LEN8-DLC") ∷
    (0x200, codes "TDC-AUTO") ∷
    (0x400, codes "TDC-MANUAL") ∷
    (0x800, codes "RESTRICTED") ∷
    (0x1000, codes "XL") ∷
    (0x2000, codes "XL-TDC-AUTO") ∷
    (0x4000, codes "XL-TDC-MANUAL") ∷
    (0x8000, codes "TMS") ∷
    []

-- the text of the set with these bits
abbrev pub can_ctrl_mode_flags_text : ℕ → List ℕ
can_ctrl_mode_flags_text bits = set_text can_ctrl_mode_flags_words 0xffff bits

-- the set of a text, or the error
abbrev pub can_ctrl_mode_flags_of_text : List ℕ → Result CanCtrlModeFlags DecodeError
can_ctrl_mode_flags_of_text text =
    set_if family.Can 32 can_ctrl_mode_flags (text_bits can_ctrl_mode_flags_words text)

-- the record of a number
abbrev pub can_clock : ℕ → CanClock
can_clock n = record { freq = n }
