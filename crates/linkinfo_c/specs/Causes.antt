-- The causes that no call returns: those of other parsers, of values that C does not build, and of
-- memory, which no call allocates.
use Rattle.std.specs.Prelude.{ℕ, ◌≢◌}
use Rattle.nla_frame.specs.declared.error.Cause.{Cause}
use Rattle.nla_frame.specs.declared.error.Cause.TheVariants as cause

-- any other cause
abbrev pub IsReturned : Cause → Type 0
IsReturned cause.Word = ⊥
IsReturned cause.WrongType = ⊥
IsReturned cause.Kind = ⊥
IsReturned cause.Memory = ⊥
IsReturned cause.Peer = ⊥
IsReturned _ = Unit {0}

-- the number of a cause other than Word, WrongType, Kind, Memory and Peer
abbrev pub IsReturnedCode : ℕ → Type 0
IsReturnedCode code = (code ≢ 6) × (code ≢ 7) × (code ≢ 8) × (code ≢ 10) × (code ≢ 11)
