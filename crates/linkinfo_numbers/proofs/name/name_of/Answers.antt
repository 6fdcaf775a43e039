-- `from_utf8` accepts exactly the bytes that pass the test.
use Rattle.std.proofs.Common.{rules, ◌≡◌, Bool, true, false, refl}
use Rattle.std.specs.Str.{is_utf8}
use Rattle.std.proofs.lemmas.Str.{is_utf8-from_IsUtf8, IsUtf8-from_is_utf8}
use Rattle.linkinfo_numbers.proofs.name.name_of.Goals as goal

not_true : (b : Bool) → ¬ (b ≡ true) → b ≡ false
not_true true apart = absurd (apart refl)
not_true false apart = refl

pub returns-in-Ok : goal.returns-in-Ok
returns-in-Ok c =
    let valid : is_utf8 c.without_nul.result.now ≡ true =
    is_utf8-from_IsUtf8 c.without_nul.result.now c.in-Ok.ensures.cases.1 in
    search rules

pub returns-in-Err : goal.returns-in-Err
returns-in-Err c =
    let invalid : is_utf8 c.without_nul.result.now ≡ false =
    not_true (is_utf8 c.without_nul.result.now)
    (λ e. c.in-Err.ensures.cases.0 (IsUtf8-from_is_utf8 c.without_nul.result.now e)) in
    search rules
