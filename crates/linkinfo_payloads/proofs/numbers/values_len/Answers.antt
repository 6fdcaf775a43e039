-- The values have one width each.
use Rattle.std.proofs.Common.{◌≡◌, ◌*◌, ◌≤◌, ℕ, ap, arith, length, subst, sym, ◌∙◌}
use Rattle.std.specs.List.{flat_map}
use Rattle.std.specs.Prelude.{SomeIff}
use Rattle.linkinfo_payloads.specs.Arrays.{array_long}
use Rattle.linkinfo_payloads.proofs.numbers.values_len.Goals as goal

pub returns-in_err-checked_mul : goal.returns-in_err-checked_mul
returns-in_err-checked_mul g c =
    let bytes = g.N.Fixed.bytes_of in
    let xs = c.args.items.now in
    let long : length xs * c.WIDTH.result ≡ length (flat_map bytes xs) =
    ap (λ (w : ℕ). length xs * w) c.WIDTH.ensures
    ∙ sym (array_long g.N.Fixed.WIDTH bytes g.met.N.Number.long xs) in
    rw c.from_residual.ensures (λ h. c.in_err-checked_mul.ensures (omega (arith, long, h)))

pub returns : goal.returns
returns g c =
    let bytes = g.N.Fixed.bytes_of in
    let xs = c.args.items.now in
    let long : length xs * c.WIDTH.result ≡ length (flat_map bytes xs) =
    ap (λ (w : ℕ). length xs * w) c.WIDTH.ensures
    ∙ sym (array_long g.N.Fixed.WIDTH bytes g.met.N.Number.long xs) in
    subst (λ (n : ℕ). SomeIff c.fitting.result (n ≤ 65531) n)
    (c.in_ok-checked_mul.ensures.1 ∙ long) c.fitting.ensures
