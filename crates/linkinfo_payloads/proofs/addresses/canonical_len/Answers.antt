-- An accepted list is as long as the canonical one.
use Rattle.std.proofs.Common.{◌≤◌, ℕ, arith, subst}
use Rattle.std.specs.Prelude.{SomeIff}
use Rattle.linkinfo_payloads.specs.Addresses.{canonical_long}
use Rattle.linkinfo_payloads.proofs.addresses.canonical_len.Goals as goal

pub returns : goal.returns
returns g c =
    let fixed = g.met.A.Fixed.fixed in
    let address = g.met.A.Address in
    let long =
    canonical_long g.A.Fixed.WIDTH g.A.Fixed.value_of g.A.Fixed.bytes_of g.A.Fixed.holds fixed
    address.aligned address.some address.short c.args.payload.now
    (λ i. omega (arith, c.type_inv.payload i)) c.requires in
    subst (λ (n : ℕ). SomeIff c.fitting.result (n ≤ 65531) n) long c.fitting.ensures
