use Rattle.std.proofs.Common.{arith}
use Rattle.linkinfo_build.proofs.Addresses.{address_string}
use Rattle.linkinfo_build.proofs.laws.addresses.Goals as goal

pub returns : goal.returns
returns c = λ width four h.
    address_string width c.args.bytes.now four (λ i. omega (arith, c.type_inv.bytes i)) h
