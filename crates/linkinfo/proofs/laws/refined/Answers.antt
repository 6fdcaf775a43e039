use Rattle.std.proofs.Common.{arith}
use Rattle.nla_frame.specs.NlaItems.{nla_items}
use Rattle.linkinfo.specs.Roles.{no_kinds}
use Rattle.linkinfo.specs.Strings.{alike_strings, reading}
use Rattle.linkinfo.proofs.Refining.{accepted_verbatim, alike_verbatim, met_verbatim}
use Rattle.linkinfo.proofs.laws.refined.Goals as goal

pub returns-clause-accepted : goal.returns-clause-accepted
unfolding reading
returns-clause-accepted g c = λ h.
    accepted_verbatim _ c.lawful.ensures no_kinds (nla_items c.args.bytes.now) h

pub returns-clause-alike : goal.returns-clause-alike
unfolding reading alike_strings
returns-clause-alike g c = λ h other e.
    alike_verbatim _ c.lawful.ensures no_kinds c.args.bytes.now other
    (λ i. omega (arith, c.type_inv.bytes i)) h e

pub returns-clause-met : goal.returns-clause-met
returns-clause-met g c = λ none want e.
    met_verbatim _ c.lawful.ensures none c.args.bytes.now want e
