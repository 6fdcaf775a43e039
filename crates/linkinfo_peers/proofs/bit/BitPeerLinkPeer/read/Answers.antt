use Rattle.linkinfo_peers.specs.Bit.{bit_was_read}
use Rattle.linkinfo_peers.proofs.bit.BitPeerLinkPeer.read.Goals as goal

pub returns-in-Ok-clause-meaning : goal.returns-in-Ok-clause-meaning
returns-in-Ok-clause-meaning c =
    bit_was_read c.args.payload.now c.in-Ok.datum c.bool_or_false.result c.in-Ok.ensures
    c.bool_or_false.ensures.truth
