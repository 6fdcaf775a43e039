use Rattle.std.proofs.Common.{arith}
use Rattle.linkinfo_table.proofs.Lasts.{alone}
use Rattle.linkinfo_table.proofs.last.own_bytes.Goals as goal

pub returns : goal.returns
returns c =
    alone c.args.source.now c.args.placed.now _ c.requires (omega (arith, c.length.ensures))
