use Rattle.linkinfo_build.proofs.LinkParts.{listed}
use Rattle.linkinfo_build.proofs.parts.write_values_payload.Goals as goal

pub write_values-requires-clause-fits : goal.write_values-requires-clause-fits
write_values-requires-clause-fits c =
    (listed c.args.rows c.args.values.now c.requires.fits).attributes
