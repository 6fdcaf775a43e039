use Rattle.linkinfo_build.proofs.Payloads.{datum_written}
use Rattle.linkinfo_build.proofs.write.write_datum_payload.Goals as goal

pub datum_len-requires : goal.datum_len-requires
datum_len-requires c = (datum_written _ _ (rw c.in-Some.is at c.requires.fits)).suits

pub write_datum-requires-clause-suits : goal.write_datum-requires-clause-suits
write_datum-requires-clause-suits c =
    (datum_written _ _ (rw c.in-Some.is at c.requires.fits)).suits
