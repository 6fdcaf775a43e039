-- A list whose encoding fits a payload fits attribute by attribute.
use Rattle.nla_frame.proofs.Emitting.{list_fits}
use Rattle.linkinfo_table.proofs.list_payload.NlasLinkPayload.emit.Goals as goal

pub write_attributes-requires-clause-fits : goal.write_attributes-requires-clause-fits
write_attributes-requires-clause-fits g c = rw c.as_slice.ensures (list_fits _ c.requires.fits)
