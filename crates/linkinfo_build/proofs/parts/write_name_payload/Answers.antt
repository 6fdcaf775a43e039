use Rattle.std.proofs.Common.{◌≤◌, List, ap, is_ok, length, subst, sym, ℕ}
use Rattle.nla_frame.specs.Writing.{Writes}
use Rattle.linkinfo_build.proofs.LinkParts.{name_datum, name_same}
use Rattle.linkinfo_build.proofs.parts.write_name_payload.Goals as goal

pub write_datum_payload-requires-clause-fits : goal.write_datum_payload-requires-clause-fits
write_datum_payload-requires-clause-fits c =
    ap is_ok (name_datum c.args.name.now c.requires.fits)

pub write_datum_payload-requires-clause-room : goal.write_datum_payload-requires-clause-room
write_datum_payload-requires-clause-room c =
    subst (λ (s : List ℕ). length s ≤ length c.args.buffer.now)
    (sym (name_same c.args.name.now c.requires.fits)) c.requires.room

pub returns : goal.returns
returns c =
    subst
    (λ (s : List ℕ). Writes s c.args.buffer.now c.write_datum_payload.new.buffer
    c.write_datum_payload.result)
    (name_same c.args.name.now c.requires.fits) c.write_datum_payload.ensures
