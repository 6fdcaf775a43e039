use Rattle.std.proofs.Common.{◌≤◌, ◌≡◌, ◌⊎◌, true, length, inl, inr, refl, rules, sym}
use Rattle.linkinfo_print.proofs.Cutting.{cuts_bad_file, cuts_header}
use Rattle.linkinfo_print.proofs.units.Cutter.cut_file_header.Goals as goal
use Rattle.linkinfo_print.proofs.units.Cutter.cut_file_header.Goals.{
  else-bytes-lt-FILE_HEADER_LEN-via-then-bytes-lt-FILE_HEADER_LEN+else-not-is_end,
  else-bytes-lt-FILE_HEADER_LEN-via-else-bytes-lt-FILE_HEADER_LEN,
}

pub returns-in-Ok : goal.returns-in-Ok
returns-in-Ok c =
    cuts_header c.args.self.now c.args.bytes.now c.args.is_end _ _ c.in-Ok.format
    c.requires.goes_on c.requires.capture c.requires.header (sym c.in-Ok.ensures) refl refl refl

pub returns-in-Err : goal.returns-in-Err
returns-in-Err c =
    let certain : (24 ≤ length c.args.bytes.now) ⊎ (c.args.is_end ≡ true) =
    elim c.else-bytes-lt-FILE_HEADER_LEN.branch [
      | else-bytes-lt-FILE_HEADER_LEN-via-then-bytes-lt-FILE_HEADER_LEN+else-not-is_end w ↦
          let h = w.if-not-is_end in inr (search (rules, h))
      | else-bytes-lt-FILE_HEADER_LEN-via-else-bytes-lt-FILE_HEADER_LEN w ↦
          inl w.if-bytes-lt-FILE_HEADER_LEN.false
    ] in
    cuts_bad_file c.args.self.now c.args.bytes.now c.args.is_end c.take_last.result
    c.take_last.new.self c.in-Err.error c.requires.goes_on c.requires.capture c.requires.header
    (sym c.in-Err.ensures) certain c.take_last.ensures.ended c.take_last.ensures.unit
    c.take_last.ensures.taken
