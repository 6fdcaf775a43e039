-- The fields are written one after another.
use Rattle.std.proofs.Common.{◌-◌, ◌++◌, ap, arith, drop, length, refl, sym, take, ◌∙◌}
use Rattle.linkinfo_payloads.proofs.Placing.{two_written}
use Rattle.linkinfo_payloads.proofs.fields.Tuple2Fields.write_front.Goals as goal

pub returns-clause-written : goal.returns-clause-written
returns-clause-written g c =
    let x = c.args.self in
    let first = c.write_front-width.ensures in
    let rest = c.write_front.ensures in
    let buffer = c.write_front-width.new.buffer in
    let at = c.write_front-width.result in
    let k = length buffer - at in
    two_written (g.A.Fields.bytes_of x.0) (g.B.Fields.bytes_of x.1) c.args.buffer.now buffer
    c.write_front.new.buffer at c.write_front.result k first.written rest.written.taken refl
    (omega (arith, c.requires, first.written.taken, first.width, rest.written.taken, rest.width))
    (rest.written.written
    ∙ ap (λ n. g.B.Fields.bytes_of x.1 ++ drop n (take k (drop at buffer)))
    (sym rest.written.taken))
