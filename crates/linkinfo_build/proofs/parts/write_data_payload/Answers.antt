use Rattle.std.proofs.Common.{◌≤◌, IsOk, List, Result, length, subst, sym, ℕ}
use Rattle.nla_frame.specs.Writing.{Writes}
use Rattle.linkinfo_build.specs.Link.{payload_bytes}
use Rattle.linkinfo_build.specs.declared.link.PartCause.{PartCause}
use Rattle.linkinfo_build.proofs.LinkParts.{as_bytes, as_listed, as_one_listed, no_bytes, no_kind}
use Rattle.linkinfo_build.proofs.parts.write_data_payload.Goals as goal

pub write_values_payload-requires-clause-fits : goal.write_values_payload-requires-clause-fits
write_values_payload-requires-clause-fits c =
    subst (λ (r : Result (List ℕ) PartCause). IsOk r)
    (as_listed c.args.form c.args.content.now c.in-Attributes.rows c.in-Values.values
    c.in-Attributes.is c.in-Values.is) c.requires.fits

pub write_values_payload-requires-clause-room : goal.write_values_payload-requires-clause-room
write_values_payload-requires-clause-room c =
    subst (λ (r : Result (List ℕ) PartCause). length (payload_bytes r) ≤ length c.args.buffer.now)
    (as_listed c.args.form c.args.content.now c.in-Attributes.rows c.in-Values.values
    c.in-Attributes.is c.in-Values.is) c.requires.room

pub write_values_payload-requires-in-OneAttribute-clause-fits :
    goal.write_values_payload-requires-in-OneAttribute-clause-fits
write_values_payload-requires-in-OneAttribute-clause-fits c =
    subst (λ (r : Result (List ℕ) PartCause). IsOk r)
    (as_one_listed c.args.form c.args.content.now c.in-OneAttribute.rows c.in-Values.values
    c.requires.fits c.in-OneAttribute.is c.in-Values.is) c.requires.fits

pub write_values_payload-requires-in-OneAttribute-clause-room :
    goal.write_values_payload-requires-in-OneAttribute-clause-room
write_values_payload-requires-in-OneAttribute-clause-room c =
    subst (λ (r : Result (List ℕ) PartCause). length (payload_bytes r) ≤ length c.args.buffer.now)
    (as_one_listed c.args.form c.args.content.now c.in-OneAttribute.rows c.in-Values.values
    c.requires.fits c.in-OneAttribute.is c.in-Values.is) c.requires.room

pub unreachable-requires : goal.unreachable-requires
unreachable-requires c =
    no_kind c.args.form c.args.content.now c.in-Values.values c.requires.fits c.in-NoKind.is
    c.in-Values.is

pub unreachable-requires-in-Bytes-form : goal.unreachable-requires-in-Bytes-form
unreachable-requires-in-Bytes-form c =
    no_bytes c.args.form c.args.content.now c.in-Values.values c.requires.fits c.in-Bytes-form.is
    c.in-Values.is

pub write_bytes-requires : goal.write_bytes-requires
write_bytes-requires c =
    subst (λ (r : Result (List ℕ) PartCause). length (payload_bytes r) ≤ length c.args.buffer.now)
    (as_bytes c.args.form c.args.content.now c.in-Bytes.bytes c.requires.fits c.in-Bytes.is)
    c.requires.room

pub returns-in-Attributes : goal.returns-in-Attributes
returns-in-Attributes c =
    subst
    (λ (r : Result (List ℕ) PartCause). Writes (payload_bytes r) c.args.buffer.now
    c.write_values_payload.new.buffer c.write_values_payload.result)
    (sym (as_listed c.args.form c.args.content.now c.in-Attributes.rows c.in-Values.values
    c.in-Attributes.is c.in-Values.is)) c.write_values_payload.ensures

pub returns-in-OneAttribute : goal.returns-in-OneAttribute
returns-in-OneAttribute c =
    subst
    (λ (r : Result (List ℕ) PartCause). Writes (payload_bytes r) c.args.buffer.now
    c.write_values_payload-in-OneAttribute.new.buffer
    c.write_values_payload-in-OneAttribute.result)
    (sym (as_one_listed c.args.form c.args.content.now c.in-OneAttribute.rows c.in-Values.values
    c.requires.fits c.in-OneAttribute.is c.in-Values.is))
    c.write_values_payload-in-OneAttribute.ensures

pub returns-in-Bytes : goal.returns-in-Bytes
returns-in-Bytes c =
    subst
    (λ (r : Result (List ℕ) PartCause). Writes (payload_bytes r) c.args.buffer.now
    c.write_bytes.new.buffer c.write_bytes.result)
    (sym (as_bytes c.args.form c.args.content.now c.in-Bytes.bytes c.requires.fits c.in-Bytes.is))
    c.write_bytes.ensures
