use Rattle.std.proofs.Common.{
  ◌++◌,
  ◌-◌,
  ◌∙◌,
  IsOk,
  List,
  ap,
  arith,
  length,
  refl,
  subst,
  sym,
  ℕ,
  ◌+◌,
}
use Rattle.std.proofs.lemmas.List.{length-drop, take_rest}
use borrow.Rule.Slice.PartMut.{put_mid}
use Rattle.nla_frame.specs.Writing.{Writes}
use Rattle.linkinfo_build.specs.Link.{data_part, kind_part, port_kind_part}
use Rattle.linkinfo_build.specs.declared.forms.DataForm.{DataForm}
use Rattle.linkinfo_build.proofs.LinkParts.{
  built,
  link_short,
  link_size,
  link_string,
  same_pair,
  writes_two,
}
use Rattle.linkinfo_build.proofs.link_building.write_link.Goals as goal

pub write_pair-at-requires-clause-name : goal.write_pair-at-requires-clause-name
write_pair-at-requires-clause-name c = (built c.args.link.now c.requires.fits).parts.kind

pub write_pair-at-requires-clause-content : goal.write_pair-at-requires-clause-content
write_pair-at-requires-clause-content c =
    subst (λ (f : DataForm). IsOk (data_part f c.args.link.now.«data»))
    (sym c.data_form-form.ensures) (built c.args.link.now c.requires.fits).parts.content

pub write_pair-at-requires-clause-short : goal.write_pair-at-requires-clause-short
write_pair-at-requires-clause-short c = omega (
  arith,
  ap length (same_pair 1 2 (kind_part c.args.link.now) c.args.link.now.«data» _ _
      c.data_form-form.ensures),
  link_size c.args.link.now c.requires.fits,
  link_short c.args.link.now c.requires.fits,
)

pub write_pair-at-requires-clause-room : goal.write_pair-at-requires-clause-room
write_pair-at-requires-clause-room c = omega (
  arith,
  ap length (same_pair 1 2 (kind_part c.args.link.now) c.args.link.now.«data» _ _
      c.data_form-form.ensures),
  link_size c.args.link.now c.requires.fits,
  c.requires.room,
)

pub write_pair-requires-clause-name : goal.write_pair-requires-clause-name
write_pair-requires-clause-name c = (built c.args.link.now c.requires.fits).parts.port_kind

pub write_pair-requires-clause-content : goal.write_pair-requires-clause-content
write_pair-requires-clause-content c =
    subst (λ (f : DataForm). IsOk (data_part f c.args.link.now.port_data))
    (sym c.port_data_form-form.ensures) (built c.args.link.now c.requires.fits).parts.port_data

pub write_pair-requires-clause-short : goal.write_pair-requires-clause-short
write_pair-requires-clause-short c = omega (
  arith,
  ap length (same_pair 4 5 (port_kind_part c.args.link.now) c.args.link.now.port_data _ _
      c.port_data_form-form.ensures),
  link_size c.args.link.now c.requires.fits,
  link_short c.args.link.now c.requires.fits,
)

pub write_pair-requires-clause-room : goal.write_pair-requires-clause-room
write_pair-requires-clause-room c = omega (
  arith,
  ap length (same_pair 1 2 (kind_part c.args.link.now) c.args.link.now.«data» _ _
      c.data_form-form.ensures),
  ap length (same_pair 4 5 (port_kind_part c.args.link.now) c.args.link.now.port_data _ _
      c.port_data_form-form.ensures),
  link_size c.args.link.now c.requires.fits,
  c.requires.room,
  c.write_pair-at.ensures.taken,
  c.write_pair-at.auto.buffer,
  length-drop c.write_pair-at.result c.write_pair-at.new.buffer,
  ap length (take_rest c.write_pair-at.new.buffer c.write_pair-at.result),
)

pub returns : goal.returns
returns c =
    let link = c.args.link.now in
    let first = same_pair 1 2 (kind_part link) link.«data» _ _ c.data_form-form.ensures in
    let second =
    same_pair 4 5 (port_kind_part link) link.port_data _ _ c.port_data_form-form.ensures in
    let whole = (λ i. first i ++ second i) ∙ link_string link c.requires.fits in
    subst
    (λ (s : List ℕ). Writes s c.args.buffer.now
    (put_mid c.write_pair-at.result
    (length c.write_pair-at.new.buffer - c.write_pair-at.result)
    c.write_pair-at.new.buffer c.write_pair.new.buffer)
    (c.write_pair-at.result + c.write_pair.result))
    whole
    (writes_two _ _ c.args.buffer.now c.write_pair-at.new.buffer c.write_pair.new.buffer
    c.write_pair-at.result c.write_pair.result _ c.write_pair-at.ensures refl
    c.write_pair.ensures (omega (arith, ap length whole, c.requires.room)))
