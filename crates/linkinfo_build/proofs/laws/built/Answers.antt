use Rattle.std.proofs.Common.{ap, arith, length, subst, ◌∙◌}
use Rattle.nla_frame.specs.Attribute.{IsBytes}
use Rattle.nla_frame.proofs.ByteLists.{IsBytes-list_string}
use Rattle.nla_frame.proofs.Stepping.{nla_items-list_string}
use Rattle.linkinfo_build.proofs.Reading.{
  canonical_list,
  encodes,
  items_are,
  values_are,
  whole,
}
use Rattle.linkinfo_build.proofs.laws.built.Goals as goal

pub returns-clause-bytes : goal.returns-clause-bytes
returns-clause-bytes c = λ f string h.
    let e = encodes f c.args.values.now string h in
    subst IsBytes e.is (IsBytes-list_string e.attrs
    (whole f c.args.values.now e.attrs c.held.ensures e.are).attributes)

pub returns-clause-short : goal.returns-clause-short
returns-clause-short c = λ f string h.
    let e = encodes f c.args.values.now string h in
    omega (arith, (whole f c.args.values.now e.attrs c.held.ensures e.are).short, ap length e.is)

pub returns-clause-framed : goal.returns-clause-framed
returns-clause-framed c = λ f attributes h.
    nla_items-list_string attributes
    (whole f c.args.values.now attributes c.held.ensures h).attributes
    ∙ items_are attributes

pub returns-clause-read : goal.returns-clause-read
returns-clause-read c = λ f string h. values_are f c.args.values.now string c.held.ensures h

pub returns-clause-canonical : goal.returns-clause-canonical
returns-clause-canonical c = λ f string h.
    canonical_list f c.args.values.now string c.held.ensures h
