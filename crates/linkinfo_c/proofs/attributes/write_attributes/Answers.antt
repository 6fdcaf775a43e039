use Rattle.std.specs.Prelude.{Some}
use Rattle.std.proofs.Common.{◌∙◌, [], arith, rules, subst, sym}
use Rattle.linkinfo_c.specs.Causes.{IsReturnedCode}
use Rattle.linkinfo_c.specs.declared.error.LinkinfoError.{LinkinfoError}
use Rattle.linkinfo_c.proofs.CausingData.{given_code}
use Rattle.nla_frame.specs.NlaItems.{items_of, nla_items}
use Rattle.linkinfo_c.proofs.Quarters.{framed_quarter, length_each}
use Rattle.linkinfo_c.specs.Attributes.{record_after}
use Rattle.linkinfo_c.specs.Items.{attributes_in}
use Rattle.linkinfo_c.proofs.Framed.{begins, ends, goes_on, stops}
use Rattle.linkinfo_c.proofs.attributes.write_attributes.Goals as goal

pub loop-next-init : goal.loop-next-init
loop-next-init g c =
    rw c.new-nlas.ensures.start
    (begins g.R.AttributeRecord.record_at c.args.bytes.now c.args.contents c.args.records.now)

pub loop-next-preserved : goal.loop-next-preserved
loop-next-preserved g c =
    let moves = rw c.in-Ok.is at c.in-Some.ensures.steps in
    goes_on _ _ _ _ _ _ _ _ _ _ _ _ _ _ _ _ c.loop-next.invariant moves c.shape_in-shape.ensures
    c.kind.ensures c.of_attribute.ensures c.write_at.ensures c.examined-count.ensures.count
    c.place-place.ensures.place

pub returns-in-Err : goal.returns-in-Err
returns-in-Err g c =
    let moves = rw c.in-Err.is at c.in-Some.ensures.steps in
    let stop =
    stops _ _ _ _ _ c.loop-next.count c.loop-next.place _ _ _ c.loop-next.invariant moves in
    let error = c.error_record.ensures ∙ stop.error_is in
    record {
      array = stop.values;
      count = stop.count_is;
      quarter = omega (
        arith,
        stop.count_is,
        framed_quarter c.args.bytes.now,
        length_each
            (record_after g.R.AttributeRecord.record_at c.args.bytes.now c.args.contents)
            [] (attributes_in (items_of (nla_items c.args.bytes.now))),
      );
      error = error;
      cause =
          subst (λ (z : LinkinfoError). IsReturnedCode z.cause) (sym error)
          (given_code (Some c.args.contents) c.args.bytes.now);
      place = stop.place_is;
    }

pub returns : goal.returns
returns g c =
    let end =
    ends _ _ _ _ _ c.loop-next.count c.loop-next.place _ _ c.loop-next.invariant
    c.in_default.ensures.steps in
    record {
      array = end.values;
      count = end.count_is;
      quarter = omega (
        arith,
        end.count_is,
        framed_quarter c.args.bytes.now,
        length_each
            (record_after g.R.AttributeRecord.record_at c.args.bytes.now c.args.contents)
            [] (attributes_in (items_of (nla_items c.args.bytes.now))),
      );
      error = end.error_is;
      cause = search rules;
      place = end.place_is;
    }
