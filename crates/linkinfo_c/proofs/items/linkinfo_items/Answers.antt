use Rattle.std.proofs.Common.{◌∙◌, arith, rules, subst, sym}
use Rattle.nla_frame.specs.NlaItems.{nla_items}
use Rattle.linkinfo.specs.Roles.{no_kinds}
use Rattle.linkinfo_c.specs.Causes.{IsReturnedCode}
use Rattle.linkinfo_c.specs.declared.error.LinkinfoError.{LinkinfoError}
use Rattle.linkinfo_c.proofs.CausingData.{walk_code}
use Rattle.linkinfo_c.proofs.Quarters.{items_quarter}
use Rattle.linkinfo_c.proofs.Walked.{ends, goes_on, stops}
use Rattle.linkinfo_c.proofs.items.linkinfo_items.Goals as goal

pub loop-next-preserved : goal.loop-next-preserved
loop-next-preserved c =
    let moves = rw c.in-Ok.is at c.in-Some.ensures.steps in
    goes_on _ _ _ _ _ _ _ _ _ _ _ _ c.loop-next.invariant moves c.item_record.ensures
    c.write_at.ensures c.examined-count.ensures.count c.place-place.ensures

pub returns-in-Err : goal.returns-in-Err
returns-in-Err c =
    let moves = rw c.in-Err.is at c.in-Some.ensures.steps in
    let stop = stops _ _ _ c.loop-next.count c.loop-next.place _ _ _ c.loop-next.invariant moves in
    let error = c.error_record.ensures ∙ stop.error_is in
    record {
      array = stop.values;
      count = stop.count_is;
      quarter = omega (arith, stop.count_is, items_quarter c.args.bytes.now);
      error = error;
      cause =
          subst (λ (z : LinkinfoError). IsReturnedCode z.cause) (sym error)
          (walk_code no_kinds (nla_items c.args.bytes.now));
      place = stop.place_is;
    }

pub returns : goal.returns
returns c =
    let end =
    ends _ _ _ c.loop-next.count c.loop-next.place _ _ c.loop-next.invariant
    c.in_default.ensures.steps in
    record {
      array = end.values;
      count = end.count_is;
      quarter = omega (arith, end.count_is, items_quarter c.args.bytes.now);
      error = end.error_is;
      cause = search rules;
      place = end.place_is;
    }
