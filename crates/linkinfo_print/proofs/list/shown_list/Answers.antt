use Rattle.linkinfo_print.specs.ListData.{list_data}
use Rattle.linkinfo_print.proofs.JsonFlat.{list_flat, value_whole, value_within}
use Rattle.linkinfo_print.proofs.Shows.{
  list_is,
  members_end,
  members_step,
  members_stop,
  others_end,
  others_step,
  others_stop,
}
use Rattle.linkinfo_print.proofs.list.shown_list.Goals as goal

pub loop-next-preserved : goal.loop-next-preserved
loop-next-preserved c =
    let moves = rw c.in-Ok.is at c.in-Some.ensures.steps in
    record {
      members = members_step _ c.in-Ok.item _ _ _ _ _ _ _ moves c.in_ok-name-in-Ok.ensures
          c.in_ok-push-in-Ok.ensures.named c.in_ok-push-in-Ok.ensures.members
          c.loop-next.invariant.members;
      others = others_step _ c.in-Ok.item _ _ _ _ _ moves c.in_ok-name-in-Ok.ensures
          c.in_ok-push-in-Ok.ensures.others c.loop-next.invariant.others;
    }

pub returns-in-Err-clause-value : goal.returns-in-Err-clause-value
returns-in-Err-clause-value c =
    let moves = rw c.in-Err.is at c.in-Some.ensures.steps in
    let is =
    list_is c.args.bytes.now _ _ (members_stop _ _ _ _ _ _ moves c.loop-next.invariant.members)
    (others_stop _ _ _ _ _ moves c.loop-next.invariant.others) in
    rw is at c.into_value.ensures

pub returns-in-Err-clause-shallow : goal.returns-in-Err-clause-shallow
returns-in-Err-clause-shallow c =
    value_within 5 (list_data c.args.bytes.now) c.into_value.result (list_flat c.args.bytes.now)
    (returns-in-Err-clause-value c)

pub returns-in-Err-clause-whole_numbers : goal.returns-in-Err-clause-whole_numbers
returns-in-Err-clause-whole_numbers c =
    value_whole 5 (list_data c.args.bytes.now) c.into_value.result (list_flat c.args.bytes.now)
    (returns-in-Err-clause-value c)

pub returns-clause-value : goal.returns-clause-value
returns-clause-value c =
    let is =
    list_is c.args.bytes.now _ _
    (members_end _ _ _ _ _ c.in_default.ensures.steps c.loop-next.invariant.members)
    (others_end _ _ _ _ c.in_default.ensures.steps c.loop-next.invariant.others) in
    rw is at c.into_value-2.ensures

pub returns-clause-shallow : goal.returns-clause-shallow
returns-clause-shallow c =
    value_within 5 (list_data c.args.bytes.now) c.into_value-2.result (list_flat c.args.bytes.now)
    (returns-clause-value c)

pub returns-clause-whole_numbers : goal.returns-clause-whole_numbers
returns-clause-whole_numbers c =
    value_whole 5 (list_data c.args.bytes.now) c.into_value-2.result (list_flat c.args.bytes.now)
    (returns-clause-value c)
