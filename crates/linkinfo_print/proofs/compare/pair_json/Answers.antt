use Rattle.linkinfo_print.specs.PairData.{pair_data}
use Rattle.linkinfo_print.proofs.JsonFlat.{pair_flat, value_whole, value_within}
use Rattle.linkinfo_print.proofs.compare.pair_json.Goals as goal

pub returns-clause-shallow : goal.returns-clause-shallow
returns-clause-shallow c =
    value_within 6 (pair_data c.args.question c.args.a.now c.args.b.now c.args.pair)
    c.pair_value.result (pair_flat c.args.question c.args.a.now c.args.b.now c.args.pair)
    c.pair_value.ensures

pub returns-clause-whole_numbers : goal.returns-clause-whole_numbers
returns-clause-whole_numbers c =
    value_whole 6 (pair_data c.args.question c.args.a.now c.args.b.now c.args.pair)
    c.pair_value.result (pair_flat c.args.question c.args.a.now c.args.b.now c.args.pair)
    c.pair_value.ensures
