use Rattle.linkinfo_view.proofs.Flat.{shown_whole, shown_within}
use Rattle.linkinfo_view.specs.View.{attributes_data}
use Rattle.linkinfo_view.proofs.list.attributes_json.Goals as goal

pub returns-clause-shallow : goal.returns-clause-shallow
unfolding attributes_data
returns-clause-shallow c =
    shown_within c.list_json.result c.args.table c.args.payload.now c.list_json.ensures

pub returns-clause-whole_numbers : goal.returns-clause-whole_numbers
unfolding attributes_data
returns-clause-whole_numbers c =
    shown_whole c.list_json.result c.args.table c.args.payload.now c.list_json.ensures
