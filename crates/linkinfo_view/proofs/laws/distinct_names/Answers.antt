use Rattle.linkinfo_view.proofs.Rows.{all_distinct}
use Rattle.linkinfo_view.proofs.laws.distinct_names.Goals as goal

pub returns : goal.returns
returns c = all_distinct
