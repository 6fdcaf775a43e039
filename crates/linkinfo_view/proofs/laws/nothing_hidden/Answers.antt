use Rattle.linkinfo_view.proofs.Kept.{keeps_others, keeps_rest, keeps_shown, names_distinct}
use Rattle.linkinfo_view.proofs.Rows.{all_distinct}
use Rattle.linkinfo_view.proofs.laws.nothing_hidden.Goals as goal

pub returns-clause-shown : goal.returns-clause-shown
returns-clause-shown c = λ t s. keeps_shown t (names_distinct t (all_distinct t)) s

pub returns-clause-others : goal.returns-clause-others
returns-clause-others c = λ t s. keeps_others t (names_distinct t (all_distinct t)) s

pub returns-clause-rest : goal.returns-clause-rest
returns-clause-rest c = keeps_rest
