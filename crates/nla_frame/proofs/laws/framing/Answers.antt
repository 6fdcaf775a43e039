use Rattle.std.proofs.Common.{arith, sym, subst, List, ◌++◌, ℕ}
use Rattle.nla_frame.specs.Framing.{Frames}
use Rattle.nla_frame.proofs.Framing.{split_is, split_only, list_string_splits, splits_append}
use Rattle.nla_frame.proofs.Stepping.{nla_items_split}
use Rattle.nla_frame.proofs.laws.framing.Goals as goal

pub returns-clause-computed : goal.returns-clause-computed
returns-clause-computed c = nla_items_split c.args.bytes.now

pub returns-clause-splits : goal.returns-clause-splits
returns-clause-splits c = split_is c.args.bytes.now (λ i. omega (arith, c.type_inv.bytes i))

pub returns-clause-only : goal.returns-clause-only
returns-clause-only c = λ front left h. split_only c.args.bytes.now front left h

pub returns-clause-canonical : goal.returns-clause-canonical
returns-clause-canonical c = λ attributes h e.
    subst (λ (s : List ℕ). Frames s attributes) (sym e) (list_string_splits attributes h)

pub returns-clause-appended : goal.returns-clause-appended
returns-clause-appended c = λ a b first second e four h k.
    subst (λ (s : List ℕ). Frames s (first ++ second)) (sym e)
    (splits_append a b first second four h k)
