use Rattle.std.proofs.Common.{◌≡◌, Option, Some, None, refl}
use Rattle.std.proofs.lemmas.List.{take_min}
use Rattle.linkinfo_table.specs.Difference.{first_or}
use Rattle.linkinfo_print.proofs.compare.kind_before.Goals as goal

first_or_none : {A : Type 0} (o : Option A) → first_or o None ≡ o
first_or_none (Some x) = refl
first_or_none None = refl

pub loop-attribute-init : goal.loop-attribute-init
loop-attribute-init c =
    rw (c.min.ensures, take_min c.args.offset c.args.bytes.now)
    (first_or_none _)
