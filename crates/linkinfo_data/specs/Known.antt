-- What is known of every payload: validating it gives the verdict on what it means.
use Rattle.std.specs.Prelude.{◌≡◌, List, ℕ, Result, Ok, Err, refl}
use Rattle.nla_frame.specs.Answers.{verdict}
use Rattle.nla_frame.specs.NlaItems.{nla_items}
use Rattle.nla_frame.specs.declared.error.DecodeError.{DecodeError}
use Rattle.linkinfo_table.specs.Lists.{◌>>=◌, first_meaning, values}
use Rattle.linkinfo_table.specs.Members.{Members}
use Rattle.linkinfo_data.specs.Payloads.{Payload, as_first, as_list}

abbrev pub IsKnown : {X : Type 0} → Payload X → Type 0
IsKnown payload = (p : List ℕ) → verdict (payload.means p) ≡ payload.verdicts p

-- a variant changes no verdict
verdict_under : {A X : Type 0} (r : Result A DecodeError) (label : A → X) →
    verdict (r >>= λ x. Ok (label x)) ≡ verdict r
verdict_under (Ok x) label = refl
verdict_under (Err e) label = refl

pub list_is_known : {A X : Type 0} (f : Members A) (label : List A → X) → IsKnown (as_list f label)
list_is_known f label p = verdict_under (values f.meaning (nla_items p)) label

pub first_is_known : {A X : Type 0} (f : Members A) (label : A → X) → IsKnown (as_first f label)
first_is_known f label p = verdict_under (first_meaning f.meaning (nla_items p)) label
