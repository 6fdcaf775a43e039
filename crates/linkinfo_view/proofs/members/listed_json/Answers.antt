use Rattle.std.proofs.Common.{
  ◌≡◌,
  ℕ,
  List,
  ◌+◌,
  ◌-◌,
  IfOk,
  ap,
  sym,
  subst,
  ◌∙◌,
  string_bytes,
  arith,
}
use Rattle.serde_json.specs.Data.{string}
use Rattle.serde_json.specs.View.{view}
use Rattle.linkinfo_view.proofs.Places.{flags_end, flags_step}
use Rattle.linkinfo_view.specs.Values.{listed, or_zero, over_flags}
use Rattle.linkinfo_view.proofs.members.listed_json.Goals as goal

pub loop-place-preserved : goal.loop-place-preserved
loop-place-preserved c =
    let place = c.loop-place.place in
    ap (λ (s : List ℕ). over_flags listed (16 - (place + 1)) (place + 1) c.args.flags c.args.number
    s) c.in_ok-push_listed.ensures
    ∙ sym (flags_step listed place c.args.flags c.args.number (string_bytes c.loop-place.text)
    (omega arith))
    ∙ c.loop-place.invariant

pub returns : goal.returns
returns c =
    let text = sym (flags_end listed c.loop-place.place c.args.flags c.args.number
    (string_bytes c.loop-place.text) (omega arith))
    ∙ c.loop-place.invariant in
    subst (λ (s : List ℕ). IfOk c.or_zero_json.result (λ v. view v ≡ string (or_zero s))) text
    c.or_zero_json.ensures
