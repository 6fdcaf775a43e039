-- A value more is the first of those that follow.
use Rattle.std.proofs.Common.{
  ◌≡◌,
  ◌%◌,
  ◌<◌,
  ◌∷◌,
  ◌++◌,
  [],
  append_assoc,
  ap,
  arith,
  drop,
  length,
  sym,
  take,
  ◌∙◌,
}
use Rattle.std.proofs.lemmas.Grind.{common_steps}
use Rattle.linkinfo_payloads.specs.Arrays.{array_of, first_of}
use Rattle.linkinfo_payloads.proofs.numbers.NumbersExactPayload.from_payload.Goals as goal

pub split_at-requires : goal.split_at-requires
split_at-requires g c =
    let rest = c.loop-rest.rest.now in
    let some : 0 < length rest = grind (arith, common_steps) in
    let first =
    first_of g.N.Fixed.WIDTH g.N.Fixed.value_of g.met.N.Number.positive rest
    c.loop-rest.invariant.whole some in
    omega (arith, c.WIDTH-in-loop-rest.ensures, first.within)

pub loop-rest-preserved : goal.loop-rest-preserved
loop-rest-preserved g c =
    let width = g.N.Fixed.WIDTH in
    let of = g.N.Fixed.value_of in
    let rest = c.loop-rest.rest.now in
    let some : 0 < length rest = grind (arith, common_steps) in
    let first = first_of width of g.met.N.Number.positive rest c.loop-rest.invariant.whole some in
    let w = c.WIDTH-in-loop-rest.ensures in
    let front : c.split_at.result.0.now ≡ take width rest =
    c.split_at.ensures.front ∙ ap (λ n. take n rest) w in
    let back : c.split_at.result.1.now ≡ drop width rest =
    c.split_at.ensures.back ∙ ap (λ n. drop n rest) w in
    let x : c.read.result ≡ of (take width rest) = c.read.ensures ∙ ap of front in
    let old = c.loop-rest.items.items in
    let after = array_of width of c.split_at.result.1.now in
    record {
      so_far =
          ap (λ items. items ++ after) c.in_ok-push.ensures.items
          ∙ append_assoc old (c.read.result ∷ []) after
          ∙ (λ i. old ++ x i ∷ array_of width of (back i))
          ∙ ap (λ items. old ++ items) (sym first.array_is)
          ∙ c.loop-rest.invariant.so_far;
      whole = ap (λ p. length p % width) back ∙ first.rest;
      memory = c.loop-rest.invariant.memory;
    }
