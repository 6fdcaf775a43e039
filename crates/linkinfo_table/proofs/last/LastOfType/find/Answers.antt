use Rattle.std.proofs.Common.{arith, ap, subst, sym, ◌∙◌, ◌≡◌, ℕ, refl, Option, Some}
use Rattle.linkinfo_table.specs.Last.{Indexed, StandsIn, indexed_last, offset_of}
use Rattle.linkinfo_table.specs.declared.last.PlacedNla.{PlacedNla}
use Rattle.linkinfo_table.proofs.Lasts.{found_there, indexed_stands, same_at, stands_within}
use Rattle.linkinfo_table.proofs.last.LastOfType.find.Goals as goal

abbrev There : Indexed → ℕ → ℕ → Type 0
There index kind offset =
    (placed : PlacedNla) × (indexed_last index kind ≡ Some placed)
    × (placed.offset ≡ offset) × StandsIn index.source placed

abbrev there : (index now : Indexed) (kind offset : ℕ) (found : Option ℕ) → now ≡ index →
    found ≡ offset_of (indexed_last now kind) → found ≡ Some offset →
    There index kind offset
there index now kind offset found same told was =
    subst (λ (i : Indexed). There i kind offset) same
    (found_there now.source (indexed_last now kind) offset (indexed_stands now kind)
    (sym told ∙ was))

pub placed_at-requires-clause-within : goal.placed_at-requires-clause-within
placed_at-requires-clause-within c =
    let at = there _ _ _ _ _ (sym c.self.view_is) c.offset.ensures c.in_ok-offset.was in
    omega (arith, at.2, stands_within _ at.0 at.3)

pub placed_at-requires-clause-attribute : goal.placed_at-requires-clause-attribute
placed_at-requires-clause-attribute c =
    let at = there _ _ _ _ _ (sym c.self.view_is) c.offset.ensures c.in_ok-offset.was in
    rw (← at.2, at.3) refl

pub returns-clause-last : goal.returns-clause-last
returns-clause-last c =
    let at = there _ _ _ _ _ (sym c.self.view_is) c.offset.ensures c.in_ok-offset.was in
    let is =
    same_at _ c.placed_at.result at.0 c.placed_at.ensures.stands at.3
    (c.placed_at.ensures.offset ∙ sym at.2) in
    rw (← c.self.view_is) (ap Some is ∙ sym at.1)
