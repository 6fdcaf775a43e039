-- Data that is a list, and data that is none.
use Rattle.std.specs.Prelude.{◌≡◌, ℕ, Bool, List, map, Option, None, Some, refl}
use Rattle.std.specs.Option.{option_map}
use Rattle.std.proofs.Common.{ap, sym, ◌∙◌}
use Rattle.nla_frame.specs.declared.error.Family.{Family}
use Rattle.linkinfo_table.specs.Contents.{Contents, ListOf, NoList}
use Rattle.linkinfo_table.specs.Difference.{
  inner_difference,
  pair_difference,
  payload_difference,
}
use Rattle.linkinfo_table.specs.Unmet.{inner_unmet}
use Rattle.linkinfo_table.specs.Unmets.{item_unmets}
use Rattle.linkinfo_table.specs.declared.last.PlacedNla.{PlacedNla}
use Rattle.linkinfo_data.specs.Lists.{difference_in, family_in, unmets_in}
use Rattle.linkinfo.specs.Placed.{error_in_payload}
use Rattle.linkinfo.specs.Unmets.{contents_unmets}
use Rattle.nla_frame.specs.declared.error.Family.TheVariants as family

pub error_of_none : (c : Contents) (p : List ℕ) → family_in c ≡ None → error_in_payload c p ≡ 4
error_of_none (NoList place count) p e = refl
error_of_none (ListOf l inside) p e = absurd cc

module _ (c : Contents) (p q : PlacedNla) where
  pub difference_of_none : (name : Family) (alike : Bool) → family_in c ≡ None →
      payload_difference c name alike p q ≡ pair_difference name alike p q
  difference_of_none name alike e = go c e
    where
      go : (c : Contents) → family_in c ≡ None →
          payload_difference c name alike p q ≡ pair_difference name alike p q
      go (NoList place count) e = refl
      go (ListOf l inside) e = absurd cc

  pub difference_of_list : (name found : Family) (alike : Bool) → family_in c ≡ Some found →
      payload_difference c name alike p q
      ≡ option_map (inner_difference p q) (difference_in c p.nla.value q.nla.value)
  difference_of_list name found alike e = go c e
    where
      go : (c : Contents) → family_in c ≡ Some found →
          payload_difference c name alike p q
          ≡ option_map (inner_difference p q) (difference_in c p.nla.value q.nla.value)
      go (NoList place count) e = absurd cc
      go (ListOf l inside) e = refl

  pub unmets_of_none : (met : Bool) → family_in c ≡ None →
      contents_unmets c met p q ≡ item_unmets family.LinkInfo met p q
  unmets_of_none met e = go c e
    where
      go : (c : Contents) → family_in c ≡ None →
          contents_unmets c met p q ≡ item_unmets family.LinkInfo met p q
      go (NoList place count) e = refl
      go (ListOf l inside) e = absurd cc

  pub unmets_of_list : (found : Family) (met : Bool) → family_in c ≡ Some found →
      contents_unmets c met p q ≡ map (inner_unmet q p) (unmets_in c p.nla.value q.nla.value)
  unmets_of_list found met e = go c e
    where
      go : (c : Contents) → family_in c ≡ Some found →
          contents_unmets c met p q ≡ map (inner_unmet q p) (unmets_in c p.nla.value q.nla.value)
      go (NoList place count) e = absurd cc
      go (ListOf l inside) e = refl

-- what is told of two lists is told of the attributes that they are in
pub inside_told : {A B : Type 0} (tell : List ℕ → List ℕ → Option A) (f : A → B)
    (p q x y : List ℕ) (inner : A) (outer : B) (told : Option B) → x ≡ p → y ≡ q →
    tell x y ≡ Some inner → outer ≡ f inner → told ≡ option_map f (tell p q) → Some outer ≡ told
inside_told tell f p q x y inner outer told first second is placed list =
    let here = sym (ap (λ z. tell z q) first) ∙ (sym (ap (λ z. tell x z) second) ∙ is) in
    ap (λ z. Some z) placed ∙ (sym (ap (option_map f) here) ∙ sym list)
