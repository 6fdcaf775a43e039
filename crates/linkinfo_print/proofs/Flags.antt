-- The flags of a link, one after another.
use Rattle.std.proofs.Common.{
  ◌≡◌,
  ℕ,
  ◌+◌,
  ◌<◌,
  List,
  [],
  ◌++◌,
  drop,
  get_or,
  length,
  refl,
  sym,
  ap,
  ◌∙◌,
  append_assoc,
  append-nil,
  subst,
}
use Rattle.std.proofs.lemmas.List.{drop_more}
use Rattle.std.specs.List.{flat_map}
use Rattle.serde_json.specs.Data.{Data}
use Rattle.linkinfo_print.specs.MessageData.{link_flags, one_flag}

pub length-link_flags : length link_flags ≡ 18
unfolding link_flags
length-link_flags = refl

-- after the flag at an index, those that follow it are left
pub next_flag : (n : ℕ) (fs : List (List ℕ × ℕ)) (i : ℕ) (before after whole : List Data) →
    i < length fs → after ≡ before ++ one_flag n (get_or fs i ([], 0)) →
    before ++ flat_map (one_flag n) (drop i fs) ≡ whole →
    after ++ flat_map (one_flag n) (drop (i + 1) fs) ≡ whole
next_flag n fs i before after whole lt pushed so_far =
    ap (λ (ds : List Data). ds ++ flat_map (one_flag n) (drop (i + 1) fs)) pushed
    ∙ append_assoc before (one_flag n (get_or fs i ([], 0)))
    (flat_map (one_flag n) (drop (i + 1) fs))
    ∙ ap (λ (gs : List (List ℕ × ℕ)). before ++ flat_map (one_flag n) gs)
    (sym (drop_more fs i ([], 0) lt))
    ∙ so_far

-- after the last flag none is left
pub all_flags : (n i : ℕ) (before whole : List Data) → i ≡ 18 →
    before ++ flat_map (one_flag n) (drop i link_flags) ≡ whole → before ≡ whole
unfolding link_flags
all_flags n i before whole end so_far =
    sym (append-nil before)
    ∙ subst (λ (k : ℕ). before ++ flat_map (one_flag n) (drop k link_flags) ≡ whole) end so_far
