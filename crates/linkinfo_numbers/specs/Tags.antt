-- Tables of kinds by their names, and the tags of kinds.
use Rattle.std.specs.Prelude.{
  ◌≡◌,
  ◌≢◌,
  ℕ,
  ◌==◌,
  Bool,
  true,
  false,
  if◌then◌else◌,
  List,
  [],
  ◌∷◌,
  length,
  filter,
  Option,
  Some,
}
use Rattle.std.specs.Prelude.{None, unwrap_or, refl}
use Rattle.std.specs.Bool.{Decides}
use Rattle.std.specs.Cmp.{first_so, second_so}
use Rattle.std.specs.List.{list_all, list_any, AllByRecursion}
use Rattle.std.specs.Str.{is_utf8}
use Rattle.std.proofs.Common.{◌⊎◌, inl, inr, sym, ap, ◌∙◌, ◌<◌, zero, suc, ltb, get_or, lit<}
use Rattle.std.proofs.lemmas.Bool.Decides.{Decides-eqb, Decides-ltb}
use Rattle.std.proofs.lemmas.Str.{IsUtf8-from_ascii, is_utf8-from_IsUtf8}
use Rattle.linkinfo_numbers.specs.Table.{
  Table,
  IsTable,
  IsProper,
  value_of,
  value_of-key,
  part_of_first,
  part_of_first-then,
}
use Rattle.linkinfo_numbers.specs.Table.{part_of_first-missed, all_along}

-- the tag of each kind, and the kind of each tag except that of `Other`
pub record Tags (T K : Type 0) : Type 0 where
  pub tag : K → T
  pub kind : T → Option K

-- the tag of the first of these kinds with this name
abbrev pub tag_among : {T K : Type 0} → Table (List ℕ) K → Tags T K → List K → List ℕ → T
tag_among N G ks name = part_of_first (λ k. N.same (N.key k) name) G.tag (G.tag (N.other name)) ks

-- the tag of a name
abbrev pub tag_at : {T K : Type 0} → Table (List ℕ) K → Tags T K → List ℕ → T
tag_at N G name = tag_among N G N.named name

-- the kind is `Other`, or the kind of its tag
abbrev pub IsOtherOrTagged : {T K : Type 0} → Table (List ℕ) K → Tags T K → K → Type 0
IsOtherOrTagged N G k = (k ≡ N.other (N.key k)) ⊎ (G.kind (G.tag k) ≡ Some k)

-- every kind but `Other` is the kind of its tag, and `Other` is the kind of no tag
pub record IsTagged {T K : Type 0} (N : Table (List ℕ) K) (G : Tags T K) : Type 0 where
  pub tagged : (k : K) → IsOtherOrTagged N G k
  pub other_untagged : (name : List ℕ) → G.kind (G.tag (N.other name)) ≡ None

all_so : {T : Type 0} (Q : T → Type 0) → ((x : T) → Q x) → (xs : List T) → AllByRecursion Q xs
all_so Q f [] = tt
all_so Q f (x ∷ xs) = (f x, all_so Q f xs)

-- the tag of the kind of a name is the tag of that name
pub tag-value_of : {T K : Type 0} (N : Table (List ℕ) K) (G : Tags T K) (name : List ℕ) →
    G.tag (value_of N name) ≡ tag_at N G name
tag-value_of N G name =
    part_of_first-then G.tag (λ k. N.same (N.key k) name) (λ k. k) G.tag (N.other name)
    (G.tag (N.other name)) N.named
    (all_so (λ k. G.tag k ≡ G.tag k) (λ k. refl) N.named) refl

named_tagged : {T K : Type 0} (N : Table (List ℕ) K) (G : Tags T K) (name : List ℕ) (k : K) →
    IsOtherOrTagged N G k →
    k ≢ N.other (N.key k) →
    unwrap_or (G.kind (G.tag k)) (N.other name) ≡ k
named_tagged N G name k (inl q) apart = absurd (apart q)
named_tagged N G name k (inr e) apart = ap (λ o. unwrap_or o (N.other name)) e

-- the kind of a name is that of its tag, and otherwise `Other` of the name
pub kind-tag_at : {T K : Type 0} {N : Table (List ℕ) K} {G : Tags T K} → IsTable N → IsTagged N G →
    (name : List ℕ) →
    unwrap_or (G.kind (tag_at N G name)) (N.other name) ≡ value_of N name
kind-tag_at {N = N} {G = G} table h name =
    part_of_first-then (λ t. unwrap_or (G.kind t) (N.other name)) (λ k. N.same (N.key k) name) G.tag
    (λ k. k)
    (G.tag (N.other name)) (N.other name) N.named
    (all_along (λ k. k ≢ N.other (N.key k)) (λ k. unwrap_or (G.kind (G.tag k)) (N.other name) ≡ k)
    (λ k apart. named_tagged N G name k (h.tagged k) apart) N.named table.apart)
    (ap (λ o. unwrap_or o (N.other name)) (h.other_untagged name))

-- the tag of the text of a kind that is not `Other` of a known name is the tag of the kind
pub tag_at-key : {T K : Type 0} {N : Table (List ℕ) K} → IsTable N → (G : Tags T K) (k : K) →
    IsProper N k →
    tag_at N G (N.key k) ≡ G.tag k
tag_at-key {N = N} h G k proper =
    sym (tag-value_of N G (N.key k)) ∙ ap G.tag ((value_of-key h k).1 proper)

-- ---- looking a name up among the names of its length

kept_choice : {K A : Type 0} (passes : K → Bool) (part : K → A) (other : A) (k : K)
    (kept ks : List K) (right found : Bool) →
    (found ≡ true → right ≡ true) →
    part_of_first passes part other ks ≡ part_of_first passes part other kept → found ≡ passes k →
    part_of_first passes part other (k ∷ ks)
    ≡ part_of_first passes part other (if right then k ∷ kept else kept)
kept_choice passes part other k kept ks true true only same is = rw (← is) refl
kept_choice passes part other k kept ks true false only same is = rw (← is) same
kept_choice passes part other k kept ks false true only same is =
    let no : false ≡ true = only refl in cc
kept_choice passes part other k kept ks false false only same is = rw (← is) same

-- if only kept values pass, the first of the kept ones that passes is the first of all
pub part_of_first-filter : {K A : Type 0} (passes keeps : K → Bool) (part : K → A) (other : A) →
    ((k : K) → passes k ≡ true → keeps k ≡ true) → (ks : List K) →
    part_of_first passes part other ks ≡ part_of_first passes part other (filter keeps ks)
part_of_first-filter passes keeps part other only [] = refl
part_of_first-filter passes keeps part other only (k ∷ ks) =
    kept_choice passes part other k (filter keeps ks) ks (keeps k) (passes k) (only k)
    (part_of_first-filter passes keeps part other only ks) refl

-- looking a name up among the names of its length is enough
pub tag_among-of_length : {T K : Type 0} (N : Table (List ℕ) K) (G : Tags T K) →
    ((a b : List ℕ) → Decides (N.same a b) (a ≡ b)) →
    (ks : List K) (name : List ℕ) →
    tag_among N G ks name ≡ tag_among N G (filter (λ k. length (N.key k) == length name) ks) name
tag_among-of_length N G decides ks name =
    part_of_first-filter (λ k. N.same (N.key k) name) (λ k. length (N.key k) == length name) G.tag
    (G.tag (N.other name))
    (λ k found.
    (Decides-eqb (length (N.key k)) (length name)).1 (ap length ((decides (N.key k) name).0 found)))
    ks

none_of_length : {K : Type 0} (N : Table (List ℕ) K) →
    ((a b : List ℕ) → Decides (N.same a b) (a ≡ b)) →
    (lengths : List ℕ) (ks : List K) (name : List ℕ) →
    list_all (λ k. list_any (λ n. n == length (N.key k)) lengths) ks ≡ true →
    list_any (λ n. n == length name) lengths ≡ false →
    AllByRecursion (λ k. ¬ (N.same (N.key k) name ≡ true)) ks
none_of_length N decides lengths [] name known unknown = tt
none_of_length N decides lengths (k ∷ ks) name known unknown =
    let has : ℕ → Bool = λ m. list_any (λ n. n == m) lengths in
    let here : has (length (N.key k)) ≡ true =
    first_so (has (length (N.key k))) (list_all (λ r. has (length (N.key r))) ks) known in
    let rest : list_all (λ r. has (length (N.key r))) ks ≡ true =
    second_so (has (length (N.key k))) (list_all (λ r. has (length (N.key r))) ks) known in (
      λ found. let same : has (length (N.key k)) ≡ has (length name) =
          ap (λ s. has (length s)) ((decides (N.key k) name).0 found) in cc,
      none_of_length N decides lengths ks name rest unknown,
    )

-- a name of a length that no known name has is unknown
pub tag_among-other_length : {T K : Type 0} (N : Table (List ℕ) K) (G : Tags T K) →
    ((a b : List ℕ) → Decides (N.same a b) (a ≡ b)) →
    (lengths : List ℕ) (ks : List K) (name : List ℕ) →
    list_all (λ k. list_any (λ n. n == length (N.key k)) lengths) ks ≡ true →
    list_any (λ n. n == length name) lengths ≡ false →
    tag_among N G ks name ≡ G.tag (N.other name)
tag_among-other_length N G decides lengths ks name known unknown =
    part_of_first-missed (λ k. N.same (N.key k) name) G.tag (G.tag (N.other name)) ks
    (none_of_length N decides lengths ks name known unknown)

-- ---- names of ASCII

abbrev pub is_ascii : List ℕ → Bool
is_ascii bytes = list_all (λ b. ltb b 128) bytes

each_below : (bytes : List ℕ) → is_ascii bytes ≡ true → (i : ℕ) → get_or bytes i 0 < 128
each_below [] h i = lit< tt
each_below (b ∷ bytes) h zero = (Decides-ltb b 128).0 (first_so (ltb b 128) (is_ascii bytes) h)
each_below (b ∷ bytes) h (suc i) = each_below bytes (second_so (ltb b 128) (is_ascii bytes) h) i

pub ascii_is_utf8 : (bytes : List ℕ) → is_ascii bytes ≡ true → is_utf8 bytes ≡ true
ascii_is_utf8 bytes h = is_utf8-from_IsUtf8 bytes (IsUtf8-from_ascii bytes (each_below bytes h))
