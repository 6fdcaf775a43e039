-- What finding the last attribute of a type rests on.
use Rattle.std.specs.Prelude.{
  ◌≡◌,
  ◌==◌,
  ◌≢◌,
  ◌+◌,
  ◌-◌,
  ◌<◌,
  ◌≤◌,
  ℕ,
  zero,
  suc,
  Bool,
  true,
  false,
  List,
  [],
  ◌∷◌,
  drop,
  get_or,
  length,
  max,
  slice_range,
  take,
  Option,
  None,
  Some,
  Result,
  Ok,
  refl,
  if◌then◌else◌,
  IfSome,
}
use Rattle.std.specs.List.{AllByRecursion, filter, last_or}
use Rattle.std.proofs.Common.{sym, ap, ◌∙◌, arith, inl, inr}
use Rattle.std.proofs.Math.ListN.{set}
use Rattle.std.proofs.lemmas.Bool.Decides.{eqb_tells, nat_tests}
use Rattle.std.proofs.lemmas.Grind.{get_or-set_at}
use Rattle.std.proofs.lemmas.List.{drop-drop, drop_all, drop-take, get_or-set_other, get_or-take}
use Rattle.std.proofs.lemmas.List.{length-drop, length-take, take-take}
use Rattle.std.proofs.lemmas.Bool.{cases_Bool}
use Rattle.nla_frame.specs.Attribute.{Attribute, aligned, masked}
use Rattle.nla_frame.specs.Framing.{kind_field, length_field}
use Rattle.nla_frame.specs.NlaItems.{GoesOn, after_first, attribute_at, first_attribute}
use Rattle.nla_frame.specs.NlaItems.{has_no_header, nla_items, nla_items_of, split, split_up_to}
use Rattle.nla_frame.specs.declared.error.DecodeError.{DecodeError}
use Rattle.nla_frame.proofs.Stepping.{nla_items_nil}
use Rattle.linkinfo_table.specs.Last.{
  Indexed,
  StandsIn,
  attributes_of,
  covers,
  has_type,
  indexed_last,
  last_of_type,
  offset_of,
  placed_from,
}
use Rattle.linkinfo_table.specs.declared.last.PlacedNla.{PlacedNla}

-- the attributes of a source from where a rest of it begins
abbrev pub left_of : List ℕ → List ℕ → List PlacedNla
left_of source rest = placed_from (length source - length rest) (nla_items rest)

-- ---- the attributes that are left

pub left_at_start : (source : List ℕ) → left_of source source ≡ attributes_of source
unfolding attributes_of
left_at_start source = ap (λ (n : ℕ). placed_from n (nla_items source)) (omega arith)

-- what is said of attributes from an offset on is said from their offset in the source, since the
-- offset does not matter where nothing follows
pub moved : {R : Type 0} (from : ℕ → List (Result Attribute ℕ) → R) →
    ((m n : ℕ) → from m [] ≡ from n []) → (n k : ℕ) (source rest after : List ℕ) →
    length rest ≤ length source → n ≡ length source - length rest → after ≡ drop k rest →
    from (n + k) (nla_items after) ≡ from (length source - length after) (nla_items after)
moved from ends n k source rest [] le is e = rw nla_items_nil (ends (n + k) (length source - 0))
moved from ends n k source rest (b ∷ more) le is e =
    ap (λ (m : ℕ). from m (nla_items (b ∷ more)))
    (omega (arith, le, is, ap length e, length-drop k rest))

pub left_at_attribute : (source rest after : List ℕ) (a : Attribute) (old new : ℕ) →
    GoesOn rest old new a after → length rest ≤ length source →
    left_of source rest
    ≡ record { offset = length source - length rest; nla = a } ∷ left_of source after
left_at_attribute source rest after a old new step le =
    let n = length source - length rest in
    let same =
    moved placed_from (λ m k. refl) n (aligned (4 + length a.value)) source rest after le refl
    step.rest_is in
    rw (step.nla_items_are, same) refl

-- ---- the last one of a type

-- the offset of the last attribute of a type in the rest of a source, otherwise that from before
abbrev offsets_in : ℕ → List PlacedNla → List ℕ
offsets_in kind [] = []
offsets_in kind (p ∷ more) = if has_type kind p then p.offset ∷ offsets_in kind more
    else offsets_in kind more

abbrev pub last_from : Option ℕ → ℕ → List ℕ → List ℕ → Option ℕ
last_from before kind source rest =
    last_or before (offsets_in kind (left_of source rest))

-- .. which is that of the list
last_is : (kind : ℕ) (before : Option PlacedNla) (list : List PlacedNla) →
    last_or (offset_of before) (offsets_in kind list)
    ≡ offset_of (last_or before (filter (has_type kind) list))
last_is kind before [] = refl
last_is kind before (p ∷ more) =
    elim (cases_Bool (has_type kind p)) [
      | inl is ↦ rw is (last_is kind (Some p) more)
      | inr other ↦ rw other (last_is kind before more)
    ]

-- at the beginning ..
pub from_start : (kind : ℕ) (source : List ℕ) →
    last_from None kind source source ≡ offset_of (last_of_type kind (attributes_of source))
from_start kind source = rw (left_at_start source) (last_is kind None (attributes_of source))

-- .. at an attribute ..
pub from_attribute : (before : Option ℕ) (kind : ℕ) (source rest after : List ℕ) (a : Attribute)
    (old new : ℕ) → GoesOn rest old new a after → length rest ≤ length source →
    last_from before kind source rest
    ≡ last_from (if masked a.kind == kind then Some (length source - length rest) else before)
    kind source after
from_attribute before kind source rest after a old new step le =
    rw (left_at_attribute source rest after a old new step le)
    (elim (cases_Bool (masked a.kind == kind)) [
      | inl is ↦ rw is refl
      | inr other ↦ rw other refl
    ])

-- ---- the entries

-- a covered type is less than 64 above the first one
pub in_index : (first kind : ℕ) → covers first kind ≡ true → (kind - first < 64) × (first ≤ kind)
in_index first kind h = (grind (arith, nat_tests, h), grind (arith, nat_tests, h))

-- one entry is set
pub set_at : (entries : List (Option ℕ)) (first k kind : ℕ) (new : Option ℕ) →
    length entries ≡ 64 → covers first k ≡ true → covers first kind ≡ true →
    get_or (set entries (k - first) new) (kind - first) None
    ≡ (if k == kind then new else get_or entries (kind - first) None)
set_at entries first k kind new whole one other =
    let at = in_index first k one in
    let there = in_index first kind other in
    elim (eqb_tells k kind) [
      | inl same ↦
          rw same.0 (get_or-set_at entries (k - first) (kind - first) new None
          (ap (λ (n : ℕ). n - first) (sym same.1)) (omega (arith, at.0, whole)))
      | inr differ ↦
          rw differ.0 (get_or-set_other entries (k - first) (kind - first) new None
          (λ e. differ.1 (omega (arith, e, at.1, there.1))))
    ]

-- what `entry_of` says of a type that has an entry, and of one that has none
pub entry_is : (first k entry : ℕ) → (o : Option ℕ) → o ≡ Some entry →
    o ≡ (if covers first k then Some (k - first) else None) →
    (covers first k ≡ true) × (entry ≡ k - first)
entry_is first k entry o is e =
    elim (cases_Bool (covers first k)) [
      | inl covered ↦ (covered, (let told = rw covered at (sym is ∙ e) in cc))
      | inr not ↦ absurd (let told = rw not at (sym is ∙ e) in cc)
    ]

pub no_entry : (first k : ℕ) (o : Option ℕ) → o ≡ None →
    o ≡ (if covers first k then Some (k - first) else None) → covers first k ≡ false
no_entry first k o is e =
    elim (cases_Bool (covers first k)) [
      | inl covered ↦ absurd (let told = rw covered at (sym is ∙ e) in cc)
      | inr not ↦ not
    ]

-- a covered type is not one that has no entry
pub not_covered : (first k kind masked : ℕ) → k ≡ masked → covers first k ≡ false →
    covers first kind ≡ true → masked ≢ kind
not_covered first k kind masked typed none covered e =
    absurd (let told = rw (typed ∙ e, covered) at none in cc)

pub of_other : (k kind : ℕ) (new old : Option ℕ) → k ≢ kind →
    (if k == kind then new else old) ≡ old
of_other k kind new old differ =
    elim (eqb_tells k kind) [
      | inl same ↦ absurd (differ same.1)
      | inr other ↦ rw other.0 refl
    ]

-- ---- the least number above all types

pub masked_small : (kind : ℕ) → masked kind < 16384
masked_small kind = grind arith

pub none_yet : (n : ℕ) → max 0 n ≡ n
none_yet n = grind (arith, nat_tests)

pub end_raised : (end k left : ℕ) → end ≤ k → max (k + 1) left ≡ max end (max (k + 1) left)
end_raised end k left le = grind (arith, nat_tests, le)

pub end_kept : (end k left : ℕ) → k < end → max end left ≡ max end (max (k + 1) left)
end_kept end k left lt = grind (arith, nat_tests, lt)

-- ---- the attribute at an offset

abbrev read_as : Attribute → Result Attribute DecodeError
read_as a = Ok a

read_is : (a b : Attribute) → read_as a ≡ read_as b → a ≡ b
read_is a b h = cc

-- each attribute is at its offset
abbrev AllStand : List ℕ → List PlacedNla → Type 0
AllStand s list = AllByRecursion (StandsIn s) list

field_is : (t : List ℕ) → has_no_header t ≡ false →
    length_field t ≡ 4 + length (first_attribute t).value
field_is t fine =
    grind (arith, nat_tests, length-take (length_field t - 4) (drop 4 t), length-drop 4 t, fine)

stand_up_to : (n offset : ℕ) (s t : List ℕ) → t ≡ drop offset s →
    AllStand s (placed_from offset (nla_items_of (split_up_to n t).front (split_up_to n t).left))
unfolding split_up_to attribute_at
stand_up_to zero offset s [] e = tt
stand_up_to zero offset s (b ∷ bytes) e = tt
stand_up_to (suc n) offset s [] e = tt
stand_up_to (suc n) offset s (b ∷ bytes) e =
    let t : List ℕ = b ∷ bytes in
    elim (cases_Bool (has_no_header t)) [
      | inl refused ↦ rw refused tt
      | inr fine ↦
          let step = aligned (length_field t) in
          let more = stand_up_to n (offset + step) s (after_first t)
          (ap (λ (r : List ℕ). drop step r) e ∙ drop-drop step offset s) in
          rw fine
          (rw (← e) (rw fine refl), rw (← field_is t fine) more)
    ]

pub all_stand : (s : List ℕ) → AllStand s (attributes_of s)
unfolding attributes_of nla_items split
all_stand s = stand_up_to (length s) 0 s s refl

-- what holds of each element holds of the last one that passes a test, which passes it
pub last_holds : {A : Type 0} (P : A → Type 0) (test : A → Bool) (before : Option A)
    (list : List A) →
    AllByRecursion P list → IfSome before P → IfSome (last_or before (filter test list)) P
last_holds P test before [] all h = h
last_holds P test before (x ∷ more) all h =
    elim (cases_Bool (test x)) [
      | inl passes ↦ rw passes (last_holds P test (Some x) more all.1 all.0)
      | inr other ↦ rw other (last_holds P test before more all.1 h)
    ]

pub last_passes : {A : Type 0} (test : A → Bool) (before : Option A) (list : List A) →
    IfSome before (λ x. test x ≡ true) →
    IfSome (last_or before (filter test list)) (λ x. test x ≡ true)
last_passes test before [] h = h
last_passes test before (x ∷ more) h =
    elim (cases_Bool (test x)) [
      | inl passes ↦ rw passes (last_passes test (Some x) more passes)
      | inr other ↦ rw other (last_passes test before more h)
    ]

pub last_stands : (kind : ℕ) (s : List ℕ) →
    IfSome (last_of_type kind (attributes_of s)) (StandsIn s)
last_stands kind s =
    last_holds (StandsIn s) (has_type kind) None (attributes_of s) (all_stand s) tt

pub indexed_stands : (index : Indexed) (kind : ℕ) →
    IfSome (indexed_last index kind) (StandsIn index.source)
indexed_stands index kind =
    elim (cases_Bool (covers index.first kind)) [
      | inl covered ↦ rw covered (last_stands kind index.source)
      | inr not ↦ rw not tt
    ]

-- it is within the string
ok_within : (t : List ℕ) (a : Attribute) → attribute_at t ≡ Ok a → 4 + length a.value ≤ length t
unfolding attribute_at
ok_within t a e =
    elim (cases_Bool (has_no_header t)) [
      | inl refused ↦ absurd (let h = rw refused at e in cc)
      | inr fine ↦
          let h = rw fine at e in
          let first : first_attribute t ≡ a = read_is _ _ h in
          grind (
            arith,
            nat_tests,
            field_is t fine,
            ap (λ (x : Attribute). length x.value) first,
            fine,
          )
    ]

pub stands_within : (s : List ℕ) (placed : PlacedNla) → StandsIn s placed →
    placed.offset + (4 + length placed.nla.value) ≤ length s
stands_within s placed h =
    omega (arith, ok_within (drop placed.offset s) placed.nla h, length-drop placed.offset s)

pub found_there : (s : List ℕ) (found : Option PlacedNla) (offset : ℕ) → IfSome found (StandsIn s) →
    offset_of found ≡ Some offset →
    (placed : PlacedNla) × (found ≡ Some placed) × (placed.offset ≡ offset) × StandsIn s placed
found_there s None offset h e = absurd cc
found_there s (Some placed) offset h e = (placed, refl, cc, h)

attribute_is : (a b : Attribute) → a.kind ≡ b.kind → a.value ≡ b.value → a ≡ b
attribute_is a b k v =
    ap (λ (n : ℕ). record { kind = n; value = a.value }) k
    ∙ ap (λ (x : List ℕ). record { kind = b.kind; value = x }) v

placed_is : (p q : PlacedNla) → p.offset ≡ q.offset → p.nla ≡ q.nla → p ≡ q
placed_is p q o n =
    ap (λ (x : ℕ). record { offset = x; nla = p.nla }) o
    ∙ ap (λ (x : Attribute). record { offset = q.offset; nla = x }) n

pub same_at : (s : List ℕ) (p q : PlacedNla) → StandsIn s p → StandsIn s q →
    p.offset ≡ q.offset →
    p ≡ q
same_at s p q hp hq e =
    let there : attribute_at (drop p.offset s) ≡ attribute_at (drop q.offset s) =
    ap (λ (n : ℕ). attribute_at (drop n s)) e in
    let same : p.nla ≡ q.nla = read_is _ _ (sym hp ∙ there ∙ hq) in
    placed_is p q e same

-- ---- an attribute by itself

-- bytes of which the header takes all
one_alone : (t : List ℕ) → has_no_header t ≡ false → length t ≤ length_field t →
    nla_items t ≡ Ok (first_attribute t) ∷ []
unfolding nla_items split split_up_to
one_alone [] fine h = absurd cc
one_alone (b ∷ bytes) fine h =
    let t : List ℕ = b ∷ bytes in
    let none : after_first t ≡ [] = drop_all (aligned (length_field t)) t (omega (arith, h)) in
    rw fine (rw none (none_left (length bytes)))
  where
    none_left : (n : ℕ) →
        nla_items_of (first_attribute (b ∷ bytes) ∷ (split_up_to n []).front)
        (split_up_to n []).left
        ≡ Ok (first_attribute (b ∷ bytes)) ∷ []
    none_left zero = refl
    none_left (suc n) = refl

-- the bytes that the header at the front counts
module _ (t : List ℕ) (n : ℕ) (fine : has_no_header t ≡ false) (is : n ≡ length_field t) where
  low : 4 ≤ n
  low = grind (arith, nat_tests, fine, is)

  high : n ≤ length t
  high = grind (arith, nat_tests, fine, is)

  same_field : length_field (take n t) ≡ length_field t
  same_field =
      rw (get_or-take n t 0 0 (omega (arith, low)), get_or-take n t 1 0 (omega (arith, low))) refl

  same_kind : kind_field (take n t) ≡ kind_field t
  same_kind =
      rw (get_or-take n t 2 0 (omega (arith, low)), get_or-take n t 3 0 (omega (arith, low))) refl

  all_of_them : length (take n t) ≡ n
  all_of_them = omega (arith, length-take n t, high)

  still_fine : has_no_header (take n t) ≡ false
  still_fine = grind (arith, nat_tests, same_field, all_of_them, low, high, is)

  same_value : (first_attribute (take n t)).value ≡ (first_attribute t).value
  same_value =
      let m = n - 4 in
      let whole : n ≡ 4 + m = omega (arith, low) in
      ap (λ (k : ℕ). slice_range (take n t) 4 k) (same_field ∙ sym is)
      ∙ ap (λ (k : ℕ). take m (drop 4 (take k t))) whole
      ∙ ap (λ (v : List ℕ). take m v) (drop-take 4 m t)
      ∙ take-take m m (drop 4 t) (omega arith)
      ∙ ap (λ (k : ℕ). slice_range t 4 k) is

  first_alone : nla_items (take n t) ≡ Ok (first_attribute t) ∷ []
  first_alone =
      one_alone (take n t) still_fine (omega (arith, all_of_them, same_field, is))
      ∙ ap (λ (a : Attribute). Ok a ∷ []) (attribute_is _ _ same_kind same_value)

-- .. are it alone
pub alone : (s : List ℕ) (placed : PlacedNla) (n : ℕ) → StandsIn s placed →
    n ≡ 4 + length placed.nla.value → nla_items (take n (drop placed.offset s)) ≡ Ok placed.nla ∷ []
unfolding attribute_at
alone s placed n h e =
    let t = drop placed.offset s in
    elim (cases_Bool (has_no_header t)) [
      | inl refused ↦ absurd (let k = rw refused at h in cc)
      | inr fine ↦
          let k = rw fine at h in
          let first : first_attribute t ≡ placed.nla = read_is _ _ k in
          let counts : n ≡ length_field t =
          e ∙ ap (λ (a : Attribute). 4 + length a.value) (sym first) ∙ sym (field_is t fine) in
          first_alone t n fine counts ∙ ap (λ (a : Attribute). Ok a ∷ []) first
    ]
