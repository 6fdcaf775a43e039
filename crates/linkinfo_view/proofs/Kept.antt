-- No attribute is hidden: names are distinct, so no member takes the place of another.
use Rattle.std.proofs.Common.{
  ◌≡◌,
  ℕ,
  zero,
  suc,
  Bool,
  true,
  false,
  not,
  cond,
  eqb,
  IsTrue,
  List,
  [],
  ◌∷◌,
  ◌++◌,
  Option,
  Some,
  None,
  Result,
  Ok,
  Err,
  ◌⊎◌,
  inl,
  inr,
  codes,
  refl,
  sym,
  ap,
  subst,
  ◌∙◌,
  bytes_eq,
}
use Rattle.std.proofs.lemmas.Bool.{and_parts, eqb-false, eqb-true, not-true, or_parts}
use Rattle.std.proofs.lemmas.Slice.Eq.{bytes_eq-Decides}
use Rattle.std.specs.List.{AllByRecursion, flat_map, list_any}
use Rattle.nla_frame.specs.Attribute.{Attribute, masked}
use Rattle.nla_frame.specs.declared.error.Cause.{Cause}
use Rattle.linkinfo_shapes.specs.Data as value
use Rattle.serde_json.specs.Data.{Data, Members, array, no_members, object, put}
use Rattle.serde_json.specs.Find.{get_member}
use Rattle.serde_json.specs.View.{items_of}
use Rattle.serde_json.proofs.Views.{get_member-put, get_member-put_other}
use Rattle.linkinfo_view.specs.Attributes.{attributes, has_type, rest_of}
use Rattle.linkinfo_view.specs.Laws.{
  HasMembers,
  KeepsOthers,
  KeepsRest,
  KeepsShown,
  are_distinct,
  flag_names,
  member_names,
  names_of,
}
use Rattle.linkinfo_view.specs.Lines.{Line}
use Rattle.linkinfo_view.specs.Table.{found, row_of, rows_of}
use Rattle.linkinfo_view.specs.Text.{hex_data}
use Rattle.linkinfo_view.specs.Values.{Named, bits_from, meant, options_from, with_bit, with_option}
use Rattle.linkinfo_view.specs.View.{
  attributes_data,
  format_members,
  label_of,
  list_data,
  members_meant,
  members_of,
  nested_data,
  other_data,
  others_in,
  others_member,
  others_with,
  put_all,
  put_shown,
  rest_member,
  row_before,
  row_unless,
  shown_in,
  supported_members,
  supported_modes,
}
use Rattle.linkinfo_view.specs.Words.{FlagRow, flag_at}
use Rattle.linkinfo_view.specs.declared.format.Flags.{Flags}
use Rattle.linkinfo_view.specs.declared.format.Flags.TheVariants as flags
use Rattle.linkinfo_view.specs.declared.format.Format.{Format}
use Rattle.linkinfo_view.specs.declared.format.Format.TheVariants as format
use Rattle.linkinfo_view.specs.declared.format.Table.{Table}

abbrev Text : Type 0
Text = List ℕ

-- a text is in a list; it is apart from all of a list; no text is in a list twice
abbrev Mem : Text → List Text → Type 0
Mem x [] = ⊥
Mem x (y ∷ ys) = (x ≡ y) ⊎ Mem x ys

abbrev Apart : Text → List Text → Type 0
Apart x ys = AllByRecursion (λ (y : Text). x ≡ y → ⊥) ys

abbrev Distinct : List Text → Type 0
Distinct [] = Unit {0}
Distinct (x ∷ xs) = Apart x xs × Distinct xs

-- from the test
other_texts : (x y : Text) → bytes_eq x y ≡ false → x ≡ y → ⊥
other_texts x y h e =
    let same : bytes_eq x y ≡ true = (bytes_eq-Decides x y).1 e in absurd (cc)

apart_from : (x : Text) (ys : List Text) → list_any (λ (y : Text). bytes_eq x y) ys ≡ false →
    Apart x ys
apart_from x [] h = tt
apart_from x (y ∷ ys) h =
    let parts = or_parts (bytes_eq x y) _ h in
    (other_texts x y parts.0, apart_from x ys parts.1)

distinct_from : (xs : List Text) → are_distinct xs ≡ true → Distinct xs
distinct_from [] h = tt
distinct_from (x ∷ xs) h =
    let parts = and_parts (not (list_any (λ (y : Text). bytes_eq x y) xs)) (are_distinct xs) h in
    (apart_from x xs (not-true _ parts.0), distinct_from xs parts.1)

apart_mem : (x y : Text) (ys : List Text) → Apart x ys → Mem y ys → x ≡ y → ⊥
apart_mem x y [] h m e = m
apart_mem x y (z ∷ ys) h (inl here) e = h.0 (e ∙ here)
apart_mem x y (z ∷ ys) h (inr later) e = apart_mem x y ys h.1 later e

-- two parts of a list of distinct texts
apart_left : (x : Text) (xs ys : List Text) → Apart x (xs ++ ys) → Apart x xs
apart_left x [] ys h = tt
apart_left x (z ∷ xs) ys h = (h.0, apart_left x xs ys h.1)

apart_right : (x : Text) (xs ys : List Text) → Apart x (xs ++ ys) → Apart x ys
apart_right x [] ys h = h
apart_right x (z ∷ xs) ys h = apart_right x xs ys h.1

distinct_left : (xs ys : List Text) → Distinct (xs ++ ys) → Distinct xs
distinct_left [] ys h = tt
distinct_left (x ∷ xs) ys h = (apart_left x xs ys h.0, distinct_left xs ys h.1)

distinct_right : (xs ys : List Text) → Distinct (xs ++ ys) → Distinct ys
distinct_right [] ys h = h
distinct_right (x ∷ xs) ys h = distinct_right xs ys h.1

parts_apart : (xs ys : List Text) (x y : Text) → Distinct (xs ++ ys) → Mem x xs → Mem y ys →
    x ≡ y → ⊥
parts_apart [] ys x y h m n e = m
parts_apart (z ∷ xs) ys x y h (inl here) n e =
    apart_mem z y ys (apart_right z xs ys h.0) n (sym here ∙ e)
parts_apart (z ∷ xs) ys x y h (inr later) n e = parts_apart xs ys x y h.1 later n e

mem_left : (x : Text) (xs ys : List Text) → Mem x xs → Mem x (xs ++ ys)
mem_left x [] ys m = absurd m
mem_left x (z ∷ xs) ys (inl here) = inl here
mem_left x (z ∷ xs) ys (inr later) = inr (mem_left x xs ys later)

mem_right : (x : Text) (xs ys : List Text) → Mem x ys → Mem x (xs ++ ys)
mem_right x [] ys m = m
mem_right x (z ∷ xs) ys m = inr (mem_right x xs ys m)

-- the names of rows
abbrev line_names : Line → List Text
line_names row = names_of row.name row.format

abbrev all_names : List (ℕ × Line) → List Text
all_names rows = flat_map (λ (row : ℕ × Line). names_of (row.1).name (row.1).format) rows

some_same : (p q : Line) → Some p ≡ Some q → p ≡ q
some_same p q h = cc

found_at : (n : ℕ) (p : ℕ × Line) (rest : Option Line) (row : Line) (b : Bool) →
    cond b (Some p.1) rest ≡ Some row →
    ((b ≡ true) × (row ≡ p.1)) ⊎ ((b ≡ false) × (rest ≡ Some row))
found_at n p rest row true h = inl (refl, some_same row p.1 (sym h))
found_at n p rest row false h = inr (refl, h)

found_names : (rows : List (ℕ × Line)) (n : ℕ) (row : Line) (x : Text) →
    found rows n ≡ Some row → Mem x (line_names row) → Mem x (all_names rows)
found_names [] n row x h m = absurd (cc)
found_names (p ∷ rows) n row x h m =
    elim (found_at n p (found rows n) row (eqb n p.0) h) [
      | inl here ↦ mem_left x (line_names p.1) (all_names rows)
          (subst (λ (q : Line). Mem x (line_names q)) here.1 m)
      | inr later ↦ mem_right x (line_names p.1) (all_names rows)
          (found_names rows n row x later.1 m)
    ]

row_distinct : (rows : List (ℕ × Line)) (n : ℕ) (row : Line) → Distinct (all_names rows) →
    found rows n ≡ Some row → Distinct (line_names row)
row_distinct [] n row d h = absurd (cc)
row_distinct (p ∷ rows) n row d h =
    elim (found_at n p (found rows n) row (eqb n p.0) h) [
      | inl here ↦ subst (λ (q : Line). Distinct (line_names q)) (sym here.1)
          (distinct_left (line_names p.1) (all_names rows) d)
      | inr later ↦ row_distinct rows n row
          (distinct_right (line_names p.1) (all_names rows) d) later.1
    ]

-- rows of two types have no name in common
rows_apart : (rows : List (ℕ × Line)) (n m : ℕ) (r q : Line) (x y : Text) →
    Distinct (all_names rows) → found rows n ≡ Some r → found rows m ≡ Some q → (n ≡ m → ⊥) →
    Mem x (line_names r) → Mem y (line_names q) → x ≡ y → ⊥
rows_apart [] n m r q x y d h g other in_r in_q e = cc
rows_apart (p ∷ rows) n m r q x y d h g other in_r in_q e =
    elim (found_at n p (found rows n) r (eqb n p.0) h) [
      | inl here ↦ elim (found_at m p (found rows m) q (eqb m p.0) g) [
        | inl there ↦ other (eqb-true n p.0 here.0 ∙ sym (eqb-true m p.0 there.0))
        | inr there ↦ parts_apart (line_names p.1) (all_names rows) x y d
            (subst (λ (l : Line). Mem x (line_names l)) here.1 in_r)
            (found_names rows m q y there.1 in_q) e
      ]
      | inr here ↦ elim (found_at m p (found rows m) q (eqb m p.0) g) [
        | inl there ↦ parts_apart (line_names p.1) (all_names rows) y x d
            (subst (λ (l : Line). Mem y (line_names l)) there.1 in_q)
            (found_names rows n r x here.1 in_r) (sym e)
        | inr there ↦ rows_apart rows n m r q x y
            (distinct_right (line_names p.1) (all_names rows) d) here.1 there.1 other in_r in_q e
      ]
    ]

-- the members of a row have some of its names, in order
abbrev Thins : List Named → List Text → Type 0
Thins xs [] = xs ≡ []
Thins xs (n ∷ ns) =
    Thins xs ns ⊎ ((d : Data) × (ys : List Named) × (xs ≡ (n, d) ∷ ys) × Thins ys ns)

thins_nil : (ns : List Text) → Thins [] ns
thins_nil [] = refl
thins_nil (n ∷ ns) = inl (thins_nil ns)

taken : (n : Text) (d : Data) (ys : List Named) (ns : List Text) → Thins ys ns →
    Thins ((n, d) ∷ ys) (n ∷ ns)
taken n d ys ns h = inr (d, ys, refl, h)

one_taken : (n : Text) (d : Data) (ns : List Text) → Thins ((n, d) ∷ []) (n ∷ ns)
one_taken n d ns = taken n d [] ns (thins_nil ns)

two_taken : (n m : Text) (d e : Data) → Thins ((n, d) ∷ (m, e) ∷ []) (n ∷ m ∷ [])
two_taken n m d e = taken n d ((m, e) ∷ []) (m ∷ []) (one_taken m e [])

three_taken : (n m o : Text) (d e f : Data) →
    Thins ((n, d) ∷ (m, e) ∷ (o, f) ∷ []) (n ∷ m ∷ o ∷ [])
three_taken n m o d e f =
    taken n d ((m, e) ∷ (o, f) ∷ []) (m ∷ o ∷ []) (two_taken m o e f)

-- the names of the flags at so many places
abbrev with_flag : Option FlagRow → List Text → List Text
with_flag None more = more
with_flag (Some flag) more = flag.name ∷ more

unfoldable names_at : ℕ → ℕ → Flags → List Text
names_at zero place flags = []
names_at (suc k) place flags = with_flag (flag_at flags place) (names_at k (suc place) flags)

flags_named : (flags : Flags) → names_at 16 0 flags ≡ flag_names flags
unfolding names_at
flags_named flags.Vlan = refl
flags_named _ = refl

bit_thins : (o : Option FlagRow) (n : ℕ) (more : List Named) (ns : List Text) → Thins more ns →
    Thins (with_bit o n more) (with_flag o ns)
bit_thins None n more ns h = h
bit_thins (Some flag) n more ns h = taken _ _ more ns h

bits_thin : (k place : ℕ) (flags : Flags) (n : ℕ) →
    Thins (bits_from k place flags n) (names_at k place flags)
unfolding names_at bits_from
bits_thin zero place flags n = refl
bits_thin (suc k) place flags n =
    bit_thins (flag_at flags place) n _ _ (bits_thin k (suc place) flags n)

if_thins : (b : Bool) (n : Text) (d : Data) (more : List Named) (ns : List Text) → Thins more ns →
    Thins (cond b ((n, d) ∷ more) more) (n ∷ ns)
if_thins true n d more ns h = taken n d more ns h
if_thins false n d more ns h = inl h

option_thins : (o : Option FlagRow) (n mask : ℕ) (more : List Named) (ns : List Text) →
    Thins more ns → Thins (with_option o n mask more) (with_flag o ns)
option_thins None n mask more ns h = h
option_thins (Some flag) n mask more ns h = if_thins _ _ _ more ns h

options_thin : (k place : ℕ) (flags : Flags) (n mask : ℕ) →
    Thins (options_from k place flags n mask) (names_at k place flags)
unfolding names_at options_from
options_thin zero place flags n mask = refl
options_thin (suc k) place flags n mask =
    option_thins (flag_at flags place) n mask _ _ (options_thin k (suc place) flags n mask)

of_flags : (flags : Flags) (xs : List Named) → Thins xs (names_at 16 0 flags) →
    Thins xs (flag_names flags)
of_flags flags xs h = subst (λ (ns : List Text). Thins xs ns) (flags_named flags) h

group_thins : (b : Bool) (name other : Text) (d : Data) →
    Thins ((cond b name other, d) ∷ []) (name ∷ other ∷ [])
group_thins true name other d = one_taken name d (other ∷ [])
group_thins false name other d = inl (one_taken other d [])

supported_thins : (o : Option ℕ) → Thins (supported_members o) (codes "ctrlmode_supported" ∷ [])
supported_thins None = inl refl
supported_thins (Some n) = one_taken _ _ []

format_thins : (nested : Table → List ℕ → Data) (name : Text) (f : Format) (v : value.Value)
    (payload : List ℕ) → Thins (format_members nested name f v payload) (names_of name f)
format_thins nested name (format.Mask flags) v payload = two_taken _ _ _ _
format_thins nested name format.FlowInfo v payload = three_taken _ _ _ _ _ _
format_thins nested name format.Group v payload = group_thins _ name (codes "remote") _
format_thins nested name format.Group6 v payload = group_thins _ name (codes "remote6") _
format_thins nested name (format.Bits flags) v payload =
    taken _ _ _ _ (of_flags flags _ (bits_thin 16 0 flags _))
format_thins nested name (format.Options flags) v payload =
    taken _ _ _ _ (of_flags flags _ (options_thin 16 0 flags _ _))
format_thins nested name (format.Names flags) v payload = two_taken _ _ _ _
format_thins nested name (format.SecondNames flags) v payload = two_taken _ _ _ _
format_thins nested name format.LacpState v payload = two_taken _ _ _ _
format_thins nested name format.Supported v payload =
    taken _ _ _ (codes "ctrlmode_supported" ∷ [])
    (supported_thins (supported_modes None (attributes payload)))
format_thins nested name f v payload = one_taken _ _ []

rejected : (f : Format) (name : Text) (d : Data) → Thins ((name, d) ∷ []) (names_of name f)
rejected (format.Mask flags) name d = one_taken name d (codes "group_fwd_mask_str" ∷ [])
rejected format.FlowInfo name d = one_taken name d (codes "tclass" ∷ codes "flowlabel" ∷ [])
rejected format.Group name d = one_taken name d (codes "remote" ∷ [])
rejected format.Group6 name d = one_taken name d (codes "remote6" ∷ [])
rejected (format.Bits flags) name d = one_taken name d (flag_names flags)
rejected (format.Options flags) name d = one_taken name d (flag_names flags)
rejected (format.Names flags) name d = one_taken name d (codes "flags_mask" ∷ [])
rejected (format.SecondNames flags) name d = one_taken name d (codes "ctrlmode_mask" ∷ [])
rejected format.LacpState name d = one_taken name d ((name ++ codes "_str") ∷ [])
rejected format.Supported name d = one_taken name d (codes "ctrlmode_supported" ∷ [])
rejected f name d = one_taken name d []

meant_thins : (nested : Table → List ℕ → Data) (row : Line) (payload : List ℕ)
    (r : Result value.Value Cause) → Thins (members_meant nested row payload r) (line_names row)
meant_thins nested row payload (Ok v) = format_thins nested row.name row.format v payload
meant_thins nested row payload (Err e) = rejected row.format row.name _

members_thin : (nested : Table → List ℕ → Data) (row : Line) (payload : List ℕ) →
    Thins (members_of nested row payload) (line_names row)
members_thin nested row payload = meant_thins nested row payload (meant row.shape payload)

-- so their names are among those of the row, and distinct
abbrev Within : List Named → List Text → Type 0
Within xs ns = AllByRecursion (λ (x : Named). Mem x.0 ns) xs

abbrev KeysApart : Text → List Named → Type 0
KeysApart k xs = AllByRecursion (λ (x : Named). k ≡ x.0 → ⊥) xs

abbrev DistinctKeys : List Named → Type 0
DistinctKeys [] = Unit {0}
DistinctKeys (x ∷ xs) = KeysApart x.0 xs × DistinctKeys xs

within_more : (xs : List Named) (n : Text) (ns : List Text) → Within xs ns → Within xs (n ∷ ns)
within_more [] n ns h = tt
within_more (x ∷ xs) n ns h = (inr h.0, within_more xs n ns h.1)

thins_within : (xs : List Named) (ns : List Text) → Thins xs ns → Within xs ns
thins_within xs [] h = subst (λ (ys : List Named). Within ys []) (sym h) tt
thins_within xs (n ∷ ns) (inl h) = within_more xs n ns (thins_within xs ns h)
thins_within xs (n ∷ ns) (inr h) = subst (λ (ys : List Named). Within ys (n ∷ ns)) (sym h.2)
    (inl refl, within_more h.1 n ns (thins_within h.1 ns h.3))

keys_apart : (k : Text) (ns : List Text) (xs : List Named) → Apart k ns → Within xs ns →
    KeysApart k xs
keys_apart k ns [] h w = tt
keys_apart k ns (x ∷ xs) h w =
    (λ e. apart_mem k x.0 ns h w.0 e, keys_apart k ns xs h w.1)

thins_distinct : (xs : List Named) (ns : List Text) → Distinct ns → Thins xs ns → DistinctKeys xs
thins_distinct xs [] d h = subst (λ (ys : List Named). DistinctKeys ys) (sym h) tt
thins_distinct xs (n ∷ ns) d (inl h) = thins_distinct xs ns d.1 h
thins_distinct xs (n ∷ ns) d (inr h) = subst (λ (ys : List Named). DistinctKeys ys) (sym h.2)
    (keys_apart n ns h.1 d.0 (thins_within h.1 ns h.3), thins_distinct h.1 ns d.1 h.3)

-- members that are put into an object
put_all_other : (q : Text) (xs : List Named) (ms : Members) → KeysApart q xs →
    get_member q (put_all xs ms) ≡ get_member q ms
put_all_other q [] ms h = refl
put_all_other q (x ∷ xs) ms h =
    put_all_other q xs (put x.0 x.1 ms) h.1 ∙ get_member-put_other q x.0 x.1 ms h.0

abbrev HaveAll : List Named → Members → Type 0
HaveAll xs ms = AllByRecursion (λ (x : Named). get_member x.0 ms ≡ Some x.1) xs

put_all_has : (xs : List Named) (ms : Members) → DistinctKeys xs → HaveAll xs (put_all xs ms)
put_all_has [] ms d = tt
put_all_has (x ∷ xs) ms d = (
  put_all_other x.0 xs (put x.0 x.1 ms) d.0 ∙ get_member-put x.0 x.1 ms,
  put_all_has xs (put x.0 x.1 ms) d.1,
)

-- later attributes leave them
keys_of_others : (rows : List (ℕ × Line)) (n m : ℕ) (r q : Line) (x : Text) (ys : List Named) →
    Distinct (all_names rows) → found rows n ≡ Some r → found rows m ≡ Some q → (n ≡ m → ⊥) →
    Mem x (line_names r) → Within ys (line_names q) → KeysApart x ys
keys_of_others rows n m r q x [] d h g other in_r w = tt
keys_of_others rows n m r q x (y ∷ ys) d h g other in_r w = (
  rows_apart rows n m r q x y.0 d h g other in_r w.0,
  keys_of_others rows n m r q x ys d h g other in_r w.1,
)

unless_some : (b : Bool) (t : Table) (kind : ℕ) (q : Line) → row_unless b t kind ≡ Some q →
    row_of t kind ≡ Some q
unless_some true t kind q h = absurd (cc)
unless_some false t kind q h = h

put_other : (t : Table) (n m : ℕ) (r : Line) (x : Text) (payload : List ℕ) (ms : Members)
    (o : Option Line) → Distinct (all_names (rows_of t)) → row_of t n ≡ Some r → (n ≡ m → ⊥) →
    Mem x (line_names r) → ((q : Line) → o ≡ Some q → row_of t m ≡ Some q) →
    get_member x (put_shown nested_data o payload ms) ≡ get_member x ms
put_other t n m r x payload ms None d h other in_r g = refl
put_other t n m r x payload ms (Some q) d h other in_r g =
    put_all_other x (members_of nested_data q payload) ms (
    keys_of_others (rows_of t) n m r q x (members_of nested_data q payload) d h (g q refl) other
    in_r
    (thins_within _ (line_names q) (members_thin nested_data q payload))
    )

shown_other : (t : Table) (n : ℕ) (r : Line) (x : Text) (later : List Attribute) (ms : Members) →
    Distinct (all_names (rows_of t)) → row_of t n ≡ Some r → Mem x (line_names r) →
    has_type n later ≡ false → get_member x (shown_in nested_data t later ms) ≡ get_member x ms
shown_other t n r x [] ms d h in_r none = refl
shown_other t n r x (b ∷ more) ms d h in_r none =
    let parts = or_parts (eqb (masked b.kind) n) (has_type n more) none in
    shown_other t n r x more (put_shown nested_data (row_before t b more) b.value ms) d h in_r
    parts.1
    ∙ put_other t n (masked b.kind) r x b.value ms (row_before t b more) d h
    (λ e. eqb-false (masked b.kind) n parts.0 (sym e)) in_r
    (λ q g. unless_some (has_type (masked b.kind) more) t (masked b.kind) q g)

keeps_all : (t : Table) (n : ℕ) (r : Line) (xs : List Named) (later : List Attribute)
    (ms : Members) → Distinct (all_names (rows_of t)) → row_of t n ≡ Some r →
    Within xs (line_names r)
    → has_type n later ≡ false → HaveAll xs ms
    → HaveAll xs (shown_in nested_data t later ms)
keeps_all t n r [] later ms d h w none has = tt
keeps_all t n r (x ∷ xs) later ms d h w none has = (
  shown_other t n r x.0 later ms d h w.0 none ∙ has.0,
  keeps_all t n r xs later ms d h w.1 none has.1,
)

-- the members of an attribute in a list
unless_none : (b : Bool) (t : Table) (kind : ℕ) (q : Line) → row_unless b t kind ≡ Some q →
    b ≡ false
unless_none true t kind q h = absurd (cc)
unless_none false t kind q h = refl

shown_has : (t : Table) (front : List Attribute) (a : Attribute) (later : List Attribute)
    (row : Line) (ms : Members) → Distinct (all_names (rows_of t)) →
    row_before t a later ≡ Some row →
    HaveAll (members_of nested_data row a.value) (shown_in nested_data t (front ++ a ∷ later) ms)
shown_has t [] a later row ms d h =
    let n = masked a.kind in
    let xs = members_of nested_data row a.value in
    let thin = members_thin nested_data row a.value in
    let here = unless_some (has_type n later) t n row h in
    let names = row_distinct (rows_of t) n row d here in
    subst (λ (o : Option Line). HaveAll xs (shown_in nested_data t later
    (put_shown nested_data o a.value ms))) (sym h)
    (keeps_all t n row xs later (put_all xs ms) d here
    (thins_within xs (line_names row) thin) (unless_none (has_type n later) t n row h)
    (put_all_has xs ms (thins_distinct xs (line_names row) names thin)))
shown_has t (f ∷ front) a later row ms d h =
    shown_has t front a later row
    (put_shown nested_data (row_before t f (front ++ a ∷ later)) f.value ms) d h

-- the others and the rest have names of their own
others_apart : (q : Text) (ds : List Data) (ms : Members) → (q ≡ codes "others" → ⊥) →
    get_member q (others_member ds ms) ≡ get_member q ms
others_apart q [] ms h = refl
others_apart q (x ∷ ds) ms h = get_member-put_other q (codes "others") _ ms h

rest_apart : (q : Text) (r : List ℕ) (ms : Members) → (q ≡ codes "rest" → ⊥) →
    get_member q (rest_member r ms) ≡ get_member q ms
rest_apart q [] ms h = refl
rest_apart q (b ∷ r) ms h = get_member-put_other q (codes "rest") _ ms h

object_has : (r : List ℕ) (ds : List Data) (ms : Members) (xs : List Named) (ns : List Text) →
    Apart (codes "others") ns → Apart (codes "rest") ns → Within xs ns → HaveAll xs ms →
    HasMembers xs (object (rest_member r (others_member ds ms)))
object_has r ds ms [] ns o p w h = tt
object_has r ds ms (x ∷ xs) ns o p w h = (
  rest_apart x.0 r (others_member ds ms) (λ e. apart_mem (codes "rest") x.0 ns p w.0 (sym e))
      ∙ others_apart x.0 ds ms (λ e. apart_mem (codes "others") x.0 ns o w.0 (sym e))
      ∙ h.0,
  object_has r ds ms xs ns o p w.1 h.1,
)

within_all : (rows : List (ℕ × Line)) (n : ℕ) (row : Line) (xs : List Named) →
    found rows n ≡ Some row → Within xs (line_names row) → Within xs (all_names rows)
within_all rows n row [] h w = tt
within_all rows n row (x ∷ xs) h w =
    (found_names rows n row x.0 h w.0, within_all rows n row xs h w.1)

pub keeps_shown : (t : Table) → Distinct (member_names t) → (s : List ℕ) → KeepsShown t s
unfolding attributes_data list_data
keeps_shown t d s = λ front a later row e h.
    let n = masked a.kind in
    let xs = members_of nested_data row a.value in
    let here = unless_some (has_type n later) t n row h in
    let within = within_all (rows_of t) n row xs here
    (thins_within xs (line_names row) (members_thin nested_data row a.value)) in
    let has : HaveAll xs (shown_in nested_data t (attributes s) no_members) =
    subst (λ (all : List Attribute). HaveAll xs (shown_in nested_data t all no_members)) (sym e)
    (shown_has t front a later row no_members ((d.1).1) h) in
    object_has (rest_of s) (others_in t (attributes s)) _ xs (all_names (rows_of t))
    ((d.0).1) ((d.1).0) within has

-- the others
one_more_before : (d : Data) (xs ys : List Data) → (before : List Data) × (xs ≡ before ++ ys) →
    (before : List Data) × (d ∷ xs ≡ before ++ ys)
one_more_before d xs ys h = (d ∷ h.0, ap (λ (zs : List Data). d ∷ zs) h.1)

before_one : (o : Option Line) (t : Table) (f : Attribute) (xs ys : List Data) →
    (before : List Data) × (xs ≡ before ++ ys) →
    (before : List Data) × (others_with o t f xs ≡ before ++ ys)
before_one None t f xs ys h = one_more_before _ xs ys h
before_one (Some row) t f xs ys h = h

others_split : (t : Table) (front : List Attribute) (a : Attribute) (later : List Attribute) →
    row_before t a later ≡ None → (before : List Data) × (others_in t (front ++ a ∷ later)
    ≡ before ++ other_data (label_of (row_of t (masked a.kind))) a ∷ others_in t later)
others_split t [] a later h =
    ([], ap (λ (o : Option Line). others_with o t a (others_in t later)) h)
others_split t (f ∷ front) a later h =
    before_one (row_before t f (front ++ a ∷ later)) t f _ _ (others_split t front a later h)

others_there : (before : List Data) (d : Data) (more ds : List Data) (ms : Members) →
    ds ≡ before ++ d ∷ more →
    get_member (codes "others") (others_member ds ms) ≡ Some (array (items_of ds))
others_there [] d more ds ms e = subst
    (λ (xs : List Data). get_member (codes "others") (others_member xs ms)
    ≡ Some (array (items_of xs))) (sym e) (get_member-put (codes "others") _ ms)
others_there (b ∷ before) d more ds ms e = subst
    (λ (xs : List Data). get_member (codes "others") (others_member xs ms)
    ≡ Some (array (items_of xs))) (sym e) (get_member-put (codes "others") _ ms)

pub keeps_others : (t : Table) → Distinct (member_names t) → (s : List ℕ) → KeepsOthers t s
unfolding attributes_data list_data
keeps_others t d s = λ front a later e h.
    let split = others_split t front a later h in
    let ds = others_in t (attributes s) in
    let same = ap (λ (all : List Attribute). others_in t all) e ∙ split.1 in (
      (split.0, same),
      rest_apart (codes "others") (rest_of s)
          (others_member ds (shown_in nested_data t (attributes s) no_members)) ((d.0).0)
          ∙ others_there split.0 _ _ ds _ same,
    )

-- the rest
pub keeps_rest : (t : Table) (s : List ℕ) → KeepsRest t s
unfolding attributes_data list_data
keeps_rest t s = λ b r e.
    let before = others_member (others_in t (attributes s))
    (shown_in nested_data t (attributes s) no_members) in
    subst (λ (q : List ℕ). get_member (codes "rest") (rest_member q before)
    ≡ Some (hex_data (b ∷ r))) (sym e) (get_member-put (codes "rest") (hex_data (b ∷ r)) before)

pub names_distinct : (t : Table) → IsTrue (are_distinct (member_names t)) →
    Distinct (member_names t)
names_distinct t h = distinct_from (member_names t) h
