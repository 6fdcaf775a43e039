-- Families in which attributes of type 5 contain lists of the family's own attributes, with at most
-- 128 nested lists. Their rows by the number of lists around an attribute, and what these rows say
-- of type 5 and of every other type.
use Rattle.std.specs.Prelude.{
  ◌≡◌,
  ◌≢◌,
  ℕ,
  zero,
  suc,
  ◌+◌,
  ◌-◌,
  ◌*◌,
  ◌<◌,
  ◌≤◌,
  ◌==◌,
  ◌&&◌,
  Bool,
  true,
  false,
  if◌then◌else◌,
  ltb,
  List,
  [],
  length,
  map,
  Result,
  Ok,
  Err,
  Option,
  Some,
  None,
  is_ok,
  refl,
}
use Rattle.std.proofs.Common.{sym, ap, subst, ◌∙◌, arith}
use Rattle.std.proofs.lemmas.Bool.{eqb-true, eq-eqb, and_from, lt-ltb, le-ltb}
use denote.Ref.{Bor}
use Rattle.nla_frame.specs.Attribute.{Attribute, masked, list_string}
use Rattle.nla_frame.specs.NlaItems.{nla_items}
use Rattle.nla_frame.specs.declared.error.Cause.TheVariants as cause
use Rattle.nla_frame.specs.declared.error.Family.{Family}
use Rattle.nla_frame.specs.declared.error.DecodeError.{DecodeError}
use Rattle.nla_frame.specs.declared.default_nla.DefaultNla.{DefaultNla}
use Rattle.linkinfo_shapes.specs.declared.shape.Shape.TheVariants as shape
use Rattle.linkinfo_table.specs.Contents.{
  Contents,
  IsContent,
  ListOf,
  Listed,
  payload_headers,
  single_value,
  each_accepted,
}
use Rattle.linkinfo_table.specs.ListPayload.{values_accepted}
use Rattle.linkinfo_table.specs.OneType.{rows_type}
use Rattle.linkinfo_table.specs.TypedRows.{flat_typed}
use Rattle.linkinfo_table.specs.declared.lookup.Lookup.{Lookup}
use Rattle.linkinfo_table.specs.declared.lookup.Lookup.TheVariants as lookup
use Rattle.linkinfo_table.specs.Rows.{
  Row,
  labelled,
  row_meaning,
  meaning_in,
  row_alike,
  alike_in,
  row_headers,
  headers_inside,
  row_needs_memory,
  memory_in,
}
use Rattle.linkinfo_table.specs.FamilyRows.{
  FamilyRow,
  Plain,
  Custom,
  Refuses,
  Absent,
  row_of,
  row_if,
  lookup_of,
  IsFlat,
  StoresLabelled,
  Stores,
  SuitsDecoded,
  SuitsRow,
  PlainRow,
  table_row,
  EachKeeps,
  RowOwes,
  find,
  plain_or_absent,
}
use Rattle.linkinfo_table.specs.Described.{
  AcceptsBy,
  LookupContains,
  flat_accepts,
  flat_contains,
  list_counts,
}
use Rattle.linkinfo_table.specs.ErrorMemory.{IsOwnCertain}
use Rattle.linkinfo_table.specs.FamilyRowLaws.{owed, table_flat, table_owes}
use Rattle.linkinfo_table.specs.RowLaws.{rows_quarter}
use Rattle.linkinfo_table.specs.declared.decoded.Decoded.{Decoded}
use Rattle.linkinfo_table.specs.declared.decoded.Decoded.TheVariants as found
use Rattle.linkinfo_shapes.specs.Data.{value_of}
use Rattle.linkinfo_table.specs.Levels.{level_rows, level_owes, inner_codec}
use Rattle.linkinfo_table.specs.LookupLaws.{list_no_nest, list_no_peer, row_says}
use Rattle.linkinfo_table.specs.Lookups.{HoldsList, LookupSays}
use Rattle.linkinfo_table.specs.Lists.{values, headers_of, alike_pairs, memory_of}
use Rattle.linkinfo_table.specs.SelfList.{inside}

-- the value that contains a list, if the list is read
abbrev pub in_list : {X Y : Type 0} → (X → Y) → Result X DecodeError → Result Y DecodeError
in_list label (Ok xs) = Ok (label xs)
in_list label (Err e) = Err e

-- the attributes of a list in an attribute of their own family, which a request asks for as a whole
abbrev pub self_listed : {X : Type 0} → Family → (Attribute → Result X DecodeError) →
    (Attribute → Attribute → Bool) → Listed
self_listed family meaning alike = record {
  family = family;
  accepts = λ a. is_ok (meaning a);
  alike = alike;
  is_set = false;
  is_whole = true;
}

-- a value with a payload that the family writes itself gives access to its list, whose byte string
-- is the payload
abbrev pub LendsList : {X : Type 0} → (X → Attribute) → (X → Bool) → X → Option (Bor (List X)) →
    Type 0
LendsList canonical is_custom x (Some list) =
    canonical x ≡ record { kind = 5; value = list_string (map canonical list.now) }
LendsList canonical is_custom x None = is_custom x ≡ false

-- inside an attribute with a row that has a shape of the table, or without a row, no header is
-- examined
flat_row : {X : Type 0} (r : FamilyRow X) (a : Attribute) → IsFlat r →
    row_headers (row_of r) a ≡ 0
flat_row (Plain shape label) a h = refl
flat_row (Custom shape nested codec label) a h = absurd h
flat_row (Refuses cause) a h = refl
flat_row Absent a h = refl

pub flat_headers : {X : Type 0} (rows : ℕ → FamilyRow X) (a : Attribute) →
    IsFlat (rows (masked a.kind)) → headers_inside (λ n. row_of (rows n)) a ≡ 0
unfolding headers_inside
flat_headers rows a flat = flat_row (rows (masked a.kind)) a flat

-- the rows of an attribute inside `around` lists, given the family's rows of the table
abbrev pub nested_rows : {X : Type 0} → Family → (DefaultNla → X) → (X → Attribute) → (List X → X) →
    List (PlainRow X) → ℕ → ℕ → FamilyRow X
nested_rows f other attribute label plain around n =
    level_rows f other attribute 5 label (λ k. table_row plain k) (128 - around) n

-- how such a family reads a masked type, given the table of all families: a list nested in 128
-- others is rejected
abbrev pub nested_lookup : ℕ → ℕ → Lookup → Lookup
nested_lookup around n table = if (n == 5) && ltb 127 around then lookup.Refused cause.Depth
    else table

module _ {X : Type 0} (f : Family) (other : DefaultNla → X) (attribute : X → Attribute)
    (label : List X → X) (plain : List (PlainRow X)) where
  abbrev at : ℕ → ℕ → Row X
  at around n = row_of (nested_rows f other attribute label plain around n)

  abbrev level : ℕ → ℕ → Row X
  level levels n = row_of (level_rows f other attribute 5 label (λ k. table_row plain k) levels n)

  -- the row of type 5 if one more list may be nested
  abbrev list_row : ℕ → Row X
  list_row levels =
      row_of (Custom shape.SelfList false
      (inner_codec f other attribute 5 label (λ k. table_row plain k) (λ k. level levels k)) label)

  five : (c n : ℕ) → c < 128 → n ≡ 5 → at c n ≡ list_row (128 - (c + 1))
  five c n h e =
      let one_less : 128 - c ≡ suc (128 - (c + 1)) = omega (arith, h) in
      ap (λ (levels : ℕ). level levels n) one_less ∙ ap (λ (k : ℕ). level (suc (128 - (c + 1))) k) e

  labelled_inside : (n : ℕ) (r : Result (List X) DecodeError) →
      labelled f n label (inside r) ≡ in_list label r
  labelled_inside n (Ok xs) = refl
  labelled_inside n (Err e) = refl

  -- type 5 below the maximum depth means what a list of the same family one level deeper means
  pub list_means : (c : ℕ) (a : Attribute) → c < 128 → masked a.kind ≡ 5 →
      meaning_in f other (λ n. at c n) a
      ≡ in_list label (values (meaning_in f other (λ n. at (c + 1) n)) (nla_items a.value))
  unfolding meaning_in
  list_means c a h e =
      ap (λ (r : Row X). row_meaning f other r a) (five c (masked a.kind) h e)
      ∙ labelled_inside (masked a.kind) _

  pub list_needs_memory : (c : ℕ) (a : Attribute) → c < 128 → masked a.kind ≡ 5 →
      memory_in (λ n. at c n) a
      ≡ memory_of (meaning_in f other (λ n. at (c + 1) n)) (memory_in (λ n. at (c + 1) n))
      (nla_items a.value)
  unfolding memory_in
  list_needs_memory c a h e = ap (λ (r : Row X). row_needs_memory r a) (five c (masked a.kind) h e)

  pub list_headers : (c : ℕ) (a : Attribute) → c < 128 → masked a.kind ≡ 5 →
      headers_inside (λ n. at c n) a
      ≡ headers_of (meaning_in f other (λ n. at (c + 1) n)) (headers_inside (λ n. at (c + 1) n))
      (nla_items a.value)
  unfolding headers_inside
  list_headers c a h e = ap (λ (r : Row X). row_headers r a) (five c (masked a.kind) h e)

  pub list_alike : (c : ℕ) (a b : Attribute) → c < 128 → masked a.kind ≡ 5 →
      alike_in (λ n. at c n) a
      b ≡ ((masked b.kind == masked a.kind)
      && alike_pairs (alike_in (λ n. at (c + 1) n)) (nla_items a.value) (nla_items b.value))
  unfolding alike_in
  list_alike c a b h e = ap (λ (r : Row X). row_alike r a b) (five c (masked a.kind) h e)

  -- ---- what attributes of each type contain: those of type 5 a list of the same family one level
  -- deeper, below the maximum depth

  abbrev pub contents_below : ℕ → ℕ → Contents
  contents_below zero n = single_value
  contents_below (suc levels) n =
      if n == 5
      then ListOf
      (self_listed f (meaning_in f other (λ k. level levels k)) (alike_in (λ k. level levels k)))
      (contents_below levels)
      else single_value

  abbrev pub nested_contents : ℕ → ℕ → Contents
  nested_contents around n = contents_below (128 - around) n

  pub list_contents : (c n : ℕ) → c < 128 → n ≡ 5 →
      nested_contents c n
      ≡ ListOf
      (self_listed f (meaning_in f other (λ k. at (c + 1) k)) (alike_in (λ k. at (c + 1) k)))
      (nested_contents (c + 1))
  list_contents c n h e =
      let one_less : 128 - c ≡ suc (128 - (c + 1)) = omega (arith, h) in
      ap (λ (levels : ℕ). contents_below levels n) one_less
      ∙ ap (λ (k : ℕ). contents_below (suc (128 - (c + 1))) k) e

  pub flat_contents : (c n : ℕ) → (n ≡ 5 → 128 ≤ c) → nested_contents c n ≡ single_value
  flat_contents c n h = go (128 - c) (λ e. omega (arith, h e))
    where
      go : (levels : ℕ) → (n ≡ 5 → levels ≡ 0) → contents_below levels n ≡ single_value
      go zero none = refl
      go (suc levels) none = by (n == 5) refl
        where
          by : (b : Bool) → (n == 5) ≡ b →
              (if b
              then ListOf
              (self_listed f (meaning_in f other (λ k. level levels k))
              (alike_in (λ k. level levels k))) (contents_below levels)
              else single_value) ≡ single_value
          by true e = absurd (let never : suc levels ≡ 0 = none (eqb-true n 5 e) in cc)
          by false e = refl

  listed_ok : (r : Result (List X) DecodeError) → is_ok (in_list label r) ≡ is_ok r
  listed_ok (Ok xs) = refl
  listed_ok (Err e) = refl

  level_accepts : (levels : ℕ) (a : Attribute) → masked a.kind ≡ 5 →
      is_ok (meaning_in f other (λ k. level (suc levels) k) a)
      ≡ each_accepted (λ b. is_ok (meaning_in f other (λ k. level levels k) b)) (nla_items a.value)
  unfolding meaning_in
  level_accepts levels a e =
      ap (λ (n : ℕ). is_ok (row_meaning f other (level (suc levels) n) a)) e
      ∙ ap (λ (r : Result X DecodeError). is_ok r) (labelled_inside (masked a.kind) _)
      ∙ listed_ok _
      ∙ values_accepted (λ _ b. meaning_in f other (λ k. level levels k) b) (λ t _. t) (tt {0})
      (nla_items a.value)

  level_alike : (levels : ℕ) (a b : Attribute) → masked a.kind ≡ 5 →
      alike_in (λ k. level (suc levels) k) a b
      ≡ ((masked b.kind == masked a.kind)
      && alike_pairs (alike_in (λ k. level levels k)) (nla_items a.value) (nla_items b.value))
  unfolding alike_in
  level_alike levels a b e = ap (λ (n : ℕ). row_alike (level (suc levels) n) a b) e

  contained_below : (levels n : ℕ) →
      IsContent (contents_below levels n) n
      (λ a. is_ok (meaning_in f other (λ k. level levels k) a)) (alike_in (λ k. level levels k))
  contained_below zero n = tt
  contained_below (suc levels) n = by (λ k. contained_below levels k) (n == 5) refl
    where
      by : ((k : ℕ) →
          IsContent (contents_below levels k) k
          (λ a. is_ok (meaning_in f other (λ k. level levels k) a))
          (alike_in (λ k. level levels k))) →
          (b : Bool) → (n == 5) ≡ b →
          IsContent
          (if b
          then ListOf
          (self_listed f (meaning_in f other (λ k. level levels k))
          (alike_in (λ k. level levels k))) (contents_below levels)
          else single_value) n
          (λ a. is_ok (meaning_in f other (λ k. level (suc levels) k) a))
          (alike_in (λ k. level (suc levels) k))
      by inside true e =
          let five : n ≡ 5 = eqb-true n 5 e in (
            λ a typed. level_accepts levels a (typed ∙ five),
            λ a b typed. level_alike levels a b (typed ∙ five),
            rows_type (λ k. level levels k),
            inside,
          )
      by inside false e = tt

  pub nested_contained : (c n : ℕ) →
      IsContent (nested_contents c n) n (λ a. is_ok (meaning_in f other (λ k. at c k) a))
      (alike_in (λ k. at c k))
  nested_contained c n = contained_below (128 - c) n

  -- ---- every other type, and type 5 at the maximum depth, has a row of the table, is rejected, or
  -- has none

  module _ (keeps : EachKeeps attribute plain) where
    elsewhere : (levels n : ℕ) → (n ≡ 5 → levels ≡ 0) →
        IsFlat (level_rows f other attribute 5 label (λ k. table_row plain k) levels n)
    elsewhere zero n h = go (n == 5)
      where
        go : (b : Bool) → IsFlat (row_if b (Refuses cause.Depth) (table_row plain n))
        go true = tt
        go false = table_flat attribute plain keeps n
    elsewhere (suc levels) n h = go (n == 5) refl
      where
        go : (b : Bool) → (n == 5) ≡ b →
            IsFlat (row_if b (Custom shape.SelfList false
            (inner_codec f other attribute 5 label (λ k. table_row plain k) (λ k. level levels k))
            label) (table_row plain n))
        go true e = absurd (let never : suc levels ≡ 0 = h (eqb-true n 5 e) in cc)
        go false e = table_flat attribute plain keeps n

    pub flat_elsewhere : (c n : ℕ) → (n ≡ 5 → 128 ≤ c) →
        IsFlat (nested_rows f other attribute label plain c n)
    flat_elsewhere c n h = elsewhere (128 - c) n (λ e. omega (arith, h e))

    -- whether an attribute is accepted agrees with its row
    level_agrees : (levels n : ℕ) (a : Attribute) → masked a.kind ≡ n →
        AcceptsBy a
        (lookup_of (level_rows f other attribute 5 label (λ k. table_row plain k) levels n))
        (is_ok (meaning_in f other (λ k. level levels k) a))
    unfolding meaning_in
    level_agrees levels n a typed =
        subst (λ (k : ℕ).
        AcceptsBy a
        (lookup_of (level_rows f other attribute 5 label (λ m. table_row plain m) levels k))
        (is_ok (row_meaning f other (level levels (masked a.kind)) a))) typed
        (at_level levels)
      where
        flat : (k : ℕ) →
            AcceptsBy a (lookup_of (table_row plain k))
            (is_ok (row_meaning f other (row_of (table_row plain k)) a))
        flat k = flat_accepts f other (table_row plain k) a (table_flat attribute plain keeps k)

        at_level : (m : ℕ) →
            AcceptsBy a
            (lookup_of
            (level_rows f other attribute 5 label (λ k. table_row plain k) m (masked a.kind)))
            (is_ok (row_meaning f other (level m (masked a.kind)) a))
        at_level zero = go (masked a.kind == 5)
          where
            go : (b : Bool) →
                AcceptsBy a
                (lookup_of (row_if b (Refuses cause.Depth) (table_row plain (masked a.kind))))
                (is_ok (row_meaning f other
                (row_of (row_if b (Refuses cause.Depth) (table_row plain (masked a.kind)))) a))
            go true = refl
            go false = flat (masked a.kind)
        at_level (suc m) = go (masked a.kind == 5)
          where
            go : (b : Bool) →
                AcceptsBy a
                (lookup_of (row_if b (Custom shape.SelfList false
                (inner_codec f other attribute 5 label (λ k. table_row plain k) (λ k. level m k))
                label) (table_row plain (masked a.kind))))
                (is_ok (row_meaning f other (row_of
                (row_if b (Custom shape.SelfList false
                (inner_codec f other attribute 5 label (λ k. table_row plain k) (λ k. level m k))
                label) (table_row plain (masked a.kind)))) a))
            go true = record {
              plain = λ i. absurd i;
              exact = λ i. absurd i;
              addresses = λ i. absurd i;
            }
            go false = flat (masked a.kind)

    -- the contents of a type are what its shape says
    contains_below : (levels n : ℕ) →
        LookupContains f
        (lookup_of (level_rows f other attribute 5 label (λ k. table_row plain k) levels n))
        (contents_below levels n)
    contains_below zero n = go (n == 5)
      where
        go : (b : Bool) →
            LookupContains f (lookup_of (row_if b (Refuses cause.Depth) (table_row plain n)))
            single_value
        go true = refl
        go false = flat_contains f (table_row plain n) (table_flat attribute plain keeps n)
    contains_below (suc levels) n = go (λ k. contains_below levels k) (n == 5)
      where
        go : ((k : ℕ) →
            LookupContains f
            (lookup_of (level_rows f other attribute 5 label (λ m. table_row plain m) levels k))
            (contents_below levels k)) → (b : Bool) →
            LookupContains f
            (lookup_of (row_if b (Custom shape.SelfList false
            (inner_codec f other attribute 5 label (λ k. table_row plain k) (λ k. level levels k))
            label) (table_row plain n)))
            (if b
            then ListOf
            (self_listed f (meaning_in f other (λ k. level levels k))
            (alike_in (λ k. level levels k))) (contents_below levels)
            else single_value)
        go below true = (
          (refl, refl),
          λ k. (
            lookup_of (level_rows f other attribute 5 label (λ m. table_row plain m) levels k),
            λ a typed. level_agrees levels k a typed,
            below k,
          ),
        )
        go below false = flat_contains f (table_row plain n) (table_flat attribute plain keeps n)

    pub nested_contains : (c n : ℕ) →
        LookupContains f (lookup_of (nested_rows f other attribute label plain c n))
        (nested_contents c n)
    nested_contains c n = contains_below (128 - c) n

    -- and its headers are those in them
    counts_below : (levels : ℕ) (a : Attribute) →
        headers_inside (λ k. level levels k) a
        ≡ payload_headers (contents_below levels (masked a.kind)) a.value
    unfolding headers_inside
    counts_below zero a = go (masked a.kind == 5)
      where
        go : (b : Bool) →
            row_headers
            (row_of (row_if b (Refuses cause.Depth) (table_row plain (masked a.kind)))) a ≡ 0
        go true = refl
        go false =
            flat_row (table_row plain (masked a.kind)) a
            (table_flat attribute plain keeps (masked a.kind))
    counts_below (suc levels) a = go (λ b. counts_below levels b) (masked a.kind == 5)
      where
        go : ((b : Attribute) →
            row_headers (level levels (masked b.kind)) b
            ≡ payload_headers (contents_below levels (masked b.kind)) b.value) →
            (b : Bool) →
            row_headers
            (row_of (row_if b (Custom shape.SelfList false
            (inner_codec f other attribute 5 label (λ k. table_row plain k) (λ k. level levels k))
            label) (table_row plain (masked a.kind)))) a
            ≡ payload_headers
            (if b
            then ListOf
            (self_listed f (meaning_in f other (λ k. level levels k))
            (alike_in (λ k. level levels k))) (contents_below levels)
            else single_value) a.value
        go each true =
            list_counts (meaning_in f other (λ k. level levels k))
            (headers_inside (λ k. level levels k)) (contents_below levels) each
            (nla_items a.value)
        go each false =
            flat_row (table_row plain (masked a.kind)) a
            (table_flat attribute plain keeps (masked a.kind))

    pub nested_counts : (c : ℕ) (a : Attribute) →
        headers_inside (λ k. at c k) a
        ≡ payload_headers (nested_contents c (masked a.kind)) a.value
    nested_counts c a = counts_below (128 - c) a

    pub nested_owes : (keeps_list : (xs : List X) →
        attribute (label xs) ≡ record { kind = 5; value = list_string (map attribute xs) }) →
        (same : (xs ys : List X) → label xs ≡ label ys → xs ≡ ys) →
        (keeps_other : (d : DefaultNla) →
        attribute (other d) ≡ record { kind = d.kind; value = d.value }) →
        (c n : ℕ) → RowOwes attribute n (at c n)
    nested_owes keeps_list same keeps_other c n =
        level_owes f other attribute 5 label (λ k. table_row plain k) (omega arith) keeps_list same
        keeps_other (λ k. table_owes attribute plain keeps k) (128 - c) n

    -- the rows agree with what the attributes of a type mean: type 5 below the maximum depth is a
    -- list of the family one level deeper
    module _ (keeps_list : (xs : List X) →
        attribute (label xs) ≡ record { kind = 5; value = list_string (map attribute xs) })
        (owes : (c n : ℕ) → RowOwes attribute n (at c n)) where
      abbrev meaning : ℕ → Attribute → Result X DecodeError
      meaning c a = meaning_in f other (λ n. at c n) a

      list_says : (a : Attribute) (levels : ℕ) → levels < 128 → masked a.kind ≡ 5 →
          LookupSays f [] other attribute meaning a (lookup.Is shape.SelfList)
          (row_meaning f other (row_of
          (Custom shape.SelfList false
          (inner_codec f other attribute 5 label (λ k. table_row plain k) (λ k. level levels k))
          label)) a)
      list_says a levels below e = record {
        plain = λ h. absurd h;
        list = λ _. (
          128 - levels,
          subst (λ (n : ℕ).
              HoldsList attribute a
              (values (meaning_in f other (λ k. level n k)) (nla_items a.value))
              (labelled f (masked a.kind) label
              (inside (values (meaning_in f other (λ k. level levels k)) (nla_items a.value)))))
              (omega (arith, below))
              (go (values (meaning_in f other (λ k. level levels k)) (nla_items a.value))),
        );
        peer = λ h. absurd (list_no_peer h);
        peer_typed = λ h. absurd (list_no_peer h);
        nest = λ inner h. absurd (list_no_nest inner h);
        exact = λ i. absurd i;
        exact_accepted = λ i. absurd i;
        addresses_accepted = λ i. absurd i;
        addresses = λ i. absurd i;
        payload_typed = λ i. absurd i;
      }
        where
          go : (r : Result (List X) DecodeError) →
              HoldsList attribute a r (labelled f (masked a.kind) label (inside r))
          go (Ok xs) = (
            label xs,
            refl,
            keeps_list xs
                ∙ ap (λ (n : ℕ). let b : Attribute =
                record { kind = n; value = list_string (map attribute xs) } in b) (sym e),
          )
          go (Err d) = refl

      says_at : (levels : ℕ) (a : Attribute) → levels ≤ 128 →
          RowOwes attribute (masked a.kind) (level levels (masked a.kind)) →
          LookupSays f [] other attribute meaning a
          (lookup_of
          (level_rows f other attribute 5 label (λ k. table_row plain k) levels (masked a.kind)))
          (row_meaning f other (level levels (masked a.kind)) a)
      says_at zero a le owed =
          row_says f [] other attribute attribute (λ _. refl) meaning _ a
          (flat_typed [] _ (elsewhere 0 (masked a.kind) (λ _. refl))) owed
      says_at (suc levels) a le owed = go (masked a.kind == 5) refl owed
        where
          go : (b : Bool) → (masked a.kind == 5) ≡ b →
              RowOwes attribute (masked a.kind)
              (row_of (row_if b (Custom shape.SelfList false
              (inner_codec f other attribute 5 label (λ k. table_row plain k) (λ k. level levels k))
              label) (table_row plain (masked a.kind)))) →
              LookupSays f [] other attribute meaning a
              (lookup_of (row_if b (Custom shape.SelfList false
              (inner_codec f other attribute 5 label (λ k. table_row plain k) (λ k. level levels k))
              label) (table_row plain (masked a.kind))))
              (row_meaning f other (row_of
              (row_if b (Custom shape.SelfList false
              (inner_codec f other attribute 5 label (λ k. table_row plain k) (λ k. level levels k))
              label) (table_row plain (masked a.kind)))) a)
          go true e h = list_says a levels (omega (arith, le)) (eqb-true (masked a.kind) 5 e)
          go false e h =
              row_says f [] other attribute attribute (λ _. refl) meaning _ a
              (flat_typed [] _ (table_flat attribute plain keeps (masked a.kind))) h

      pub nested_says : (c : ℕ) (a : Attribute) →
          LookupSays f [] other attribute meaning a
          (lookup_of (nested_rows f other attribute label plain c (masked a.kind)))
          (meaning_in f other (λ n. at c n) a)
      unfolding meaning_in
      nested_says c a = says_at (128 - c) a (omega arith) (owes c (masked a.kind))

  true_false : true ≡ false → ⊥
  true_false e = cc

  -- what these rows say of a masked type
  module _ (table : ℕ → Lookup) (list : table 5 ≡ lookup.Is shape.SelfList)
      (others : (n : ℕ) → n ≢ 5 → lookup_of (table_row plain n) ≡ table n) where
    elsewhere_is : (c n : ℕ) → (n == 5) ≡ false →
        lookup_of (table_row plain n) ≡ nested_lookup c n (table n)
    elsewhere_is c n e =
        others n (λ (h : n ≡ 5). absurd (true_false (sym (eq-eqb n 5 h) ∙ e)))
        ∙ sym (ap (λ (b : Bool). if b && ltb 127 c then lookup.Refused cause.Depth else table n) e)

    pub nested_lookup_is : (c n : ℕ) →
        lookup_of (nested_rows f other attribute label plain c n) ≡ nested_lookup c n (table n)
    nested_lookup_is c n = go (128 - c) refl
      where
        go : (levels : ℕ) → 128 - c ≡ levels →
            lookup_of (level_rows f other attribute 5 label (λ k. table_row plain k) levels n)
            ≡ nested_lookup c n (table n)
        go zero h = by (n == 5) refl
          where
            by : (b : Bool) → (n == 5) ≡ b →
                lookup_of (row_if b (Refuses cause.Depth) (table_row plain n))
                ≡ nested_lookup c n (table n)
            by true e =
                let deep : ((n == 5) && ltb 127 c) ≡ true =
                and_from (n == 5) (ltb 127 c) e (lt-ltb 127 c (omega (arith, h))) in
                sym (ap (λ (b : Bool). if b then lookup.Refused cause.Depth else table n) deep)
            by false e = elsewhere_is c n e
        go (suc levels) h = by (n == 5) refl
          where
            by : (b : Bool) → (n == 5) ≡ b →
                lookup_of (row_if b (Custom shape.SelfList false
                (inner_codec f other attribute 5 label (λ k. table_row plain k)
                (λ k. level levels k)) label) (table_row plain n)) ≡ nested_lookup c n (table n)
            by true e =
                let shallow : ltb 127 c ≡ false = le-ltb 127 c (omega (arith, h)) in
                sym list ∙ ap table (sym (eqb-true n 5 e))
                ∙ sym (ap
                (λ (b : Bool). if (n == 5) && b then lookup.Refused cause.Depth else table n)
                shallow
                ∙ ap (λ (b : Bool). if b && false then lookup.Refused cause.Depth else table n) e)
            by false e = elsewhere_is c n e

  -- a list, which the family reads itself, has no shape of the table
  flat_certain : (r : Option (PlainRow X)) → IsOwnCertain (plain_or_absent r)
  flat_certain (Some r) = tt
  flat_certain None = tt

  pub nested_certain : (c n : ℕ) → IsOwnCertain (nested_rows f other attribute label plain c n)
  nested_certain c n = go (128 - c)
    where
      go : (levels : ℕ) →
          IsOwnCertain (level_rows f other attribute 5 label (λ k. table_row plain k) levels n)
      go zero = by (n == 5)
        where
          by : (b : Bool) → IsOwnCertain (row_if b (Refuses cause.Depth) (table_row plain n))
          by true = tt
          by false = flat_certain (find plain n)
      go (suc levels) = by (n == 5)
        where
          by : (b : Bool) →
              IsOwnCertain (row_if b (Custom shape.SelfList false
              (inner_codec f other attribute 5 label (λ k. table_row plain k) (λ k. level levels k))
              label) (table_row plain n))
          by true = λ p error single e. absurd single
          by false = flat_certain (find plain n)

  -- the decoded content of an attribute without a list, and what a slot holds once its value is
  -- stored, by the rows of the table alone
  pub suits_plain : (c : ℕ) (read : Decoded) →
      SuitsDecoded (λ n. nested_rows f other attribute label plain c n) read →
      SuitsDecoded (λ n. table_row plain n) read
  suits_plain c (found.Typed n datum) suits = go (128 - c) suits
    where
      go : (levels : ℕ) →
          SuitsRow (level_rows f other attribute 5 label (λ k. table_row plain k) levels n)
          (value_of datum) → SuitsRow (table_row plain n) (value_of datum)
      go zero h = by (n == 5) h
        where
          by : (b : Bool) →
              SuitsRow (row_if b (Refuses cause.Depth) (table_row plain n)) (value_of datum) →
              SuitsRow (table_row plain n) (value_of datum)
          by true h = absurd h
          by false h = h
      go (suc levels) h = by (n == 5) h
        where
          by : (b : Bool) →
              SuitsRow (row_if b (Custom shape.SelfList false
              (inner_codec f other attribute 5 label (λ k. table_row plain k) (λ k. level levels k))
              label) (table_row plain n)) (value_of datum) →
              SuitsRow (table_row plain n) (value_of datum)
          by true h = absurd h
          by false h = h
  suits_plain c (found.Kept nla) suits = tt

  pub stores_plain : {H : Type 0} (with : X → H) (c : ℕ) (read : Decoded) (held : H) →
      SuitsDecoded (λ n. nested_rows f other attribute label plain c n) read →
      Stores with other (λ n. table_row plain n) read held →
      Stores with other (λ n. nested_rows f other attribute label plain c n) read held
  stores_plain with c (found.Typed n datum) held suits stores = go (128 - c) suits
    where
      go : (levels : ℕ) →
          SuitsRow (level_rows f other attribute 5 label (λ k. table_row plain k) levels n)
          (value_of datum) →
          StoresLabelled with
          (level_rows f other attribute 5 label (λ k. table_row plain k) levels n)
          (value_of datum) held
      go zero h = by (n == 5) h
        where
          by : (b : Bool) →
              SuitsRow (row_if b (Refuses cause.Depth) (table_row plain n)) (value_of datum) →
              StoresLabelled with (row_if b (Refuses cause.Depth) (table_row plain n))
              (value_of datum) held
          by true h = absurd h
          by false h = stores
      go (suc levels) h = by (n == 5) h
        where
          by : (b : Bool) →
              SuitsRow (row_if b (Custom shape.SelfList false
              (inner_codec f other attribute 5 label (λ k. table_row plain k) (λ k. level levels k))
              label) (table_row plain n)) (value_of datum) →
              StoresLabelled with (row_if b (Custom shape.SelfList false
              (inner_codec f other attribute 5 label (λ k. table_row plain k) (λ k. level levels k))
              label) (table_row plain n)) (value_of datum) held
          by true h = absurd h
          by false h = stores
  stores_plain with c (found.Kept nla) held suits stores = stores

-- at most a quarter of a payload's bytes are headers, whatever the rows
pub nested_quarter : {X : Type 0} (f : Family) (other : DefaultNla → X) (attribute : X → Attribute)
    (rows : ℕ → FamilyRow X) →
    ((n : ℕ) → RowOwes attribute n (row_of (rows n))) →
    ((d : DefaultNla) → attribute (other d) ≡ record { kind = d.kind; value = d.value }) →
    (a : Attribute) → 4 * headers_inside (λ n. row_of (rows n)) a ≤ length a.value
nested_quarter f other attribute rows owes keeps_other a =
    rows_quarter f other attribute (λ n. row_of (rows n))
    (λ n e h. owed attribute (λ k. row_of (rows k)) owes n e h) keeps_other a
