-- The causes that the error of a list can have.
use Rattle.std.specs.Prelude.{
  ◌≡◌,
  ℕ,
  zero,
  suc,
  ◌==◌,
  Bool,
  true,
  false,
  if◌then◌else◌,
  List,
  [],
  ◌∷◌,
  length,
  Option,
  Some,
  None,
  Result,
  Ok,
  Err,
  refl,
}
use Rattle.std.specs.Str.{is_utf8}
use Rattle.std.proofs.Common.{sym, ap, subst, ◌∙◌}
use Rattle.nla_frame.specs.Attribute.{Attribute, masked}
use Rattle.nla_frame.specs.Error.{header_error}
use Rattle.nla_frame.specs.Payload.{of_length, stripped}
use Rattle.nla_frame.specs.NlaItems.{nla_items}
use Rattle.nla_frame.specs.declared.default_nla.DefaultNla.{DefaultNla}
use Rattle.nla_frame.specs.declared.error.Cause.{Cause}
use Rattle.nla_frame.specs.declared.error.Cause.TheVariants as cause
use Rattle.nla_frame.specs.declared.error.DecodeError.{DecodeError}
use Rattle.nla_frame.specs.declared.error.Family.{Family}
use Rattle.linkinfo_shapes.specs.declared.shape.Shape.{Shape}
use Rattle.linkinfo_shapes.specs.declared.shape.Shape.TheVariants as shape
use Rattle.linkinfo_shapes.specs.Shapes.{means, of_version, text_of}
use Rattle.linkinfo_table.specs.Codecs.{PayloadError, Own, Inside}
use Rattle.linkinfo_table.specs.FamilyRows.{
  FamilyRow,
  Plain,
  Custom,
  Refuses,
  Absent,
  PlainRow,
  find,
  own,
  plain_or_absent,
  row_if,
  row_of,
  table_row,
}
use Rattle.linkinfo_table.specs.Levels.{inner_codec, level_rows}
use Rattle.linkinfo_table.specs.Lists.{◌>>=◌, first_meaning, values_under, values}
use Rattle.linkinfo_table.specs.Rows.{labelled, meaning_in, row_meaning}
use Rattle.linkinfo_table.specs.SelfList.{inside}
use Rattle.linkinfo_c.specs.Causes.{IsReturned}

-- each error of a payload, of an attribute or of a list has one of the returned causes
abbrev pub EachCause : {X : Type 0} → Result X Cause → Type 0
EachCause m = (c : Cause) → m ≡ Err c → IsReturned c

abbrev pub EachPayloadError : {X : Type 0} → Result X PayloadError → Type 0
EachPayloadError m =
    ((c : Cause) → m ≡ Err (Own c) → IsReturned c)
    × ((e : DecodeError) → m ≡ Err (Inside e) → IsReturned e.cause)

abbrev pub EachError : {X : Type 0} → Result X DecodeError → Type 0
EachError m = (e : DecodeError) → m ≡ Err e → IsReturned e.cause

-- ---- payloads of shapes

returned : {X : Type 0} (m : Result X Cause) (known c : Cause) → IsReturned known → m ≡ Err known →
    m ≡ Err c → IsReturned c
returned {X = X} m known c is h k =
    subst IsReturned
    (let both : (let e : Result X Cause = Err known in e) ≡ Err c = sym h ∙ k in cc) is

accepted : {X : Type 0} (x : X) → EachCause (let m : Result X Cause = Ok x in m)
accepted x c h = absurd cc

if_causes : {X : Type 0} (b : Bool) (m n : Result X Cause) → EachCause m → EachCause n →
    EachCause (if b then m else n)
if_causes true m n h k = h
if_causes false m n h k = k

failed : {X : Type 0} (known : Cause) → IsReturned known →
    EachCause (let m : Result X Cause = Err known in m)
failed {X = X} known is c h = subst IsReturned (let same : known ≡ c = cc in same) is

length_causes : {X : Type 0} (n : ℕ) (payload : List ℕ) (x : X) → EachCause (of_length n payload x)
length_causes n payload x =
    if_causes (length payload == n) (Ok x) (Err cause.Length) (accepted x) (failed cause.Length tt)

version_causes : {X : Type 0} (size other : ℕ) (payload : List ℕ) (x : X) →
    EachCause (of_version size other payload x)
version_causes size other payload x =
    if_causes (length payload == other) (Err cause.AddressKind) (of_length size payload x)
    (failed cause.AddressKind tt) (length_causes size payload x)

name_causes : (text : List ℕ) → EachCause (text_of text)
name_causes text =
    if_causes (is_utf8 text) (Ok text) (Err cause.Utf8) (accepted text) (failed cause.Utf8 tt)

pub shape_causes : (s : Shape) (payload : List ℕ) → EachCause (means s payload)
shape_causes shape.U8 p = length_causes 1 p _
shape_causes shape.Le16 p = length_causes 2 p _
shape_causes shape.Le32 p = length_causes 4 p _
shape_causes shape.Le64 p = length_causes 8 p _
shape_causes shape.Be16 p = length_causes 2 p _
shape_causes shape.Be32 p = length_causes 4 p _
shape_causes shape.Be64 p = length_causes 8 p _
shape_causes shape.I32 p = length_causes 4 p _
shape_causes shape.Truth p = length_causes 1 p _
shape_causes shape.TruthOne p = length_causes 1 p _
shape_causes shape.Mark p = accepted _
shape_causes shape.Name p = name_causes (stripped p)
shape_causes shape.V4 p = length_causes 4 p _
shape_causes shape.V6 p = length_causes 16 p _
shape_causes shape.GeneveV4 p = version_causes 4 16 p _
shape_causes shape.GeneveV6 p = version_causes 16 4 p _
shape_causes shape.Ip p = if_causes (length p == 4) _ _ (accepted _) (length_causes 16 p _)
shape_causes shape.Mac p = length_causes 6 p _
shape_causes shape.BePair p = length_causes 4 p _
shape_causes shape.FlagPair p = length_causes 8 p _
shape_causes shape.EmptyOrByte p = if_causes (length p == 0) _ _ (accepted _) (length_causes 1 p _)
shape_causes shape.Scrub p = length_causes 4 p _
shape_causes shape.Raw p = accepted _
shape_causes _ p = failed cause.Length tt

-- ---- attributes by rows

pub own_errors : {X : Type 0} (m : Result X Cause) → EachCause m → EachPayloadError (own m)
own_errors (Ok x) h = (λ c k. absurd cc, λ e k. absurd cc)
own_errors {X = X} (Err d) h = (
  λ c k.
      h c (let same : d ≡ c = cc in ap (λ (z : Cause). let m : Result X Cause = Err z in m) same),
  λ e k. absurd cc,
)

pub inside_errors : {X : Type 0} (m : Result X DecodeError) → EachError m →
    EachPayloadError (inside m)
inside_errors (Ok x) h = (λ c k. absurd cc, λ e k. absurd cc)
inside_errors {X = X} (Err d) h = (
  λ c k. absurd cc,
  λ e k.
      h e (let same : d ≡ e = cc in
      ap (λ (z : DecodeError). let m : Result X DecodeError = Err z in m) same),
)

abbrev pub good : {X : Type 0} → X → Result X DecodeError
good x = Ok x

abbrev pub bad : {X : Type 0} → DecodeError → Result X DecodeError
bad e = Err e

pub bad_same : {X : Type 0} (d e : DecodeError) → bad {X = X} d ≡ bad e → d ≡ e
bad_same d e h = cc

pub labelled_errors : {X F : Type 0} (f : Family) (n : ℕ) (label : X → F)
    (m : Result X PayloadError) →
    EachPayloadError m → EachError (labelled f n label m)
labelled_errors f n label (Ok x) h e k = absurd cc
labelled_errors {F = F} f n label (Err (Own c)) h e k =
    subst IsReturned (ap (λ (d : DecodeError). d.cause) (bad_same {X = F} _ e k)) (h.0 c refl)
labelled_errors {F = F} f n label (Err (Inside d)) h e k =
    subst IsReturned (ap (λ (z : DecodeError). z.cause) (bad_same {X = F} d e k)) (h.1 d refl)

-- the errors under a row: a codec of the family's own has such errors, and what is rejected has
-- such a cause
abbrev pub EachRow : {F : Type 0} → FamilyRow F → Type 0
EachRow (Plain shape label) = Unit {0}
EachRow (Custom shape nested codec label) = (p : List ℕ) → EachPayloadError (codec.means p)
EachRow (Refuses c) = IsReturned c
EachRow Absent = Unit {0}

row_errors : {F : Type 0} (f : Family) (other : DefaultNla → F) (r : FamilyRow F) → EachRow r →
    (a : Attribute) → EachError (row_meaning f other (row_of r) a)
row_errors f other (Plain shape label) h a =
    labelled_errors f (masked a.kind) label (own (means shape a.value))
    (own_errors (means shape a.value) (shape_causes shape a.value))
row_errors f other (Custom shape nested codec label) h a =
    labelled_errors f (masked a.kind) label (codec.means a.value) (h a.value)
row_errors {F = F} f other (Refuses c) h a = λ e k.
    subst IsReturned (ap (λ (d : DecodeError). d.cause) (bad_same {X = F} _ e k)) h
row_errors f other Absent h a = λ e k. absurd cc

pub rows_errors : {F : Type 0} (f : Family) (other : DefaultNla → F) (rows : ℕ → FamilyRow F) →
    ((n : ℕ) → EachRow (rows n)) → (a : Attribute) →
    EachError (meaning_in f other (λ n. row_of (rows n)) a)
unfolding meaning_in
rows_errors f other rows each a = row_errors f other (rows (masked a.kind)) (each (masked a.kind)) a

found_row : {F : Type 0} (r : Option (PlainRow F)) → EachRow (plain_or_absent r)
found_row (Some r) = tt
found_row None = tt

pub table_rows : {F : Type 0} (table : List (PlainRow F)) (n : ℕ) → EachRow (table_row table n)
table_rows table n = found_row (find table n)

pub row_if_each : {F : Type 0} (b : Bool) (x y : FamilyRow F) → EachRow x → EachRow y →
    EachRow (row_if b x y)
row_if_each true x y h k = h
row_if_each false x y h k = k

-- ---- lists

step : {X : Type 0} (m : Result X DecodeError) (q : Result (List X) DecodeError) → EachError m →
    EachError q → EachError (m >>= λ x. q >>= λ xs. good (x ∷ xs))
step (Ok x) (Ok xs) h k e i = absurd cc
step {X = X} (Ok x) (Err d) h k e i =
    k e (ap (λ (z : DecodeError). bad {X = List X} z) (bad_same {X = List X} d e i))
step {X = X} (Err d) q h k e i =
    h e (ap (λ (z : DecodeError). bad {X = X} z) (bad_same {X = List X} d e i))

pub list_errors_under : {T X : Type 0} (m : T → Attribute → Result X DecodeError)
    (after : T → Attribute → T) → ((t : T) (a : Attribute) → EachError (m t a)) →
    (t : T) (ps : List (Result Attribute ℕ)) → EachError (values_under m after t ps)
list_errors_under m after each t [] e h = absurd cc
list_errors_under {X = X} m after each t ((Err n) ∷ more) e h =
    subst IsReturned (ap (λ (d : DecodeError). d.cause) (bad_same {X = List X} header_error e h)) tt
list_errors_under m after each t ((Ok a) ∷ more) e h =
    step (m t a) (values_under m after (after t a) more) (each t a)
    (list_errors_under m after each (after t a) more) e h

pub list_errors : {X : Type 0} (m : Attribute → Result X DecodeError) →
    ((a : Attribute) → EachError (m a)) → (ps : List (Result Attribute ℕ)) → EachError (values m ps)
list_errors m each ps = list_errors_under (λ _ a. m a) (λ t _. t) (λ _ a. each a) (tt {0}) ps

pub first_errors : {X : Type 0} (m : Attribute → Result X DecodeError) →
    ((a : Attribute) → EachError (m a)) → (ps : List (Result Attribute ℕ)) →
    EachError (first_meaning m ps)
first_errors {X = X} m each [] e h =
    subst IsReturned (ap (λ (d : DecodeError). d.cause) (bad_same {X = X} header_error e h)) tt
first_errors {X = X} m each ((Err n) ∷ more) e h =
    subst IsReturned (ap (λ (d : DecodeError). d.cause) (bad_same {X = X} header_error e h)) tt
first_errors m each ((Ok a) ∷ more) e h = each a e h

-- a list of attributes by rows, and by one table
pub rows_list_errors : {F : Type 0} (f : Family) (other : DefaultNla → F) (rows : ℕ → FamilyRow F) →
    ((n : ℕ) → EachRow (rows n)) → (p : List ℕ) →
    EachError (values (meaning_in f other (λ n. row_of (rows n))) (nla_items p))
rows_list_errors f other rows each p =
    list_errors (meaning_in f other (λ n. row_of (rows n)))
    (λ a. rows_errors f other rows each a) (nla_items p)

pub table_errors : {F : Type 0} (f : Family) (other : DefaultNla → F) (table : List (PlainRow F))
    (p : List ℕ) →
    EachError (values (meaning_in f other (λ n. row_of (table_row table n))) (nla_items p))
table_errors f other table p =
    rows_list_errors f other (λ n. table_row table n) (λ n. table_rows table n) p

-- data as the contents of a variant
pub variant_errors : {A X : Type 0} (label : A → X) (m : Result A DecodeError) → EachError m →
    EachError (m >>= λ a. good (label a))
variant_errors label (Ok a) h e k = absurd cc
variant_errors {A = A} {X = X} label (Err d) h e k =
    h e (ap (λ (z : DecodeError). bad {X = A} z) (bad_same {X = X} d e k))

-- ---- lists inside lists

module _ {X : Type 0} (f : Family) (other : DefaultNla → X) (attribute : X → Attribute)
    (label : List X → X) (plain : List (PlainRow X)) where
  abbrev rows_at : ℕ → ℕ → FamilyRow X
  rows_at levels n = level_rows f other attribute 5 label (λ k. table_row plain k) levels n

  pub level_each : (levels n : ℕ) → EachRow (rows_at levels n)
  level_each zero n =
      row_if_each (n == 5) (Refuses cause.Depth) (table_row plain n) tt (table_rows plain n)
  level_each (suc levels) n =
      row_if_each (n == 5) (Custom shape.SelfList false
      (inner_codec f other attribute 5 label (λ k. table_row plain k)
      (λ k. row_of (rows_at levels k))) label) (table_row plain n)
      (λ p. inside_errors
      (values (meaning_in f other (λ k. row_of (rows_at levels k))) (nla_items p))
      (list_errors (meaning_in f other (λ k. row_of (rows_at levels k)))
      (λ a. rows_errors f other (rows_at levels) (λ k. level_each levels k) a) (nla_items p)))
      (table_rows plain n)
