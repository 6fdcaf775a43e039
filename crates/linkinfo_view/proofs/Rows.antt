-- Layouts and names of all rows, by computing.
use Rattle.std.proofs.Common.{
  ◌≡◌,
  ℕ,
  Bool,
  true,
  false,
  List,
  [],
  ◌∷◌,
  Option,
  Some,
  None,
  cond,
  eqb,
  map,
  IsTrue,
  refl,
  ap,
  ◌∙◌,
}
use Rattle.std.proofs.lemmas.Bool.{eqb-true}
use Rattle.nla_frame.specs.declared.error.Family.{Family}
use Rattle.nla_frame.specs.declared.error.Family.TheVariants as family
use Rattle.linkinfo_shapes.specs.Table.{found}
use Rattle.linkinfo_shapes.specs.Typed.{typed_rows_of}
use Rattle.linkinfo_shapes.specs.declared.shape.Shape.{Shape}
use Rattle.linkinfo_view.specs.Laws.{
  Agrees,
  are_distinct,
  member_names,
  shown_format,
  shown_shape,
  shows,
  view_format,
  view_shape,
}
use Rattle.linkinfo_view.specs.declared.format.Format.{Format}
use Rattle.linkinfo_view.specs.declared.format.Table.{Table}
use Rattle.linkinfo_view.specs.declared.format.Table.TheVariants as table

-- what is equal at each of some rows is equal at the one that is found among them
head_or : {A : Type 0} → A → List A → A
head_or d [] = d
head_or d (x ∷ xs) = x

tail_of : {A : Type 0} → List A → List A
tail_of [] = []
tail_of (x ∷ xs) = xs

abbrev at_row : {A : Type 0} → (ℕ → Shape → A) → ℕ × Shape → A
at_row p row = p row.0 row.1

abbrev AreEqual : {A : Type 0} → (ℕ → Shape → A) → (ℕ → Shape → A) → List (ℕ × Shape) → Type 0
AreEqual p q rows = map (at_row p) rows ≡ map (at_row q) rows

first_equal : {A : Type 0} → (p q : ℕ → Shape → A) (row : ℕ × Shape) (rows : List (ℕ × Shape)) →
    AreEqual p q (row ∷ rows) → p row.0 row.1 ≡ q row.0 row.1
unfolding head_or
first_equal p q row rows h = ap (head_or (at_row p row)) h

others_equal : {A : Type 0} → (p q : ℕ → Shape → A) (row : ℕ × Shape) (rows : List (ℕ × Shape)) →
    AreEqual p q (row ∷ rows) → AreEqual p q rows
unfolding tail_of
others_equal p q row rows h = ap tail_of h

at_first : {A : Type 0} → (p q : ℕ → Shape → A) (row : ℕ × Shape) (number : ℕ) (sh : Shape) →
    number ≡ row.0 → row.1 ≡ sh → p row.0 row.1 ≡ q row.0 row.1 → p number sh ≡ q number sh
at_first p q row number sh n s h = cc

found_in : {A : Type 0} → (p q : ℕ → Shape → A) (row : ℕ × Shape) (number : ℕ) (sh : Shape)
    (b : Bool) (rest : Option Shape) → eqb number row.0 ≡ b → p row.0 row.1 ≡ q row.0 row.1 →
    (rest ≡ Some sh → p number sh ≡ q number sh) → cond b (Some row.1) rest ≡ Some sh →
    p number sh ≡ q number sh
found_in p q row number sh true rest e here later h =
    at_first p q row number sh (eqb-true number row.0 e) (cc) here
found_in p q row number sh false rest e here later h = later h

equal_at : {A : Type 0} → (p q : ℕ → Shape → A) (rows : List (ℕ × Shape)) (number : ℕ)
    (sh : Shape) → AreEqual p q rows → found rows number ≡ Some sh → p number sh ≡ q number sh
equal_at p q [] number sh all h = absurd (cc)
equal_at p q (row ∷ rows) number sh all h =
    found_in p q row number sh (eqb number row.0) (found rows number) refl
    (first_equal p q row rows all)
    (λ (g : found rows number ≡ Some sh).
    equal_at p q rows number sh (others_equal p q row rows all) g)
    h

-- the shape of a type in a table, and that which the family's row wants
abbrev shape_in : Table → ℕ → Shape → Option Shape
shape_in t number sh = shown_shape t number

abbrev wanted_shape : Family → ℕ → Shape → Option Shape
wanted_shape f number sh = Some (view_shape f number sh)

-- the same of the format, if the shape has one
abbrev only_if : Option Format → Option Format → Option Format
only_if None form = None
only_if (Some wanted) form = form

abbrev format_in : Table → Family → ℕ → Shape → Option Format
format_in t f number sh = only_if (view_format f number sh) (shown_format t number)

is_wanted : (wanted : Option Format) (given : Option Format) (form : Format) →
    only_if wanted given ≡ wanted → wanted ≡ Some form → given ≡ Some form
is_wanted None given form h e = absurd (cc)
is_wanted (Some wanted) given form h e = h ∙ e

-- whether a format shows a shape that has none of its own
abbrev shows_or : Option Format → Option Format → Shape → Bool
shows_or (Some wanted) given sh = true
shows_or None None sh = true
shows_or None (Some form) sh = shows form sh

abbrev shows_in : Table → Family → ℕ → Shape → Bool
shows_in t f number sh = shows_or (view_format f number sh) (shown_format t number) sh

abbrev always : ℕ → Shape → Bool
always number sh = true

shows_given : (wanted given : Option Format) (form : Format) (sh : Shape) →
    shows_or wanted given sh ≡ true → wanted ≡ None → given ≡ Some form → IsTrue (shows form sh)
shows_given (Some wanted) given form sh h none some = absurd (cc)
shows_given None None form sh h none some = absurd (cc)
shows_given None (Some given) form sh h none some = cc

-- a table agrees with a family if shapes and formats are equal, and the other formats show theirs
pub all_agree : (t : Table) (f : Family) →
    AreEqual (shape_in t) (wanted_shape f) (typed_rows_of f) →
    AreEqual (format_in t f) (view_format f) (typed_rows_of f) →
    AreEqual (shows_in t f) always (typed_rows_of f) → Agrees t f
all_agree t f shapes formats others = record {
  shapes = λ number sh h.
      equal_at (shape_in t) (wanted_shape f) (typed_rows_of f) number sh shapes h;
  formats = λ number sh form h e. is_wanted (view_format f number sh) (shown_format t number) form
      (equal_at (format_in t f) (view_format f) (typed_rows_of f) number sh formats h) e;
  others = λ number sh form h none some.
      shows_given (view_format f number sh) (shown_format t number) form sh
      (equal_at (shows_in t f) always (typed_rows_of f) number sh others h) none some;
}

-- the names of the members of an object are distinct
family_distinct : (f : Family) → IsTrue (are_distinct (member_names (table.Family f)))
family_distinct family.Amt = refl
family_distinct _ = refl

pub all_distinct : (t : Table) → IsTrue (are_distinct (member_names t))
all_distinct (table.Family f) = family_distinct f
all_distinct _ = refl
