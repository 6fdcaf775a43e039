-- Which values of a family are well formed, stated by the value itself instead of the datum that a
-- row builds it from: what the rows of a table give for such a statement.
use Rattle.std.specs.Prelude.{◌≡◌, ◌≢◌, ◌↔◌, ℕ, ◌<◌, ◌==◌, Bool, true, false, if◌then◌else◌, List}
use Rattle.std.specs.Prelude.{[], ◌∷◌, ◌++◌, map, Option, Some, None, refl}
use Rattle.std.specs.List.{AllByRecursion}
use Rattle.std.proofs.Common.{sym, ap, subst, ◌∙◌}
use Rattle.std.proofs.lemmas.Bool.{cond-false, eq-eqb, eqb-true, ne_eqb}
use Rattle.nla_frame.specs.Attribute.{Attribute, IsBytes, masked}
use Rattle.nla_frame.specs.Kept.{attribute_of, kept}
use Rattle.nla_frame.specs.declared.default_nla.DefaultNla.{DefaultNla}
use Rattle.linkinfo_shapes.specs.Shapes.{Carrier}
use Rattle.linkinfo_shapes.specs.Data.{Value, unwrap, wrap}
use Rattle.linkinfo_shapes.specs.DataLaws.{unwrap-wrap}
use Rattle.linkinfo_table.specs.FamilyRows.{FamilyRow, PlainRow, IsNoRow, find, plain_or_absent}
use Rattle.linkinfo_table.specs.FamilyRows.{row_if, row_of, table_row}
use Rattle.linkinfo_table.specs.Lists.{AllWell}
use Rattle.linkinfo_table.specs.Rows.{WellAt, WellFormed}
use Rattle.linkinfo_table.specs.declared.opaque.Opaque.{Opaque}
use Rattle.linkinfo_table.specs.declared.opaque.Opaque.TheVariants as opaque

-- an opaque attribute of a type without a row: a 16-bit type, a payload of bytes, and a masked type
-- that no row has
abbrev pub IsUnknown : {F : Type 0} → List (PlainRow F) → DefaultNla → Type 0
IsUnknown rows d = (d.kind < 65536) × IsBytes d.value × IsNoRow rows (masked d.kind)

-- an opaque attribute, where one more type has a row of its own
abbrev pub IsUnknownBeside : {F : Type 0} → ℕ → List (PlainRow F) → DefaultNla → Type 0
IsUnknownBeside number rows d = (masked d.kind ≢ number) × IsUnknown rows d

-- ---- no label of a row makes the value of an opaque attribute

-- a test of a row's values, as a function of the datum that the program holds
abbrev tested : {F : Type 0} → (F → Bool) → PlainRow F → Value → Bool
tested is_other r v = is_other (r.label (unwrap r.shape v))

abbrev never : {F : Type 0} → PlainRow F → Value → Bool
never r v = false

-- the test fails for each value that a row's label makes
abbrev pub AreTyped : {F : Type 0} → (F → Bool) → List (PlainRow F) → Type 0
AreTyped is_other rows = AllByRecursion
    (λ r. (u : Carrier r.shape) → is_other (r.label u) ≡ false) rows

-- by one computation for all rows
pub are_typed : {F : Type 0} (is_other : F → Bool) (rows : List (PlainRow F)) →
    map (λ r. tested is_other r) rows ≡ map (λ r. never r) rows →
    AreTyped is_other rows
are_typed is_other [] e = tt
are_typed is_other (r ∷ rows) e =
    let here : tested is_other r ≡ never r = cc in
    let rest : map (λ q. tested is_other q) rows ≡ map (λ q. never q) rows = cc in (
      λ u. ap (λ (x : Carrier r.shape). is_other (r.label x)) (sym (unwrap-wrap r.shape u)) ∙ ap
          (λ (f : Value → Bool). f (wrap r.shape u)) here,
      are_typed is_other rows rest,
    )

-- rows before other rows
pub typed_before : {F : Type 0} (is_other : F → Bool) (front rest : List (PlainRow F)) →
    AreTyped is_other front → AreTyped is_other rest →
    AreTyped is_other (front ++ rest)
typed_before is_other [] rest h k = k
typed_before is_other (r ∷ front) rest h k = (h.0, typed_before is_other front rest h.1 k)

-- ---- a number without a row

no_row_absent : {F : Type 0} (rows : List (PlainRow F)) (n : ℕ) → IsNoRow rows n →
    find rows n ≡ None
no_row_absent [] n h = refl
no_row_absent (r ∷ rows) n h = cond-false (n == r.number) _ _ (ne_eqb n r.number h.0)
    ∙ no_row_absent rows n h.1

absent_no_row : {F : Type 0} (rows : List (PlainRow F)) (n : ℕ) → find rows n ≡ None →
    IsNoRow rows n
absent_no_row [] n e = tt
absent_no_row {F = F} (r ∷ rows) n e = go (n == r.number) refl (λ h. absent_no_row rows n h) e
  where
    go : (b : Bool) → (n == r.number) ≡ b → (find rows n ≡ None → IsNoRow rows n) →
        (if b then Some r else find rows n) ≡ None → IsNoRow (r ∷ rows) n
    go true s rest h = absurd cc
    go false s rest h =
        (λ same. let yes : (n == r.number) ≡ true = eq-eqb n r.number same in cc, rest h)

-- what holds of each row holds of the one that is looked up
found_row : {F : Type 0} (P : PlainRow F → Type 0) (rows : List (PlainRow F)) (n : ℕ)
    (r : PlainRow F) → AllByRecursion P rows → find rows n ≡ Some r → P r
found_row P [] n r h e = absurd cc
found_row {F = F} P (q ∷ rows) n r h e = go (n == q.number) (λ k. found_row P rows n r h.1 k) e
  where
    go : (b : Bool) → (find rows n ≡ Some r → P r) → (if b then Some q else find rows n) ≡ Some r →
        P r
    go true rest k = let same : q ≡ r = cc in subst P same h.0
    go false rest k = rest k

-- ---- a value of a row

-- For a condition on labels that agrees with one on data: a label satisfies it if and only if it is
-- the label of some datum that the program can hold.
pub plain_label : {U F : Type 0} (Holds : U → Type 0) (label : U → F) (Condition : F → Type 0) →
    ((u : U) → Holds u → Condition (label u)) →
    ((u : U) → Condition (label u) → Holds u) → (u : U) →
    ((v : U) × Holds v × (label v ≡ label u)) ↔ Condition (label u)
plain_label Holds label Condition to from u =
    (λ w. subst Condition w.2 (to w.0 w.1), λ c. (u, from u c, refl))

-- ---- the value of an opaque attribute

-- it is well formed if and only if no row has its type
pub unknown_label : {F : Type 0} (other : DefaultNla → F) (attribute : F → Attribute)
    (rows : List (PlainRow F)) (is_other : F → Bool) →
    ((d : DefaultNla) → attribute (other d) ≡ attribute_of d) →
    ((d : DefaultNla) → is_other (other d) ≡ true) → AreTyped is_other rows →
    (d : DefaultNla) → WellAt other (row_of (table_row rows (masked d.kind))) (other d) ↔
    IsUnknown rows d
unknown_label {F = F} other attribute rows is_other keeps is typed d =
    go (find rows (masked d.kind)) refl
  where
    go : (found : Option (PlainRow F)) → find rows (masked d.kind) ≡ found →
        WellAt other (row_of (plain_or_absent found)) (other d) ↔ IsUnknown rows d
    go (Some r) e = (
      λ w.
          let no : is_other (r.label w.0) ≡ false =
          found_row (λ q. (u : Carrier q.shape) → is_other (q.label u) ≡ false) rows
          (masked d.kind) r typed e w.0 in
          let yes : is_other (r.label w.0) ≡ true = ap is_other w.2 ∙ is d in
          absurd cc,
      λ h. let none : find rows (masked d.kind) ≡ None = no_row_absent rows (masked d.kind) h.2 in
          absurd cc,
    )
    go None e = (
      λ w.
          let same : w.0 ≡ d = ap kept (sym (keeps w.0) ∙ ap attribute w.3 ∙ keeps d) in
          let held : (d.kind < 65536) × IsBytes d.value =
          subst (λ (z : DefaultNla). (z.kind < 65536) × IsBytes z.value) same (w.1, w.2) in
          (held.0, held.1, absent_no_row rows (masked d.kind) e),
      λ h. (d, h.0, h.1, refl),
    )

-- the value of an opaque attribute of type `n`, where one more type has a row of its own, which no
-- opaque attribute has
pub unknown_after : {F : Type 0} (other : DefaultNla → F) (number n : ℕ) (own rest : FamilyRow F)
    (d : DefaultNla) (Rest : Type 0) → ¬ WellAt other (row_of own) (other d) →
    (WellAt other (row_of rest) (other d) ↔ Rest) →
    WellAt other (row_of (row_if (n == number) own rest)) (other d) ↔ (n ≢ number) × Rest
unknown_after other number n own rest d Rest never_own elsewhere = go (n == number) refl
  where
    go : (b : Bool) → (n == number) ≡ b →
        WellAt other (row_of (row_if b own rest)) (other d) ↔ (n ≢ number) × Rest
    go true e = (λ w. absurd (never_own w), λ h. absurd (h.0 (eqb-true n number e)))
    go false e = (
      λ w. (
        λ same. let yes : (n == number) ≡ true = eq-eqb n number same in cc,
        elsewhere.0 w,
      ),
      λ h. elsewhere.1 h.1,
    )

-- beside the rows of a table
pub unknown_beside : {F : Type 0} (other : DefaultNla → F) (number : ℕ) (own : FamilyRow F)
    (rows : List (PlainRow F)) (d : DefaultNla) →
    ¬ WellAt other (row_of own) (other d) →
    (WellAt other (row_of (table_row rows (masked d.kind))) (other d) ↔ IsUnknown rows d) →
    WellAt other (row_of (row_if (masked d.kind == number) own (table_row rows (masked d.kind))))
    (other d) ↔ IsUnknownBeside number rows d
unknown_beside other number own rows d never_own elsewhere =
    unknown_after other number (masked d.kind) own (table_row rows (masked d.kind)) d
    (IsUnknown rows d) never_own elsewhere

-- ---- lists

-- an equivalence for each value gives one for lists
pub each_stated : {X : Type 0} (P Q : X → Type 0) → ((x : X) → P x ↔ Q x) → (xs : List X) →
    AllWell P xs ↔ AllByRecursion Q xs
each_stated P Q same [] = (λ _. tt, λ _. tt)
each_stated P Q same (x ∷ xs) = (
  λ h. ((same x).0 h.0, (each_stated P Q same xs).0 h.1),
  λ h. ((same x).1 h.0, (each_stated P Q same xs).1 h.1),
)

-- ---- families without rows

-- an attribute of any type is opaque
abbrev pub opaque_conditions : {number : ℕ} → Opaque number → Type 0
opaque_conditions {number = number} (opaque.Other d) = IsUnknown {F = Opaque number} [] d

abbrev pub opaque_attribute : {number : ℕ} → Opaque number → Attribute
opaque_attribute (opaque.Other d) = attribute_of d

pub opaque_stated : {number : ℕ} (x : Opaque number) →
    WellFormed (λ d. opaque.Other d) opaque_attribute (λ n. row_of (table_row [] n)) x ↔
    opaque_conditions x
unfolding WellFormed
opaque_stated =
    elim [
      | opaque.Other d ↦ unknown_label (λ z. opaque.Other z) opaque_attribute [] (λ _. true)
          (λ _. refl) (λ _. refl) tt d
    ]
