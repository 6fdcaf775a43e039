-- Attributes whose payload is a list of attributes of another family.
use Rattle.std.specs.Prelude.{
  ◌≡◌,
  ◌==◌,
  ◌&&◌,
  ℕ,
  Bool,
  List,
  Result,
  Ok,
  Err,
  map,
  refl,
}
use Rattle.std.proofs.Common.{ap, subst, sym, ◌∙◌}
use Rattle.nla_frame.specs.Attribute.{Attribute, list_string, masked}
use Rattle.nla_frame.specs.NlaItems.{nla_items}
use Rattle.nla_frame.specs.declared.default_nla.DefaultNla.{DefaultNla}
use Rattle.nla_frame.specs.declared.error.DecodeError.{DecodeError}
use Rattle.nla_frame.specs.declared.error.Family.{Family}
use Rattle.linkinfo_shapes.specs.declared.shape.Shape.{Shape}
use Rattle.linkinfo_table.specs.ByRows.{members_written_by_rows}
use Rattle.linkinfo_table.specs.Contents.{Contents}
use Rattle.linkinfo_table.specs.FamilyRows.{FamilyRow, row_of}
use Rattle.linkinfo_table.specs.Lists.{◌>>=◌, alike_pairs, headers_of, memory_of, values}
use Rattle.linkinfo_table.specs.Members.{Members, list_of, listed_of}
use Rattle.linkinfo_table.specs.Rows.{
  alike_in,
  labelled,
  meaning_in,
  memory_in,
  row_alike,
  row_meaning,
  row_needs_memory,
}
use Rattle.linkinfo_table.specs.SelfList.{inside}
use Rattle.linkinfo_table.specs.TypedRows.{HasPayload}

-- In the family `f` an attribute of type `number` holds a list of attributes of the family `inner`.
pub record HoldsListOf {X Y : Type 0} (f : Members X) (inner : Members Y) (number kind : ℕ)
    (label : List Y → X) : Type 0 where
  -- it means what the attributes in its payload mean, in order, or has the first error in it
  pub means : (a : Attribute) → masked a.kind ≡ number →
      f.meaning a ≡ (values inner.meaning (nla_items a.value) >>= λ xs. Ok (label xs))
  -- the headers in its payload are counted
  pub headers : (a : Attribute) → masked a.kind ≡ number →
      f.headers a ≡ headers_of inner.meaning inner.headers (nla_items a.value)
  -- reading it needs memory where reading the list does
  pub needs_memory : (a : Attribute) → masked a.kind ≡ number →
      f.needs_memory a ≡ memory_of inner.meaning inner.needs_memory (nla_items a.value)
  -- it is equivalent to one of its type with a list of equivalent attributes, in order
  pub alike : (a b : Attribute) → masked a.kind ≡ number →
      f.alike a b
      ≡ ((masked b.kind == number)
      && alike_pairs inner.alike (nla_items a.value) (nla_items b.value))
  -- errors, differences and what is not met are looked for in that list
  pub contains : f.contents number ≡ listed_of inner
  -- it is written with the type `kind`, and the canonical encoding of the list
  pub written : (xs : List Y) →
      f.attribute (label xs)
      ≡ record { kind = kind; value = list_string (map inner.attribute xs) }

-- ---- it does by its row

module _ {X Y : Type 0} (family : Family) (other : DefaultNla → X) (rows : ℕ → FamilyRow X)
    (inner : Members Y) (shape : Shape) (nested : Bool) (number : ℕ) (label : List Y → X)
    (row : HasPayload (rows number) shape nested (list_of inner) label)
    (a : Attribute) (typed : masked a.kind ≡ number) where
  labels : (k : ℕ) (r : Result (List Y) DecodeError) →
      labelled family k label (inside r) ≡ (r >>= λ xs. Ok (label xs))
  labels k (Ok xs) = refl
  labels k (Err e) = refl

  pub row_means :
      meaning_in family other (λ n. row_of (rows n)) a
      ≡ (values inner.meaning (nla_items a.value) >>= λ xs. Ok (label xs))
  unfolding meaning_in
  row_means =
      subst (λ (n : ℕ). row_meaning family other (row_of (rows n)) a
      ≡ (values inner.meaning (nla_items a.value) >>= λ xs. Ok (label xs))) (sym typed)
      (row.means family other a ∙ labels (masked a.kind) (values inner.meaning (nla_items a.value)))

  pub row_remembers :
      memory_in (λ n. row_of (rows n)) a
      ≡ memory_of inner.meaning inner.needs_memory (nla_items a.value)
  unfolding memory_in
  row_remembers =
      subst (λ (n : ℕ). row_needs_memory (row_of (rows n)) a
      ≡ memory_of inner.meaning inner.needs_memory (nla_items a.value)) (sym typed)
      (row.needs_memory a)

  pub row_is_alike : (b : Attribute) →
      alike_in (λ n. row_of (rows n)) a b
      ≡ ((masked b.kind == number)
      && alike_pairs inner.alike (nla_items a.value) (nla_items b.value))
  unfolding alike_in
  row_is_alike b =
      subst (λ (n : ℕ). row_alike (row_of (rows n)) a b
      ≡ ((masked b.kind == number) && alike_pairs inner.alike (nla_items a.value)
      (nla_items b.value))) (sym typed)
      (row.alike a b
      ∙ ap (λ (n : ℕ). (masked b.kind == n)
      && alike_pairs inner.alike (nla_items a.value) (nla_items b.value)) typed)

-- the headers in a payload that is a list of attributes of a family
abbrev pub headers_in : {Y : Type 0} → Members Y → List ℕ → ℕ
headers_in inner p = headers_of inner.meaning inner.headers (nla_items p)

-- an attribute of a row with such a payload holds the list
pub holds_list : {X Y : Type 0} {within : List Family} {contents : ℕ → Contents} {is_set : Bool}
    (family : Family) (other : DefaultNla → X)
    (attribute : X → Attribute) (rows : ℕ → FamilyRow X) (headers : ℕ → List ℕ → ℕ)
    (inner : Members Y) (shape : Shape) (nested : Bool) (number kind : ℕ) (label : List Y → X) →
    HasPayload (rows number) shape nested (list_of inner) label →
    ((p : List ℕ) → headers number p ≡ headers_in inner p) →
    ((xs : List Y) →
    attribute (label xs) ≡ record { kind = kind; value = list_string (map inner.attribute xs) }) →
    contents number ≡ listed_of inner →
    HoldsListOf
    (members_written_by_rows family other attribute rows attribute
    (λ a. headers (masked a.kind) a.value) within contents is_set) inner number kind label
holds_list family other attribute rows headers inner shape nested number kind label row count keeps
    contains = record {
      means = row_means family other rows inner shape nested number label row;
      headers = λ a typed. ap (λ (n : ℕ). headers n a.value) typed ∙ count a.value;
      needs_memory = λ a typed.
          row_remembers family other rows inner shape nested number label row a typed;
      alike = λ a b typed.
          row_is_alike family other rows inner shape nested number label row a typed b;
      contains = contains;
      written = keeps;
    }
