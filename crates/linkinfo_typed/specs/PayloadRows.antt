-- Rows with payloads of types of their own: a decoded datum belongs to none of them, and an
-- attribute of such a row means what its payload does.
use Rattle.std.specs.Prelude.{
  ◌≡◌,
  ◌≢◌,
  ◌==◌,
  ◌&&◌,
  ◌||◌,
  ℕ,
  Bool,
  true,
  false,
  List,
  [],
  ◌∷◌,
  ◌++◌,
  refl,
}
use Rattle.std.proofs.Common.{ap, subst, sym, ◌∙◌}
use Rattle.nla_frame.specs.Attribute.{Attribute, masked}
use Rattle.nla_frame.specs.declared.default_nla.DefaultNla.{DefaultNla}
use Rattle.nla_frame.specs.declared.error.Family.{Family}
use Rattle.linkinfo_shapes.specs.Data.{value_of}
use Rattle.linkinfo_shapes.specs.declared.shape.Shape.{Shape}
use Rattle.linkinfo_table.specs.ByRows.{members_written_by_rows}
use Rattle.linkinfo_table.specs.Contents.{Contents}
use Rattle.linkinfo_table.specs.Codecs.{Codec}
use Rattle.linkinfo_table.specs.FamilyRows.{
  Custom,
  FamilyRow,
  SuitsDecoded,
  SuitsRow,
  row_if,
  row_of,
}
use Rattle.linkinfo_table.specs.Members.{Members}
use Rattle.linkinfo_table.specs.Rows.{
  alike_in,
  labelled,
  meaning_in,
  memory_in,
  row_alike,
  row_meaning,
  row_needs_memory,
}
use Rattle.linkinfo_table.specs.TypedRows.{HasPayload, with_row}
use Rattle.linkinfo_table.specs.declared.decoded.Decoded.{Decoded}
use Rattle.linkinfo_table.specs.declared.decoded.Decoded.TheVariants as decoded

-- whether a type is one of these
abbrev pub is_among : List ℕ → ℕ → Bool
is_among [] n = false
is_among (k ∷ ks) n = (n == k) || is_among ks n

-- a type that is among neither of two lists is not among both together
pub beside_both : (xs ys : List ℕ) (n : ℕ) → is_among xs n ≡ false → is_among ys n ≡ false →
    is_among (xs ++ ys) n ≡ false
beside_both [] ys n first second = second
beside_both (k ∷ ks) ys n first second =
    go (n == k) (λ e. beside_both ks ys n e second) first
  where
    go : (b : Bool) → (is_among ks n ≡ false → is_among (ks ++ ys) n ≡ false) →
        (b || is_among ks n) ≡ false → (b || is_among (ks ++ ys) n) ≡ false
    go true more e = e
    go false more e = more e

-- .. where they are among others if they are not among these
pub of_none : (xs ys : List ℕ) (n : ℕ) {p q : Bool} → (p ≡ false → is_among xs n ≡ false) →
    (q ≡ false → is_among ys n ≡ false) → (p || q) ≡ false → is_among (xs ++ ys) n ≡ false
of_none xs ys n {p = true} here there h = absurd cc
of_none xs ys n {p = false} here there h = beside_both xs ys n (here refl) (there h)

-- whether a value contains one of these payloads
abbrev pub is_held : {X : Type 0} → List (X → Bool) → X → Bool
is_held [] x = false
is_held (f ∷ fs) x = f x || is_held fs x

-- the type is none of these, and the other condition holds
abbrev pub IsBeside : List ℕ → ℕ → Type 0 → Type 0
IsBeside [] n other = other
IsBeside (k ∷ ks) n other = (n ≢ k) × IsBeside ks n other

-- what follows for the rows after one of them follows for all
pub with_suits : {F R : Type 0} (k : ℕ) (shape : Shape) (nested : Bool) (codec : Codec)
    (label : codec.Carrier → F) (rest : ℕ → FamilyRow F) (read : Decoded) →
    SuitsDecoded (with_row k shape nested codec label rest) read →
    (SuitsDecoded rest read → R) → R
with_suits {F = F} {R = R} k shape nested codec label rest (decoded.Typed n datum) h next =
    go (n == k) h
  where
    go : (b : Bool) →
        SuitsRow (row_if b (Custom shape nested codec label) (rest n)) (value_of datum) → R
    go true i = absurd i
    go false i = next i
with_suits k shape nested codec label rest (decoded.Kept nla) h next = next h

-- In the family `f` an attribute of type `number` has a payload of a type of its own.
pub record HoldsPayload {X : Type 0} (f : Members X) (codec : Codec) (number kind : ℕ)
    (label : codec.Carrier → X) : Type 0 where
  -- it means what its payload does; a cause of the payload's own has the family and the type
  pub means : (a : Attribute) → masked a.kind ≡ number →
      f.meaning a ≡ labelled f.family number label (codec.means a.value)
  -- the headers in its payload are counted
  pub headers : (a : Attribute) → masked a.kind ≡ number → f.headers a ≡ codec.headers a.value
  -- reading it needs memory where reading its payload does
  pub needs_memory : (a : Attribute) → masked a.kind ≡ number →
      f.needs_memory a ≡ codec.needs_memory a.value
  -- it is equivalent to one of its type with an equivalent payload
  pub alike : (a b : Attribute) → masked a.kind ≡ number →
      f.alike a b ≡ ((masked b.kind == number) && codec.alike a.value b.value)
  -- it is written with the type `kind`, and the canonical payload
  pub written : (x : codec.Carrier) →
      f.attribute (label x) ≡ record { kind = kind; value = codec.canon x }

-- ---- it does by its row

module _ {X : Type 0} (family : Family) (other : DefaultNla → X) (rows : ℕ → FamilyRow X)
    (codec : Codec) (shape : Shape) (nested : Bool) (number : ℕ) (label : codec.Carrier → X)
    (row : HasPayload (rows number) shape nested codec label) (a : Attribute)
    (typed : masked a.kind ≡ number) where
  row_means :
      meaning_in family other (λ n. row_of (rows n)) a
      ≡ labelled family number label (codec.means a.value)
  unfolding meaning_in
  row_means =
      subst (λ (n : ℕ). row_meaning family other (row_of (rows n)) a
      ≡ labelled family number label (codec.means a.value)) (sym typed)
      (row.means family other a
      ∙ ap (λ (n : ℕ). labelled family n label (codec.means a.value)) typed)

  row_remembers :
      memory_in (λ n. row_of (rows n)) a ≡ codec.needs_memory a.value
  unfolding memory_in
  row_remembers =
      subst (λ (n : ℕ). row_needs_memory (row_of (rows n)) a ≡ codec.needs_memory a.value)
      (sym typed) (row.needs_memory a)

  row_is_alike : (b : Attribute) →
      alike_in (λ n. row_of (rows n)) a b
      ≡ ((masked b.kind == number) && codec.alike a.value b.value)
  unfolding alike_in
  row_is_alike b =
      subst (λ (n : ℕ). row_alike (row_of (rows n)) a b
      ≡ ((masked b.kind == number) && codec.alike a.value b.value)) (sym typed)
      (row.alike a b
      ∙ ap (λ (n : ℕ). (masked b.kind == n) && codec.alike a.value b.value) typed)

pub holds_payload : {X : Type 0} {within : List Family} {contents : ℕ → Contents} {is_set : Bool}
    (family : Family) (other : DefaultNla → X)
    (attribute : X → Attribute) (rows : ℕ → FamilyRow X) (headers : ℕ → List ℕ → ℕ)
    (codec : Codec) (shape : Shape) (nested : Bool) (number kind : ℕ)
    (label : codec.Carrier → X) → HasPayload (rows number) shape nested codec label →
    ((p : List ℕ) → headers number p ≡ codec.headers p) →
    ((x : codec.Carrier) → attribute (label x) ≡ record { kind = kind; value = codec.canon x }) →
    HoldsPayload
    (members_written_by_rows family other attribute rows attribute
    (λ a. headers (masked a.kind) a.value) within contents is_set) codec number kind label
holds_payload family other attribute rows headers codec shape nested number kind label row count
    keeps = record {
      means = row_means family other rows codec shape nested number label row;
      headers = λ a typed. ap (λ (n : ℕ). headers n a.value) typed ∙ count a.value;
      needs_memory = λ a typed.
          row_remembers family other rows codec shape nested number label row a typed;
      alike = λ a b typed.
          row_is_alike family other rows codec shape nested number label row a typed b;
      written = keeps;
    }
