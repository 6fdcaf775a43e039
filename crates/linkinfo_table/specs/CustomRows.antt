-- Rows with payloads of types of their own as a list: the first of them, and the others.
use Rattle.std.specs.Prelude.{
  ◌≡◌,
  ◌==◌,
  ◌||◌,
  ◌&&◌,
  ℕ,
  ◌*◌,
  ◌<◌,
  ◌≤◌,
  Bool,
  true,
  false,
  if◌then◌else◌,
  List,
  ◌++◌,
  length,
  is_ok,
  refl,
}
use Rattle.std.proofs.Common.{ap, subst, sym, ◌∙◌}
use Rattle.std.proofs.lemmas.Bool.{eqb-true, ltb-true}
use Rattle.nla_frame.specs.Attribute.{Attribute, masked}
use Rattle.nla_frame.specs.declared.error.Family.{Family}
use Rattle.linkinfo_shapes.specs.declared.shape.Shape.{Shape}
use Rattle.linkinfo_shapes.specs.declared.shape.Shape.TheVariants.{Peer}
use Rattle.linkinfo_table.specs.Contents.{
  Contents,
  IsContent,
  IsPayloadContent,
  ListOf,
  NoList,
  contents_either,
  payload_headers,
}
use Rattle.linkinfo_table.specs.FamilyMeaning.{alike_by, meaning_by}
use Rattle.linkinfo_table.specs.FamilyRows.{FamilyRow}
use Rattle.linkinfo_table.specs.PayloadCodec.{codec_of}
use Rattle.linkinfo_table.specs.Payloads.{is_payload_row}
use Rattle.linkinfo_table.specs.TypedRows.{
  HasPayload,
  IsTyped,
  inside_after,
  inside_before,
  row_accepts,
  row_compares,
}
use Rattle.linkinfo_table.specs.declared.payload.LinkPayload as payload
use Rattle.linkinfo_table.specs.declared.row_family.RowFamily as family

-- the headers inside an attribute of this type, and inside one of the others
abbrev pub headers_either : ℕ → (List ℕ → ℕ) → (Attribute → ℕ) → Attribute → ℕ
headers_either number headers others a =
    if masked a.kind == number then headers a.value else others a

pub either_quarter : (number : ℕ) (headers : List ℕ → ℕ) (others : Attribute → ℕ) →
    ((p : List ℕ) → 4 * headers p ≤ length p) → ((a : Attribute) → 4 * others a ≤ length a.value) →
    (a : Attribute) → 4 * headers_either number headers others a ≤ length a.value
either_quarter number headers others here there a = go (masked a.kind == number)
  where
    go : (b : Bool) → 4 * (if b then headers a.value else others a) ≤ length a.value
    go true = here a.value
    go false = there a

-- of a row at the front, and of the others
pub either_counts : (number : ℕ) (headers : List ℕ → ℕ) (others : Attribute → ℕ) (here : Contents)
    (there : ℕ → Contents) → ((p : List ℕ) → headers p ≡ payload_headers here p) →
    ((a : Attribute) → others a ≡ payload_headers (there (masked a.kind)) a.value) →
    (a : Attribute) →
    headers_either number headers others a
    ≡ payload_headers (contents_either number here there (masked a.kind)) a.value
either_counts number headers others here there first rest a = go (masked a.kind == number)
  where
    go : (b : Bool) → (if b then headers a.value else others a)
        ≡ payload_headers (if b then here else there (masked a.kind)) a.value
    go true = first a.value
    go false = rest a

-- no row is one of an empty list
pub none_owned : {A : Type 0} → false ≡ true → A
none_owned h = absurd cc

-- the number of a row is a masked type
pub payload_row_low : (shape : Shape) (nested : Bool) (number : ℕ) →
    is_payload_row shape nested number ≡ true → number < 16384
payload_row_low Peer true number h = absurd cc
payload_row_low Peer false number h = ltb-true number 16384 h
payload_row_low _ nested number h = ltb-true number 16384 h

-- a row at the front, and one of the others
pub row_typed : {F : Type 0} (number : ℕ) (inside others : List Family) (owned : ℕ → Bool)
    (rows : ℕ → FamilyRow F) → IsTyped inside (rows number) → (n : ℕ) →
    (owned n ≡ true → IsTyped others (rows n)) → ((n == number) || owned n) ≡ true →
    IsTyped (inside ++ others) (rows n)
row_typed number inside others owned rows here n there h = go (n == number) refl h
  where
    go : (b : Bool) → (n == number) ≡ b → (b || owned n) ≡ true →
        IsTyped (inside ++ others) (rows n)
    go true e k =
        inside_before inside others (rows n)
        (subst (λ (m : ℕ). IsTyped inside (rows m)) (sym (eqb-true n number e)) here)
    go false e k = inside_after inside others (rows n) (there k)

-- ---- what attributes of a row contain

module _ {F Context X : Type 0} (own : family.Ghosts F Context) (c : Context) (number : ℕ)
    (held : payload.Ghosts X) (label : X → F) {shape : Shape} (nested : Bool)
    (row : HasPayload (own.rows c number) shape nested (codec_of held) label) where
  row_contained : (contents : Contents) →
      IsPayloadContent contents (λ p. is_ok (held.means p)) held.alike →
      IsContent contents number (λ a. is_ok (meaning_by own c a)) (alike_by own c)
  row_contained (NoList place count) law = tt
  row_contained (ListOf l inside) law = (
    λ a typed.
        row_accepts (own.rows c) a number typed row own.FAMILY own.other ∙ law.0 a.value,
    λ a b typed.
        row_compares (own.rows c) a number typed row b
        ∙ ap (λ (r : Bool). (masked b.kind == masked a.kind) && r) (law.1 a.value b.value),
    law.2,
    law.3,
  )

  pub either_contained : IsPayloadContent held.contents (λ p. is_ok (held.means p)) held.alike →
      (others : ℕ → Contents) →
      ((n : ℕ) → IsContent (others n) n (λ a. is_ok (meaning_by own c a)) (alike_by own c)) →
      (n : ℕ) →
      IsContent (contents_either number held.contents others n) n
      (λ a. is_ok (meaning_by own c a)) (alike_by own c)
  either_contained here others there n = go (n == number) refl
    where
      go : (b : Bool) → (n == number) ≡ b →
          IsContent (if b then held.contents else others n) n
          (λ a. is_ok (meaning_by own c a)) (alike_by own c)
      go true e =
          subst (λ (m : ℕ). IsContent held.contents m (λ a. is_ok (meaning_by own c a))
          (alike_by own c)) (sym (eqb-true n number e)) (row_contained held.contents here)
      go false e = there n
