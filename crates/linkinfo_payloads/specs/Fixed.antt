-- Values that are written as a fixed number of bytes: reading such bytes and writing a value are
-- inverse.
use Rattle.std.specs.Prelude.{
  ◌≡◌,
  ℕ,
  ◌+◌,
  ◌^◌,
  ◌<◌,
  ◌==◌,
  Bool,
  true,
  false,
  if◌then◌else◌,
  List,
  ◌++◌,
  length,
  take,
  drop,
  Result,
  Ok,
  Err,
  refl,
}
use Rattle.std.specs.Int.{w16, from_be_bytes, to_be_bytes}
use Rattle.std.proofs.Common.{arith, sym, ap, ◌∙◌}
use Rattle.std.proofs.lemmas.Bool.{cond-true, eq-eqb, eqb-true}
use Rattle.std.proofs.lemmas.List.{
  drop_at,
  length-append,
  length-drop,
  length-take-le,
  take-append-drop,
  take_at,
}
use Rattle.nla_frame.specs.Attribute.{IsBytes}
use Rattle.nla_frame.specs.Payload.{of_length}
use Rattle.nla_frame.specs.declared.error.Cause.{Cause}
use Rattle.nla_frame.specs.declared.error.Cause.TheVariants as cause
use Rattle.nla_frame.proofs.ByteLists.{IsBytes-append, IsBytes-drop, IsBytes-take}
use Rattle.linkinfo_shapes.specs.Shapes.{Carrier, Holds, canon, means}
use Rattle.linkinfo_shapes.specs.ShapeLaws.{
  IsBytes-canon,
  canon-means,
  is_exact,
  means-canon,
  means_holds,
}
use Rattle.linkinfo_shapes.specs.declared.shape.Shape.{Shape}
use Rattle.linkinfo_shapes.specs.declared.shape.Shape.TheVariants as shape
use Rattle.linkinfo_payloads.specs.declared.fixed.BigEndian.{BigEndian}

-- `of` reads so many bytes, `bytes` writes a value, and `Holds` is what a Rust value can be
pub record IsFixed {X : Type 0} (width : ℕ) (of : List ℕ → X) (bytes : X → List ℕ)
    (Holds : X → Type 0) : Type 0 where
  pub held : (p : List ℕ) → IsBytes p → length p ≡ width → Holds (of p)
  pub back : (p : List ℕ) → IsBytes p → length p ≡ width → bytes (of p) ≡ p
  pub again : (x : X) → Holds x → of (bytes x) ≡ x
  pub long : (x : X) → Holds x → length (bytes x) ≡ width
  pub byte_list : (x : X) → Holds x → IsBytes (bytes x)

-- ---- a shape of one length of which each payload is canonical

abbrev good : {X : Type 0} → X → Result X Cause
good x = Ok x

good_same : {X : Type 0} (x y : X) → good x ≡ good y → x ≡ y
good_same x y h = cc

bad_good : {X : Type 0} (x : X) → Err cause.Length ≡ good x → ⊥
bad_good x h = absurd cc

read_as : {X : Type 0} (width : ℕ) (p : List ℕ) (x : X) → length p ≡ width →
    of_length width p x ≡ Ok x
read_as width p x long = cond-true (length p == width) _ _ (eq-eqb (length p) width long)

long_as : {X : Type 0} (width : ℕ) (p : List ℕ) (x y : X) → of_length width p x ≡ Ok y →
    length p ≡ width
long_as width p x y h = go (length p == width) refl h
  where
    go : (b : Bool) → (length p == width) ≡ b → (if b then Ok x else Err cause.Length) ≡ good y →
        length p ≡ width
    go true e h = eqb-true (length p) width e
    go false e h = absurd (bad_good y h)

pub fixed_shape : (shape : Shape) (width : ℕ) (of : List ℕ → Carrier shape) →
    ((p : List ℕ) → means shape p ≡ of_length width p (of p)) → is_exact shape ≡ true →
    IsFixed width of (canon shape) (Holds shape)
fixed_shape shape width of is exact = record {
  held = λ p bytes long. means_holds shape p (of p) bytes (read p long);
  back = λ p bytes long. sym (canon-means shape p (of p) bytes (read p long) exact);
  again = λ x h.
      let p = canon shape x in
      let m = sym (is p) ∙ means-canon shape x h in
      good_same (of p) x
      (sym (read_as width p (of p) (long_as width p (of p) x m)) ∙ m);
  long = λ x h.
      let p = canon shape x in long_as width p (of p) x (sym (is p) ∙ means-canon shape x h);
  byte_list = λ x h. IsBytes-canon shape x h;
}
  where
    read : (p : List ℕ) → length p ≡ width → means shape p ≡ Ok (of p)
    read p long = is p ∙ read_as width p (of p) long

-- ---- bytes that are kept

abbrev pub IsArray : ℕ → List ℕ → Type 0
IsArray width xs = (length xs ≡ width) × IsBytes xs

pub fixed_array : (width : ℕ) → IsFixed width (λ p. p) (λ x. x) (IsArray width)
fixed_array width = record {
  held = λ p bytes long. (long, bytes);
  back = λ p bytes long. refl;
  again = λ x h. refl;
  long = λ x h. h.0;
  byte_list = λ x h. h.1;
}

-- ---- one after another

abbrev pub pair_of : {A B : Type 0} → ℕ → (List ℕ → A) → (List ℕ → B) → List ℕ → A × B
pair_of width of of' p = (of (take width p), of' (drop width p))

abbrev pub pair_bytes : {A B : Type 0} → (A → List ℕ) → (B → List ℕ) → A × B → List ℕ
pair_bytes bytes bytes' x = bytes x.0 ++ bytes' x.1

abbrev pub pair_holds : {A B : Type 0} → (A → Type 0) → (B → Type 0) → A × B → Type 0
pair_holds holds holds' x = holds x.0 × holds' x.1

pub fixed_pair : {A B : Type 0} {width width' : ℕ} {of : List ℕ → A} {bytes : A → List ℕ}
    {holds : A → Type 0} {of' : List ℕ → B} {bytes' : B → List ℕ} {holds' : B → Type 0} →
    IsFixed width of bytes holds → IsFixed width' of' bytes' holds' →
    IsFixed (width + width') (pair_of width of of') (pair_bytes bytes bytes')
    (pair_holds holds holds')
fixed_pair {width = width} {width' = width'} {of = of} {bytes = bytes} {of' = of'} {bytes' = bytes'}
    one other = record {
      held = λ p b long. (
        one.held (take width p) (IsBytes-take width p b) (front p long),
        other.held (drop width p) (IsBytes-drop width p b) (rear p long),
      );
      back = λ p b long.
          ap (λ (z : List ℕ). z ++ bytes' (of' (drop width p)))
          (one.back (take width p) (IsBytes-take width p b) (front p long))
          ∙ ap (λ (z : List ℕ). take width p ++ z)
          (other.back (drop width p) (IsBytes-drop width p b) (rear p long))
          ∙ take-append-drop width p;
      again = λ x h.
          let long = one.long x.0 h.0 in
          let first =
          ap of (take_at (bytes x.0) (bytes' x.1) width long) ∙ one.again x.0 h.0 in
          let second =
          ap of' (drop_at (bytes x.0) (bytes' x.1) width long) ∙ other.again x.1 h.1 in
          λ i. (first i, second i);
      long = λ x h.
          omega (
            arith,
            length-append (bytes x.0) (bytes' x.1),
            one.long x.0 h.0,
            other.long x.1 h.1,
          );
      byte_list = λ x h.
          IsBytes-append (bytes x.0) (bytes' x.1) (one.byte_list x.0 h.0)
          (other.byte_list x.1 h.1);
    }
  where
    front : (p : List ℕ) → length p ≡ width + width' → length (take width p) ≡ width
    front p long = length-take-le width p (omega (arith, long))

    rear : (p : List ℕ) → length p ≡ width + width' → length (drop width p) ≡ width'
    rear p long = omega (arith, long, length-drop width p)

-- ---- a big-endian number

abbrev pub big_endian : ℕ → BigEndian
big_endian n = record { number = n }

pub fixed_big_endian : IsFixed 2 (λ p. big_endian (from_be_bytes w16 p))
    (λ n. to_be_bytes w16 n.number)
    (λ n. n.number < 2 ^ 16)
fixed_big_endian =
    let fixed = fixed_shape shape.Be16 2 (from_be_bytes w16) (λ p. refl) refl in record {
      held = λ p bytes long. fixed.held p bytes long;
      back = λ p bytes long. fixed.back p bytes long;
      again = λ x h. ap big_endian (fixed.again x.number h);
      long = λ x h. fixed.long x.number h;
      byte_list = λ x h. fixed.byte_list x.number h;
    }
