-- Bytes that pass as a list of addresses are the encoding of one.
use Rattle.std.proofs.Common.{
  ◌≡◌,
  ◌+◌,
  ◌%◌,
  ◌≤◌,
  ◌++◌,
  ◌==◌,
  ◌&&◌,
  ℕ,
  true,
  List,
  [],
  ◌∷◌,
  length,
  replicate,
  refl,
  sym,
  ap,
  subst,
  ◌∙◌,
  append_assoc,
  arith,
}
use Rattle.std.proofs.lemmas.Bool.{and_parts, eqb-true}
use Rattle.std.proofs.lemmas.List.{append-nil, nil_from_length}
use Rattle.nla_frame.specs.Attribute.{
  Attribute,
  IsBytes,
  canonical_string,
  header,
  list_string,
  pad,
}
use Rattle.nla_frame.specs.Framing.{Begins, Frames, Splits}
use Rattle.nla_frame.specs.NlaItems.{nla_items_of, split}
use Rattle.nla_frame.proofs.Framing.{split_is}
use Rattle.nla_frame.proofs.Stepping.{nla_items_split}
use Rattle.linkinfo_build.specs.Bytes.{AreNumbered, IsAddressString, are_addresses, is_address_list}

-- no rest, and attributes of these types
record Numbered (width n : ℕ) (front : List Attribute) (left : List ℕ) : Type 0 where
  pub none_left : left ≡ []
  pub are : AreNumbered width n front

numbered : (width n : ℕ) (front : List Attribute) (left : List ℕ) →
    are_addresses width n (nla_items_of front left) ≡ true → Numbered width n front left
numbered width n [] [] h = record { none_left = refl; are = tt }
numbered width n [] (b ∷ left) h = absurd cc
numbered width n (a ∷ more) left h =
    let parts =
    and_parts ((a.kind == n) && (length a.value == width))
    (are_addresses width (n + 1) (nla_items_of more left)) h in
    let own = and_parts (a.kind == n) (length a.value == width) parts.0 in
    let rest = numbered width (n + 1) more left parts.1 in
    record {
      none_left = rest.none_left;
      are = (
        eqb-true a.kind n own.0,
        eqb-true (length a.value) width own.1,
        rest.are,
      );
    }

module _ (width : ℕ) (four : width % 4 ≡ 0) where
  -- an attribute without padding, and what follows it
  one : (s : List ℕ) (a : Attribute) (padding rest tail : List ℕ) → Begins s a padding rest →
      length padding ≤ pad (length a.value) → length a.value ≡ width → rest ≡ tail →
      s ≡ canonical_string a ++ tail
  one s a padding rest tail begins short long same =
      let none : pad (length a.value) ≡ 0 = omega (arith, four, long) in
      let empty : padding ≡ [] = nil_from_length padding (omega (arith, short, none)) in
      begins.string
      ∙ (λ i. header a ++ (a.value ++ (empty i ++ same i)))
      ∙ sym (append_assoc (header a) a.value tail)
      ∙ ap (λ (v : List ℕ). (header a ++ v) ++ tail) (sym (append-nil a.value))
      ∙ ap (λ (k : ℕ). (header a ++ (a.value ++ replicate k 0)) ++ tail) (sym none)

  exact : (s : List ℕ) (front : List Attribute) (n : ℕ) → Frames s front →
      AreNumbered width n front → s ≡ list_string front
  exact s [] n frames are = frames
  exact s (a ∷ []) n frames are = one s a frames.0 [] [] frames.2 frames.1 are.1 refl
  exact s (a ∷ b ∷ more) n frames are =
      one s a frames.0 frames.1 (list_string (b ∷ more)) frames.3 (omega (arith, frames.2)) are.1
      (exact frames.1 (b ∷ more) (n + 1) frames.4 are.2)

pub address_string : (width : ℕ) (s : List ℕ) → width % 4 ≡ 0 → IsBytes s →
    is_address_list width s ≡ true → IsAddressString width s
unfolding is_address_list
address_string width s four bytes h =
    let n =
    numbered width 0 (split s).front (split s).left
    (ap (λ ps. are_addresses width 0 ps) (sym (nla_items_split s)) ∙ h) in
    let splits = split_is s bytes in
    let frames : Frames s (split s).front =
    subst (λ (l : List ℕ). Splits s (split s).front l) n.none_left splits in
    record {
      attributes = (split s).front;
      numbered = n.are;
      encoded = sym (exact width four s (split s).front 0 frames n.are);
    }
