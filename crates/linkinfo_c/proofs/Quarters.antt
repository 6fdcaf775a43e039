-- There are at most a quarter as many attributes as bytes.
use Rattle.std.proofs.Common.{
  ◌≡◌,
  ℕ,
  suc,
  ◌+◌,
  ◌*◌,
  ◌≤◌,
  List,
  [],
  ◌∷◌,
  ◌++◌,
  length,
  refl,
  ap,
  arith,
  Result,
  Ok,
  Err,
}
use Rattle.nla_frame.specs.Attribute.{Attribute}
use Rattle.nla_frame.specs.NlaItems.{items_of as framed_items, nla_items}
use Rattle.nla_frame.specs.declared.error.DecodeError.{DecodeError}
use Rattle.nla_frame.proofs.Stepping.{by_nla_items, nla_items_nil}
use Rattle.linkinfo.specs.Roles.{kinds_after, no_kinds}
use Rattle.linkinfo.specs.Walks.{item_or_error, walk_items}
use Rattle.linkinfo.specs.declared.role.CurrentKinds.{CurrentKinds}
use Rattle.linkinfo_c.specs.Items.{attributes_in, each_after, given_by, item_after, items_of}

pub length_each : {R : Type 0} (of : List Attribute → Attribute → R) (front xs : List Attribute) →
    length (each_after of front xs) ≡ length xs
length_each of front [] = refl
length_each of front (a ∷ more) = ap suc (length_each of (front ++ a ∷ []) more)

abbrev walked : CurrentKinds → List (Result Attribute ℕ) → ℕ
walked t ps = length (attributes_in (walk_items t ps))

abbrev framed : List (Result Attribute ℕ) → ℕ
framed ps = length (attributes_in (framed_items ps))

one_more : (a : Attribute) (r : Result CurrentKinds DecodeError) (ps : List (Result Attribute ℕ))
    (n : ℕ) → ((u : CurrentKinds) → 4 * walked u ps ≤ n) →
    4 * length (attributes_in (item_or_error a r (λ u. walk_items u ps))) ≤ 4 + n
one_more a (Ok u) ps n h = omega (arith, h u)
one_more a (Err e) ps n h = omega arith

walked_quarter : (s : List ℕ) (t : CurrentKinds) → 4 * walked t (nla_items s) ≤ length s
walked_quarter s = by_nla_items (λ z. (t : CurrentKinds) → 4 * walked t (nla_items z) ≤ length z)
    (λ t. omega (arith, ap (walked t) nla_items_nil))
    (λ z some broken t. omega (arith, ap (walked t) broken))
    (λ z a rest front room more t.
    omega (
      arith,
      ap (walked t) front,
      room,
      one_more a (kinds_after t a) (nla_items rest) (length rest) more,
    ))
    s

pub items_quarter : (s : List ℕ) → 4 * length (items_of s) ≤ length s
items_quarter s = omega (
  arith,
  length_each (item_after s) [] (attributes_in (given_by s)),
  walked_quarter s no_kinds,
)

pub framed_quarter : (s : List ℕ) → 4 * framed (nla_items s) ≤ length s
framed_quarter s = by_nla_items (λ z. 4 * framed (nla_items z) ≤ length z)
    (omega (arith, ap framed nla_items_nil))
    (λ z some broken. omega (arith, ap framed broken))
    (λ z a rest front room more. omega (arith, ap framed front, room, more))
    s
