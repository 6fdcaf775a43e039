-- What attributes contain: lists of attributes, at every depth, and what is known of these lists.
use Rattle.std.specs.Prelude.{
  ◌≡◌,
  ◌==◌,
  ◌&&◌,
  ◌+◌,
  ℕ,
  Bool,
  true,
  false,
  if◌then◌else◌,
  is_ok,
  List,
  [],
  ◌∷◌,
  Result,
  Ok,
  Err,
}
use Rattle.nla_frame.specs.Attribute.{Attribute, masked}
use Rattle.nla_frame.specs.NlaItems.{nla_items}
use Rattle.nla_frame.specs.declared.error.DecodeError.{DecodeError}
use Rattle.nla_frame.specs.declared.error.Family.{Family}
use Rattle.linkinfo_table.specs.Lists.{alike_pairs}

-- of the attributes of a list
pub record Listed : Type 0 where
  -- the family that they are of
  pub family : Family
  -- whether an attribute is accepted
  pub accepts : Attribute → Bool
  -- whether two accepted attributes are equivalent
  pub alike : Attribute → Attribute → Bool
  -- whether the list is a set, to which a request adds attributes, in any order
  pub is_set : Bool
  -- whether a request for the list is one for all of it
  pub is_whole : Bool

-- What a payload contains: no list of a family, or a list of such attributes, of which those of
-- each type without flag bits contain these in turn. Of a payload without such a list is given
-- where its error is if it is rejected, from the header of its attribute, and how many headers are
-- examined in it.
pub data Contents : Type 0 where
  NoList : (List ℕ → ℕ) → (List ℕ → ℕ) → Contents
  ListOf : Listed → (ℕ → Contents) → Contents

-- a single value, whose error is at the attribute's header, and which has no headers
abbrev pub single_value : Contents
single_value = NoList (λ _. 0) (λ _. 0)

-- The headers examined in a list up to the first attribute at fault, given which attributes are
-- accepted and the headers in each.
abbrev pub counted_in : (Attribute → Bool) → (Attribute → ℕ) → List (Result Attribute ℕ) → ℕ
counted_in accepts inside [] = 0
counted_in accepts inside ((Err seen) ∷ more) = seen
counted_in accepts inside ((Ok a) ∷ more) =
    1 + (inside a + (if accepts a then counted_in accepts inside more else 0))

-- the headers examined in a payload
abbrev pub payload_headers : Contents → List ℕ → ℕ
payload_headers (NoList place count) p = count p
payload_headers (ListOf l inside) p =
    counted_in l.accepts (λ a. payload_headers (inside (masked a.kind)) a.value) (nla_items p)

-- attributes of a family, by what it defines
abbrev pub listed : {X : Type 0} → Family → (Attribute → Result X DecodeError) →
    (Attribute → Attribute → Bool) → Bool → Listed
listed family meaning alike is_set = record {
  family = family;
  accepts = λ a. is_ok (meaning a);
  alike = alike;
  is_set = is_set;
  is_whole = false;
}

-- ---- what is known of them

-- equivalent attributes have one type, flag bits aside
abbrev pub HasOneType : (Attribute → Attribute → Bool) → Type 0
HasOneType alike = (a b : Attribute) → alike a b ≡ true → masked a.kind ≡ masked b.kind

-- each attribute in the byte string is accepted, and nothing is left over
abbrev pub accepted_under : {T : Type 0} → (T → Attribute → Bool) → (T → Attribute → T) → T →
    List (Result Attribute ℕ) → Bool
accepted_under accepts after t [] = true
accepted_under accepts after t ((Err seen) ∷ more) = false
accepted_under accepts after t ((Ok a) ∷ more) =
    accepts t a && accepted_under accepts after (after t a) more

abbrev pub each_accepted : (Attribute → Bool) → List (Result Attribute ℕ) → Bool
each_accepted accepts ps = accepted_under (λ _ a. accepts a) (λ t _. t) (tt {0}) ps

-- What attributes of a type contain, of a family that accepts and compares attributes so. One with
-- a list is accepted if each attribute in it is, and equivalent to one of its type with equivalent
-- attributes, in order.
abbrev pub IsContent : Contents → ℕ → (Attribute → Bool) → (Attribute → Attribute → Bool) → Type 0
IsContent (NoList place count) number accepts alike = Unit {0}
IsContent (ListOf l inside) number accepts alike =
    ((a : Attribute) → masked a.kind ≡ number →
    accepts a ≡ each_accepted l.accepts (nla_items a.value))
    × ((a b : Attribute) → masked a.kind ≡ number →
    alike a b
    ≡ ((masked b.kind == masked a.kind)
    && alike_pairs l.alike (nla_items a.value) (nla_items b.value)))
    × HasOneType l.alike
    × ((n : ℕ) → IsContent (inside n) n l.accepts l.alike)

-- What payloads contain that are accepted and compared so.
abbrev pub IsPayloadContent : Contents → (List ℕ → Bool) → (List ℕ → List ℕ → Bool) → Type 0
IsPayloadContent (NoList place count) accepts alike = Unit {0}
IsPayloadContent (ListOf l inside) accepts alike =
    ((p : List ℕ) → accepts p ≡ each_accepted l.accepts (nla_items p))
    × ((p q : List ℕ) → alike p q ≡ alike_pairs l.alike (nla_items p) (nla_items q))
    × HasOneType l.alike
    × ((n : ℕ) → IsContent (inside n) n l.accepts l.alike)

-- ---- of the rows of a family

-- what attributes of a row contain, and those of others
abbrev pub contents_either : ℕ → Contents → (ℕ → Contents) → ℕ → Contents
contents_either number here others n = if n == number then here else others n
