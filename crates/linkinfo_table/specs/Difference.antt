-- The first pair of attributes in which two lists differ, and the innermost attribute that is
-- rejected.
use Rattle.std.specs.Prelude.{
  ℕ,
  ◌==◌,
  ◌+◌,
  ◌≤◌,
  Bool,
  if◌then◌else◌,
  IfSome,
  List,
  [],
  ◌∷◌,
  Option,
  None,
  Some,
  Result,
  Ok,
  Err,
  length,
}
use Rattle.std.specs.Option.{option_map}
use Rattle.nla_frame.specs.Attribute.{Attribute, aligned, masked}
use Rattle.nla_frame.specs.NlaItems.{nla_items}
use Rattle.nla_frame.specs.declared.error.Family.{Family}
use Rattle.linkinfo_table.specs.Contents.{Contents, ListOf, Listed, NoList}
use Rattle.linkinfo_table.specs.Last.{attributes_of}
use Rattle.linkinfo_table.specs.declared.difference.Difference.{Difference}
use Rattle.linkinfo_table.specs.declared.last.PlacedNla.{PlacedNla}

-- the first option if it is `Some`, otherwise the second one
abbrev pub first_or : {A : Type 0} → Option A → Option A → Option A
first_or (Some x) o = Some x
first_or None o = o

-- the offset after the payload of an attribute
abbrev pub end_of : PlacedNla → ℕ
end_of p = p.offset + (4 + length p.nla.value)

-- ---- the first pair that differs

-- the difference at two attributes, or at one attribute after which the other list has no more
abbrev pub differ : Family → PlacedNla → PlacedNla → Difference
differ family p q = record {
  family = family;
  kind = masked p.nla.kind;
  first = Some p.offset;
  second = Some q.offset;
}

abbrev pub first_alone : Family → PlacedNla → Difference
first_alone family p = record {
  family = family;
  kind = masked p.nla.kind;
  first = Some p.offset;
  second = None;
}

abbrev pub second_alone : Family → PlacedNla → Difference
second_alone family q = record {
  family = family;
  kind = masked q.nla.kind;
  first = None;
  second = Some q.offset;
}

-- the offsets of a difference are at most these
pub record IsWithin (first second : ℕ) (difference : Difference) : Type 0 where
  pub first_in : IfSome difference.first (λ n. n ≤ first)
  pub second_in : IfSome difference.second (λ n. n ≤ second)

-- a difference of the payloads of two attributes, by offsets in the lists of these attributes
abbrev pub inner_difference : PlacedNla → PlacedNla → Difference → Difference
inner_difference p q inner = record {
  family = inner.family;
  kind = inner.kind;
  first = option_map (λ n. p.offset + 4 + n) inner.first;
  second = option_map (λ n. q.offset + 4 + n) inner.second;
}

-- the difference of two attributes as a whole
abbrev pub pair_difference : Family → Bool → PlacedNla → PlacedNla → Option Difference
pair_difference family alike p q = if alike then None else Some (differ family p q)

-- the difference of two attributes, given that of two of one type
abbrev pub typed_difference : Family → (PlacedNla → PlacedNla → Option Difference) → PlacedNla →
    PlacedNla → Option Difference
typed_difference family pair p q =
    if masked q.nla.kind == masked p.nla.kind then pair p q else Some (differ family p q)

-- the first difference of two lists, given the difference of each pair of attributes under a state
-- that the attributes of the first list carry on
abbrev pub pairs_difference : {T : Type 0} → Family →
    (T → PlacedNla → PlacedNla → Option Difference) →
    (T → Attribute → T) → T → List PlacedNla → List PlacedNla → Option Difference
pairs_difference family pair after t [] [] = None
pairs_difference family pair after t [] (q ∷ qs) = Some (second_alone family q)
pairs_difference family pair after t (p ∷ ps) [] = Some (first_alone family p)
pairs_difference family pair after t (p ∷ ps) (q ∷ qs) =
    first_or (pair t p q) (pairs_difference family pair after (after t p.nla) ps qs)

abbrev pub stays : Unit {0} → Attribute → Unit {0}
stays t a = t

-- the difference of two payloads, given the difference of two attributes of one type in them
abbrev pub payloads_difference : Family → (PlacedNla → PlacedNla → Option Difference) → List ℕ →
    List ℕ → Option Difference
payloads_difference family pair s t =
    pairs_difference family (λ _ p q. typed_difference family pair p q) stays tt (attributes_of s)
    (attributes_of t)

-- The difference of two attributes of one type in a family: of their lists if they contain lists,
-- otherwise of the whole, if they are not equivalent.
abbrev pub payload_difference : Contents → Family → Bool → PlacedNla → PlacedNla → Option Difference
payload_difference (NoList place count) family alike p q = pair_difference family alike p q
payload_difference (ListOf l inside) family alike p q =
    option_map (inner_difference p q)
    (payloads_difference l.family (λ x y.
    payload_difference (inside (masked x.nla.kind)) l.family (l.alike x.nla y.nla) x y)
    p.nla.value q.nla.value)

-- .. given what the attributes of each type contain
abbrev pub attribute_difference : (ℕ → Contents) → Family → (Attribute → Attribute → Bool) →
    PlacedNla → PlacedNla → Option Difference
attribute_difference contents family alike p q =
    payload_difference (contents (masked p.nla.kind)) family (alike p.nla q.nla) p q

-- the difference of two payloads that are lists
abbrev pub list_difference : Listed → (ℕ → Contents) → List ℕ → List ℕ → Option Difference
list_difference l inside s t =
    payloads_difference l.family (λ p q. attribute_difference inside l.family l.alike p q) s t

-- ---- the innermost attribute that is rejected

-- the offset of the first attribute that is rejected, or of a rest without a header, given the
-- offset of each attribute's error from its header
abbrev pub error_offset : {T : Type 0} → (T → Attribute → Option ℕ) → (T → Attribute → T) → T → ℕ →
    List (Result Attribute ℕ) → Option ℕ
error_offset inside after t n [] = None
error_offset inside after t n ((Err seen) ∷ more) = Some n
error_offset inside after t n ((Ok a) ∷ more) =
    first_or (option_map (λ k. n + k) (inside t a))
    (error_offset inside after (after t a) (n + aligned (4 + length a.value)) more)

-- the error of an attribute that is rejected as a whole, given its place from the header
abbrev pub own_error : Bool → ℕ → Option ℕ
own_error accepted place = if accepted then None else Some place

-- the offset of a payload's error, given the offset of each attribute's error from its header
abbrev pub each_error : (Attribute → Option ℕ) → List ℕ → Option ℕ
each_error inside s = error_offset (λ _ a. inside a) stays tt 0 (nla_items s)

-- The offset of an attribute's error from its header, by its payload: in its list if it contains
-- one, otherwise the place that its contents say, if it is not accepted.
abbrev pub payload_error : Contents → Bool → List ℕ → Option ℕ
payload_error (NoList place count) accepted p = own_error accepted (place p)
payload_error (ListOf l inside) accepted p =
    option_map (λ k. 4 + k)
    (each_error (λ a. payload_error (inside (masked a.kind)) (l.accepts a) a.value) p)

-- .. given what the attributes of each type contain
abbrev pub attribute_error : (ℕ → Contents) → (Attribute → Bool) → Attribute → Option ℕ
attribute_error contents accepts a =
    payload_error (contents (masked a.kind)) (accepts a) a.value

-- the offset of the error of a payload that is a list
abbrev pub list_error : Listed → (ℕ → Contents) → List ℕ → Option ℕ
list_error l inside s = each_error (λ a. attribute_error inside l.accepts a) s
