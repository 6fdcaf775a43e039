-- The rows that `macvlan` and `macvtap` links share, given the values that each of the two families
-- makes of their data.
use Rattle.std.specs.Prelude.{
  ◌≡◌,
  ◌==◌,
  ℕ,
  false,
  if◌then◌else◌,
  Some,
  List,
  [],
  ◌∷◌,
  ◌++◌,
  refl,
}
use Rattle.std.proofs.Common.{sym, ap, ◌∙◌}
use Rattle.std.proofs.lemmas.Bool.{cond-false, ne_eqb}
use Rattle.nla_frame.specs.Attribute.{Attribute, masked}
use Rattle.nla_frame.specs.declared.error.Family.{Family}
use Rattle.linkinfo_numbers.specs.Table.{key-value_of}
use Rattle.linkinfo_numbers.specs.Macvlan.{
  mac_vlan_mode,
  mac_vlan_mode_table_holds,
  mac_vlan_mac_address_mode,
  mac_vlan_mac_address_mode_table_holds,
  mac_vlan_flags,
}
use Rattle.linkinfo_shapes.specs.Table.{found, mac_vlan_rows}
use Rattle.linkinfo_shapes.specs.declared.shape.Shape.{Shape}
use Rattle.linkinfo_shapes.specs.declared.shape.Shape.TheVariants.{Le32, Le16, Mac, I32, SelfList}
use Rattle.linkinfo_table.specs.FamilyRows.{
  PlainRow,
  row,
  typed,
  table_row,
  row_of,
  lookup_of,
  lookup_in,
  EachKeeps,
  Stores,
  RowOwes,
  FamilyRow,
  SuitsDecoded,
}
use Rattle.linkinfo_table.specs.FamilyRowLaws.{table_lookup}
use Rattle.linkinfo_table.specs.Lookups.{LookupSays}
use Rattle.linkinfo_table.specs.ByRows.{members_with, rows_are_family}
use Rattle.linkinfo_table.specs.Contents.{Contents, payload_headers}
use Rattle.linkinfo_table.specs.Described.{LookupContains}
use Rattle.linkinfo_table.specs.Members.{IsFamily}
use Rattle.linkinfo_table.specs.Rows.{headers_inside, meaning_in}
use Rattle.linkinfo_table.specs.Labels.{each_keeps}
use Rattle.linkinfo_devices.specs.MacView.{
  MacLabels,
  MacLabelsKeep,
  Mode,
  Flags,
  MacAddrMode,
  MacAddr,
  MacAddrData,
  MacAddrCount,
  BcQueueLen,
  BcQueueLenUsed,
  BcCutoff,
  Other,
}
use Rattle.linkinfo_devices.specs.Nested.{
  nested_contained,
  nested_contains,
  nested_counts,
  nested_contents,
  nested_rows,
  nested_owes,
  nested_says,
  nested_lookup,
  nested_lookup_is,
  nested_quarter,
  suits_plain,
  stores_plain,
}
use Rattle.linkinfo_table.specs.declared.decoded.Decoded.{Decoded}

-- all rows except that of lists
abbrev pub mac_plain_rows : {X : Type 0} → MacLabels X → List (PlainRow X)
mac_plain_rows l =
    row 1 Le32 (λ n. l.mode (mac_vlan_mode n)) ∷
    row 2 Le16 (λ n. l.flags (mac_vlan_flags n)) ∷
    row 3 Le32 (λ n. l.mac_addr_mode (mac_vlan_mac_address_mode n)) ∷
    row 4 Mac (λ a. l.mac_addr a) ∷
    row 6 Le32 (λ n. l.mac_addr_count n) ∷
    row 7 Le32 (λ n. l.bc_queue_len n) ∷
    row 8 Le32 (λ n. l.bc_queue_len_used n) ∷
    row 9 I32 (λ n. l.bc_cutoff n) ∷
    []

-- the rows of an attribute inside `around` lists
abbrev pub mac_rows : {X : Type 0} → Family → (X → Attribute) → MacLabels X → ℕ → ℕ → FamilyRow X
mac_rows f attribute l around n =
    nested_rows f (λ d. l.other d) attribute (λ xs. l.mac_addr_data xs) (mac_plain_rows l) around n

-- what attributes of each type inside `around` lists contain
abbrev pub mac_contents : {X : Type 0} → Family → (X → Attribute) → MacLabels X → ℕ → ℕ → Contents
mac_contents f attribute l around n =
    nested_contents f (λ d. l.other d) attribute (λ xs. l.mac_addr_data xs) (mac_plain_rows l)
    around n

pub mac_keeps : {X : Type 0} (attribute : X → Attribute) (l : MacLabels X) →
    MacLabelsKeep attribute l → EachKeeps attribute (mac_plain_rows l)
mac_keeps attribute l k = each_keeps attribute (mac_plain_rows l) refl (
  λ n. k.shown (Mode (mac_vlan_mode n))
      ∙ ap (typed 1 Le32) (key-value_of mac_vlan_mode_table_holds n),
  (
    λ n. k.shown (Flags (mac_vlan_flags n)),
    (
      λ n. k.shown (MacAddrMode (mac_vlan_mac_address_mode n))
          ∙ ap (typed 3 Le32) (key-value_of mac_vlan_mac_address_mode_table_holds n),
      (
        λ a. k.shown (MacAddr a),
        (
          λ n. k.shown (MacAddrCount n),
          (
            λ n. k.shown (BcQueueLen n),
            (λ n. k.shown (BcQueueLenUsed n), (λ n. k.shown (BcCutoff n), tt)),
          ),
        ),
      ),
    ),
  ),
)

pub mac_owes : {X : Type 0} (f : Family) (attribute : X → Attribute) (l : MacLabels X) →
    MacLabelsKeep attribute l → (c n : ℕ) →
    RowOwes attribute n (row_of (mac_rows f attribute l c n))
mac_owes f attribute l k c n =
    nested_owes f (λ d. l.other d) attribute (λ xs. l.mac_addr_data xs) (mac_plain_rows l)
    (mac_keeps attribute l k) (λ xs. k.shown (MacAddrData xs)) k.same_data
    (λ d. k.shown (Other d)) c n

-- these rows agree with what the attributes of each type mean
pub mac_says : {X : Type 0} (f : Family) (attribute : X → Attribute) (l : MacLabels X) →
    MacLabelsKeep attribute l → (c : ℕ) (a : Attribute) →
    LookupSays f [] (λ d. l.other d) attribute
    (λ d b. meaning_in f (λ nla. l.other nla) (λ n. row_of (mac_rows f attribute l d n)) b) a
    (lookup_of (mac_rows f attribute l c (masked a.kind)))
    (meaning_in f (λ d. l.other d) (λ n. row_of (mac_rows f attribute l c n)) a)
mac_says f attribute l k c a =
    nested_says f (λ d. l.other d) attribute (λ xs. l.mac_addr_data xs) (mac_plain_rows l)
    (mac_keeps attribute l k) (λ xs. k.shown (MacAddrData xs))
    (λ d n. mac_owes f attribute l k d n) c a

-- the contents of a type are what its shape says
pub mac_contains : {X : Type 0} (f : Family) (attribute : X → Attribute) (l : MacLabels X) →
    MacLabelsKeep attribute l → (c n : ℕ) →
    LookupContains f (lookup_of (mac_rows f attribute l c n)) (mac_contents f attribute l c n)
mac_contains f attribute l k c n =
    nested_contains f (λ d. l.other d) attribute (λ xs. l.mac_addr_data xs) (mac_plain_rows l)
    (mac_keeps attribute l k) c n

pub mac_counts : {X : Type 0} (f : Family) (attribute : X → Attribute) (l : MacLabels X) →
    MacLabelsKeep attribute l → (c : ℕ) (a : Attribute) →
    headers_inside (λ n. row_of (mac_rows f attribute l c n)) a
    ≡ payload_headers (mac_contents f attribute l c (masked a.kind)) a.value
mac_counts f attribute l k c a =
    nested_counts f (λ d. l.other d) attribute (λ xs. l.mac_addr_data xs) (mac_plain_rows l)
    (mac_keeps attribute l k) c a

-- what `LinkFamily` requires of such a family
pub mac_is : {X : Type 0} (f : Family) (attribute : X → Attribute) (l : MacLabels X) →
    MacLabelsKeep attribute l → (c : ℕ) →
    IsFamily (members_with f (λ d. l.other d) attribute (λ n. mac_rows f attribute l c n)
    (headers_inside (λ n. row_of (mac_rows f attribute l c n))) (mac_contents f attribute l c)
    false)
mac_is f attribute l k c =
    rows_are_family f (λ d. l.other d) attribute (λ n. mac_rows f attribute l c n)
    (mac_owes f attribute l k c) (λ d. k.shown (Other d))
    (headers_inside (λ n. row_of (mac_rows f attribute l c n)))
    (λ a. nested_quarter f (λ d. l.other d) attribute (λ n. mac_rows f attribute l c n)
    (mac_owes f attribute l k c) (λ d. k.shown (Other d)) a) (mac_contents f attribute l c) false
    (λ n.
    nested_contained f (λ d. l.other d) attribute (λ xs. l.mac_addr_data xs) (mac_plain_rows l) c n)

-- a row of another type makes no difference
found_after : (front : List (ℕ × Shape)) (r : ℕ × Shape) (rest : List (ℕ × Shape)) (n : ℕ) →
    (n == r.0) ≡ false → found (front ++ (r ∷ rest)) n ≡ found (front ++ rest) n
found_after [] r rest n other = cond-false (n == r.0) _ _ other
found_after (x ∷ front) r rest n other =
    ap (λ more. if n == x.0 then Some x.1 else more) (found_after front r rest n other)

-- these are the rows of the table of all families, except that a list nested in 128 others is
-- rejected
pub mac_lookup : {X : Type 0} (f : Family) (attribute : X → Attribute) (l : MacLabels X) (c n : ℕ) →
    lookup_of (mac_rows f attribute l c n) ≡ nested_lookup c n (lookup_in (found mac_vlan_rows n))
mac_lookup f attribute l c n =
    nested_lookup_is f (λ d. l.other d) attribute (λ xs. l.mac_addr_data xs) (mac_plain_rows l)
    (λ k. lookup_in (found mac_vlan_rows k)) refl
    (λ k never. table_lookup (mac_plain_rows l) k
    ∙ ap lookup_in (sym (found_after ((1, Le32) ∷ (2, Le16) ∷ (3, Le32) ∷ (4, Mac) ∷ [])
    (5, SelfList) ((6, Le32) ∷ (7, Le32) ∷ (8, Le32) ∷ (9, I32) ∷ []) k (ne_eqb k 5 never)))) c n

-- the decoded content of an attribute without a list, and what a slot holds once its value is
-- stored, by the plain rows alone
pub mac_suits : {X : Type 0} (f : Family) (attribute : X → Attribute) (l : MacLabels X) (c : ℕ)
    (read : Decoded) → SuitsDecoded (λ n. mac_rows f attribute l c n) read →
    SuitsDecoded (λ n. table_row (mac_plain_rows l) n) read
mac_suits f attribute l c read suits =
    suits_plain f (λ d. l.other d) attribute (λ xs. l.mac_addr_data xs) (mac_plain_rows l) c read
    suits

pub mac_stores : {X H : Type 0} (f : Family) (attribute : X → Attribute) (l : MacLabels X)
    (with : X → H) (c : ℕ) (read : Decoded) (held : H) →
    SuitsDecoded (λ n. mac_rows f attribute l c n) read →
    Stores with (λ d. l.other d) (λ n. table_row (mac_plain_rows l) n) read held →
    Stores with (λ d. l.other d) (λ n. mac_rows f attribute l c n) read held
mac_stores f attribute l with c read held suits stores =
    stores_plain f (λ d. l.other d) attribute (λ xs. l.mac_addr_data xs) (mac_plain_rows l) with c
    read held suits stores
