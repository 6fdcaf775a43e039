-- The rows of `macvlan` links, and their canonical attributes, with lists of any depth.
use Rattle.std.specs.Prelude.{◌≡◌, Bool, false, ℕ, List, [], refl}
use Rattle.std.proofs.Common.{sym, ap, ◌∙◌}
use Rattle.nla_frame.specs.Attribute.{Attribute, masked}
use Rattle.nla_frame.specs.declared.error.Family.TheVariants as family
use Rattle.linkinfo_table.specs.FamilyRows.{
  FamilyRow,
  Stores,
  PlainRow,
  SuitsDecoded,
  lookup_in,
  lookup_of,
  row_of,
  table_row,
}
use Rattle.linkinfo_table.specs.Contents.{Contents, payload_headers}
use Rattle.linkinfo_table.specs.Described.{LookupContains}
use Rattle.linkinfo_table.specs.Lookups.{LookupSays}
use Rattle.linkinfo_table.specs.ByRows.{members_with}
use Rattle.linkinfo_table.specs.Members.{IsFamily}
use Rattle.linkinfo_table.specs.Rows.{headers_inside, meaning_in}
use Rattle.linkinfo_table.specs.declared.decoded.Decoded.{Decoded}
use Rattle.linkinfo_devices.specs.MacRows.{
  mac_contains,
  mac_contents,
  mac_counts,
  mac_is,
  mac_lookup,
  mac_stores,
  mac_plain_rows,
  mac_rows,
  mac_says,
  mac_suits,
}
use Rattle.linkinfo_devices.specs.MacView as view
use Rattle.linkinfo_devices.specs.MacView.{
  IsView,
  MacLabels,
  MacLabelsKeep,
  MacView,
  labels_keep,
  mac_attribute,
  map_view,
  of_view,
  view_holds_list,
}
use Rattle.linkinfo_devices.specs.Nested.{nested_lookup}
use Rattle.linkinfo_shapes.specs.Table.{shape_of}
use Rattle.linkinfo_devices.specs.declared.macvlan.InfoMacVlan.{InfoMacVlan}
use Rattle.linkinfo_devices.specs.declared.macvlan.InfoMacVlan as macvlan
use Rattle.linkinfo_devices.specs.declared.macvlan.InfoMacVlan.TheOpen as layer
use Rattle.linkinfo_devices.specs.declared.macvlan.InfoMacVlan.TheVariants.{
  rolls-Mode,
  rolls-Flags,
  rolls-MacAddrMode,
  rolls-MacAddr,
  rolls-MacAddrData,
  rolls-MacAddrCount,
  rolls-BcQueueLen,
  rolls-BcQueueLenUsed,
  rolls-BcCutoff,
  rolls-Other,
}
use Rattle.linkinfo_devices.specs.declared.macvlan.InfoMacVlan.TheViews.{
  out-InfoMacVlan,
  out-roll-InfoMacVlan,
  roll-InfoMacVlan,
  roll-out-InfoMacVlan,
}
use Rattle.linkinfo_devices.specs.declared.macvlan.InfoMacVlan.TheFolds.{
  fold-InfoMacVlan,
  fold-roll-InfoMacVlan,
  map-InfoMacVlan,
}

abbrev pub mac_vlan_variant : {X : Type 0} → layer.InfoMacVlan-F X → MacView X
mac_vlan_variant (layer.Mode m) = view.Mode m
mac_vlan_variant (layer.Flags flags) = view.Flags flags
mac_vlan_variant (layer.MacAddrMode m) = view.MacAddrMode m
mac_vlan_variant (layer.MacAddr a) = view.MacAddr a
mac_vlan_variant (layer.MacAddrData xs) = view.MacAddrData xs
mac_vlan_variant (layer.MacAddrCount n) = view.MacAddrCount n
mac_vlan_variant (layer.BcQueueLen n) = view.BcQueueLen n
mac_vlan_variant (layer.BcQueueLenUsed n) = view.BcQueueLenUsed n
mac_vlan_variant (layer.BcCutoff z) = view.BcCutoff z
mac_vlan_variant (layer.Other d) = view.Other d

abbrev pub mac_vlan_view : InfoMacVlan → MacView InfoMacVlan
mac_vlan_view x = mac_vlan_variant (out-InfoMacVlan x)

-- what `f` gives for a value, from the innermost lists outwards
abbrev pub mac_vlan_fold : {A : Type 0} → (MacView A → A) → InfoMacVlan → A
mac_vlan_fold {A = A} f x = fold-InfoMacVlan A (λ y. f (mac_vlan_variant y)) x

-- the canonical attribute of a value
abbrev pub mac_vlan_attribute : InfoMacVlan → Attribute
mac_vlan_attribute x = mac_vlan_fold mac_attribute x

-- the family itself writes a value that contains a list
abbrev pub mac_vlan_holds_list : InfoMacVlan → Bool
mac_vlan_holds_list x = view_holds_list (mac_vlan_view x)

abbrev pub mac_vlan_labels : MacLabels InfoMacVlan
mac_vlan_labels = record {
  mode = λ mode. macvlan.Mode mode;
  flags = λ flags. macvlan.Flags flags;
  mac_addr_mode = λ mode. macvlan.MacAddrMode mode;
  mac_addr = λ address. macvlan.MacAddr address;
  mac_addr_data = λ xs. macvlan.MacAddrData xs;
  mac_addr_count = λ n. macvlan.MacAddrCount n;
  bc_queue_len = λ n. macvlan.BcQueueLen n;
  bc_queue_len_used = λ n. macvlan.BcQueueLenUsed n;
  bc_cutoff = λ n. macvlan.BcCutoff n;
  other = λ nla. macvlan.Other nla;
}

pub mac_vlan_made : (y : layer.InfoMacVlan-F InfoMacVlan) →
    of_view mac_vlan_labels (mac_vlan_variant y) ≡ roll-InfoMacVlan y
mac_vlan_made (layer.Mode m) = sym (rolls-Mode m)
mac_vlan_made (layer.Flags flags) = sym (rolls-Flags flags)
mac_vlan_made (layer.MacAddrMode m) = sym (rolls-MacAddrMode m)
mac_vlan_made (layer.MacAddr a) = sym (rolls-MacAddr a)
mac_vlan_made (layer.MacAddrData xs) = sym (rolls-MacAddrData xs)
mac_vlan_made (layer.MacAddrCount n) = sym (rolls-MacAddrCount n)
mac_vlan_made (layer.BcQueueLen n) = sym (rolls-BcQueueLen n)
mac_vlan_made (layer.BcQueueLenUsed n) = sym (rolls-BcQueueLenUsed n)
mac_vlan_made (layer.BcCutoff z) = sym (rolls-BcCutoff z)
mac_vlan_made (layer.Other d) = sym (rolls-Other d)

unrolled : (y : layer.InfoMacVlan-F InfoMacVlan) (x : InfoMacVlan) → roll-InfoMacVlan y ≡ x →
    mac_vlan_view x ≡ mac_vlan_variant y
unrolled y x e = ap (λ (z : layer.InfoMacVlan-F InfoMacVlan). mac_vlan_variant z)
    (ap (λ (z : InfoMacVlan). out-InfoMacVlan z) (sym e) ∙ out-roll-InfoMacVlan y)

viewed : (v : MacView InfoMacVlan) → mac_vlan_view (of_view mac_vlan_labels v) ≡ v
viewed (view.Mode m) = unrolled _ _ (rolls-Mode m)
viewed (view.Flags flags) = unrolled _ _ (rolls-Flags flags)
viewed (view.MacAddrMode m) = unrolled _ _ (rolls-MacAddrMode m)
viewed (view.MacAddr a) = unrolled _ _ (rolls-MacAddr a)
viewed (view.MacAddrData xs) = unrolled _ _ (rolls-MacAddrData xs)
viewed (view.MacAddrCount n) = unrolled _ _ (rolls-MacAddrCount n)
viewed (view.BcQueueLen n) = unrolled _ _ (rolls-BcQueueLen n)
viewed (view.BcQueueLenUsed n) = unrolled _ _ (rolls-BcQueueLenUsed n)
viewed (view.BcCutoff z) = unrolled _ _ (rolls-BcCutoff z)
viewed (view.Other d) = unrolled _ _ (rolls-Other d)

pub mac_vlan_is_view : IsView mac_vlan_labels mac_vlan_view
mac_vlan_is_view = record {
  made = λ x. mac_vlan_made (out-InfoMacVlan x) ∙ roll-out-InfoMacVlan x;
  viewed = viewed;
}

pub mac_vlan_mapped : {A B : Type 0} (g : A → B) (y : layer.InfoMacVlan-F A) →
    mac_vlan_variant (map-InfoMacVlan A B g y) ≡ map_view g (mac_vlan_variant y)
mac_vlan_mapped g (layer.Mode m) = refl
mac_vlan_mapped g _ = refl

pub mac_vlan_folded : {A : Type 0} (f : MacView A → A) (x : InfoMacVlan) →
    mac_vlan_fold f x ≡ f (map_view (mac_vlan_fold f) (mac_vlan_view x))
mac_vlan_folded {A = A} f x =
    ap (λ (z : InfoMacVlan). mac_vlan_fold f z) (sym (roll-out-InfoMacVlan x))
    ∙ fold-roll-InfoMacVlan A (λ y. f (mac_vlan_variant y)) (out-InfoMacVlan x)
    ∙ ap f (mac_vlan_mapped (mac_vlan_fold f) (out-InfoMacVlan x))

pub mac_vlan_keep : MacLabelsKeep mac_vlan_attribute mac_vlan_labels
mac_vlan_keep =
    labels_keep mac_vlan_attribute mac_vlan_labels mac_vlan_view mac_vlan_is_view
    (mac_vlan_folded mac_attribute)

-- the rows with a shape of the table
abbrev pub mac_vlan_plain_rows : List (PlainRow InfoMacVlan)
mac_vlan_plain_rows = mac_plain_rows mac_vlan_labels

abbrev pub mac_vlan_rows : ℕ → ℕ → FamilyRow InfoMacVlan
mac_vlan_rows c n = mac_rows family.MacVlan mac_vlan_attribute mac_vlan_labels c n

-- what attributes of each type contain
abbrev pub mac_vlan_contents : ℕ → ℕ → Contents
mac_vlan_contents c n = mac_contents family.MacVlan mac_vlan_attribute mac_vlan_labels c n

-- the rows agree with what the attributes of each type mean
pub mac_vlan_says : (c : ℕ) (a : Attribute) →
    LookupSays family.MacVlan [] (λ d. macvlan.Other d) mac_vlan_attribute
    (λ d b.
    meaning_in family.MacVlan (λ nla. macvlan.Other nla) (λ n. row_of (mac_vlan_rows d n)) b) a
    (lookup_of (mac_vlan_rows c (masked a.kind)))
    (meaning_in family.MacVlan (λ d. macvlan.Other d) (λ n. row_of (mac_vlan_rows c n)) a)
mac_vlan_says c a = mac_says family.MacVlan mac_vlan_attribute mac_vlan_labels mac_vlan_keep c a

-- the contents of a type are what its shape says
pub mac_vlan_contains : (c n : ℕ) →
    LookupContains family.MacVlan (lookup_of (mac_vlan_rows c n)) (mac_vlan_contents c n)
mac_vlan_contains c n =
    mac_contains family.MacVlan mac_vlan_attribute mac_vlan_labels mac_vlan_keep c n

pub mac_vlan_counts : (c : ℕ) (a : Attribute) →
    headers_inside (λ n. row_of (mac_vlan_rows c n)) a
    ≡ payload_headers (mac_vlan_contents c (masked a.kind)) a.value
mac_vlan_counts c a =
    mac_counts family.MacVlan mac_vlan_attribute mac_vlan_labels mac_vlan_keep c a

-- the attributes inside so many lists are those of a lawful family
pub mac_vlan_is : (c : ℕ) →
    IsFamily (members_with family.MacVlan (λ d. macvlan.Other d) mac_vlan_attribute
    (λ n. mac_vlan_rows c n) (headers_inside (λ n. row_of (mac_vlan_rows c n)))
    (mac_vlan_contents c) false)
mac_vlan_is c = mac_is family.MacVlan mac_vlan_attribute mac_vlan_labels mac_vlan_keep c

-- these are the rows of the table of all families, except that a list nested in 128 others is
-- rejected
pub mac_vlan_lookup : (c n : ℕ) →
    lookup_of (mac_vlan_rows c n) ≡ nested_lookup c n (lookup_in (shape_of family.MacVlan n))
mac_vlan_lookup c n = mac_lookup family.MacVlan mac_vlan_attribute mac_vlan_labels c n

-- the decoded content of an attribute without a list, and what a slot holds once its value is
-- stored, by the plain rows alone
pub mac_vlan_suits : (c : ℕ) (read : Decoded) → SuitsDecoded (λ n. mac_vlan_rows c n) read →
    SuitsDecoded (λ n. table_row mac_vlan_plain_rows n) read
mac_vlan_suits c read suits =
    mac_suits family.MacVlan mac_vlan_attribute mac_vlan_labels c read suits

pub mac_vlan_stores : {H : Type 0} (with : InfoMacVlan → H) (c : ℕ) (read : Decoded) (held : H) →
    SuitsDecoded (λ n. mac_vlan_rows c n) read →
    Stores with (λ d. macvlan.Other d) (λ n. table_row mac_vlan_plain_rows n) read held →
    Stores with (λ d. macvlan.Other d) (λ n. mac_vlan_rows c n) read held
mac_vlan_stores with c read held suits stores =
    mac_stores family.MacVlan mac_vlan_attribute mac_vlan_labels with c read held suits stores
