-- The rows of `macvtap` links, and their canonical attributes, with lists of any depth.
use Rattle.std.specs.Prelude.{◌≡◌, Bool, false, ℕ, List, [], refl}
use Rattle.std.proofs.Common.{sym, ap, ◌∙◌}
use Rattle.nla_frame.specs.Attribute.{Attribute, masked}
use Rattle.nla_frame.specs.declared.error.Family.TheVariants as family
use Rattle.linkinfo_table.specs.FamilyRows.{
  FamilyRow,
  Stores,
  PlainRow,
  SuitsDecoded,
  lookup_in,
  lookup_of,
  row_of,
  table_row,
}
use Rattle.linkinfo_table.specs.Contents.{Contents, payload_headers}
use Rattle.linkinfo_table.specs.Described.{LookupContains}
use Rattle.linkinfo_table.specs.Lookups.{LookupSays}
use Rattle.linkinfo_table.specs.ByRows.{members_with}
use Rattle.linkinfo_table.specs.Members.{IsFamily}
use Rattle.linkinfo_table.specs.Rows.{headers_inside, meaning_in}
use Rattle.linkinfo_table.specs.declared.decoded.Decoded.{Decoded}
use Rattle.linkinfo_devices.specs.MacRows.{
  mac_contains,
  mac_contents,
  mac_counts,
  mac_is,
  mac_lookup,
  mac_stores,
  mac_plain_rows,
  mac_rows,
  mac_says,
  mac_suits,
}
use Rattle.linkinfo_devices.specs.MacView as view
use Rattle.linkinfo_devices.specs.MacView.{
  IsView,
  MacLabels,
  MacLabelsKeep,
  MacView,
  labels_keep,
  mac_attribute,
  map_view,
  of_view,
  view_holds_list,
}
use Rattle.linkinfo_devices.specs.Nested.{nested_lookup}
use Rattle.linkinfo_shapes.specs.Table.{shape_of}
use Rattle.linkinfo_devices.specs.declared.macvtap.InfoMacVtap.{InfoMacVtap}
use Rattle.linkinfo_devices.specs.declared.macvtap.InfoMacVtap as macvtap
use Rattle.linkinfo_devices.specs.declared.macvtap.InfoMacVtap.TheOpen as layer
use Rattle.linkinfo_devices.specs.declared.macvtap.InfoMacVtap.TheVariants.{
  rolls-Mode,
  rolls-Flags,
  rolls-MacAddrMode,
  rolls-MacAddr,
  rolls-MacAddrData,
  rolls-MacAddrCount,
  rolls-BcQueueLen,
  rolls-BcQueueLenUsed,
  rolls-BcCutoff,
  rolls-Other,
}
use Rattle.linkinfo_devices.specs.declared.macvtap.InfoMacVtap.TheViews.{
  out-InfoMacVtap,
  out-roll-InfoMacVtap,
  roll-InfoMacVtap,
  roll-out-InfoMacVtap,
}
use Rattle.linkinfo_devices.specs.declared.macvtap.InfoMacVtap.TheFolds.{
  fold-InfoMacVtap,
  fold-roll-InfoMacVtap,
  map-InfoMacVtap,
}

abbrev pub mac_vtap_variant : {X : Type 0} → layer.InfoMacVtap-F X → MacView X
mac_vtap_variant (layer.Mode m) = view.Mode m
mac_vtap_variant (layer.Flags flags) = view.Flags flags
mac_vtap_variant (layer.MacAddrMode m) = view.MacAddrMode m
mac_vtap_variant (layer.MacAddr a) = view.MacAddr a
mac_vtap_variant (layer.MacAddrData xs) = view.MacAddrData xs
mac_vtap_variant (layer.MacAddrCount n) = view.MacAddrCount n
mac_vtap_variant (layer.BcQueueLen n) = view.BcQueueLen n
mac_vtap_variant (layer.BcQueueLenUsed n) = view.BcQueueLenUsed n
mac_vtap_variant (layer.BcCutoff z) = view.BcCutoff z
mac_vtap_variant (layer.Other d) = view.Other d

abbrev pub mac_vtap_view : InfoMacVtap → MacView InfoMacVtap
mac_vtap_view x = mac_vtap_variant (out-InfoMacVtap x)

-- what `f` gives for a value, from the innermost lists outwards
abbrev pub mac_vtap_fold : {A : Type 0} → (MacView A → A) → InfoMacVtap → A
mac_vtap_fold {A = A} f x = fold-InfoMacVtap A (λ y. f (mac_vtap_variant y)) x

-- the canonical attribute of a value
abbrev pub mac_vtap_attribute : InfoMacVtap → Attribute
mac_vtap_attribute x = mac_vtap_fold mac_attribute x

-- the family itself writes a value that contains a list
abbrev pub mac_vtap_holds_list : InfoMacVtap → Bool
mac_vtap_holds_list x = view_holds_list (mac_vtap_view x)

abbrev pub mac_vtap_labels : MacLabels InfoMacVtap
mac_vtap_labels = record {
  mode = λ mode. macvtap.Mode mode;
  flags = λ flags. macvtap.Flags flags;
  mac_addr_mode = λ mode. macvtap.MacAddrMode mode;
  mac_addr = λ address. macvtap.MacAddr address;
  mac_addr_data = λ xs. macvtap.MacAddrData xs;
  mac_addr_count = λ n. macvtap.MacAddrCount n;
  bc_queue_len = λ n. macvtap.BcQueueLen n;
  bc_queue_len_used = λ n. macvtap.BcQueueLenUsed n;
  bc_cutoff = λ n. macvtap.BcCutoff n;
  other = λ nla. macvtap.Other nla;
}

pub mac_vtap_made : (y : layer.InfoMacVtap-F InfoMacVtap) →
    of_view mac_vtap_labels (mac_vtap_variant y) ≡ roll-InfoMacVtap y
mac_vtap_made (layer.Mode m) = sym (rolls-Mode m)
mac_vtap_made (layer.Flags flags) = sym (rolls-Flags flags)
mac_vtap_made (layer.MacAddrMode m) = sym (rolls-MacAddrMode m)
mac_vtap_made (layer.MacAddr a) = sym (rolls-MacAddr a)
mac_vtap_made (layer.MacAddrData xs) = sym (rolls-MacAddrData xs)
mac_vtap_made (layer.MacAddrCount n) = sym (rolls-MacAddrCount n)
mac_vtap_made (layer.BcQueueLen n) = sym (rolls-BcQueueLen n)
mac_vtap_made (layer.BcQueueLenUsed n) = sym (rolls-BcQueueLenUsed n)
mac_vtap_made (layer.BcCutoff z) = sym (rolls-BcCutoff z)
mac_vtap_made (layer.Other d) = sym (rolls-Other d)

unrolled : (y : layer.InfoMacVtap-F InfoMacVtap) (x : InfoMacVtap) → roll-InfoMacVtap y ≡ x →
    mac_vtap_view x ≡ mac_vtap_variant y
unrolled y x e = ap (λ (z : layer.InfoMacVtap-F InfoMacVtap). mac_vtap_variant z)
    (ap (λ (z : InfoMacVtap). out-InfoMacVtap z) (sym e) ∙ out-roll-InfoMacVtap y)

viewed : (v : MacView InfoMacVtap) → mac_vtap_view (of_view mac_vtap_labels v) ≡ v
viewed (view.Mode m) = unrolled _ _ (rolls-Mode m)
viewed (view.Flags flags) = unrolled _ _ (rolls-Flags flags)
viewed (view.MacAddrMode m) = unrolled _ _ (rolls-MacAddrMode m)
viewed (view.MacAddr a) = unrolled _ _ (rolls-MacAddr a)
viewed (view.MacAddrData xs) = unrolled _ _ (rolls-MacAddrData xs)
viewed (view.MacAddrCount n) = unrolled _ _ (rolls-MacAddrCount n)
viewed (view.BcQueueLen n) = unrolled _ _ (rolls-BcQueueLen n)
viewed (view.BcQueueLenUsed n) = unrolled _ _ (rolls-BcQueueLenUsed n)
viewed (view.BcCutoff z) = unrolled _ _ (rolls-BcCutoff z)
viewed (view.Other d) = unrolled _ _ (rolls-Other d)

pub mac_vtap_is_view : IsView mac_vtap_labels mac_vtap_view
mac_vtap_is_view = record {
  made = λ x. mac_vtap_made (out-InfoMacVtap x) ∙ roll-out-InfoMacVtap x;
  viewed = viewed;
}

pub mac_vtap_mapped : {A B : Type 0} (g : A → B) (y : layer.InfoMacVtap-F A) →
    mac_vtap_variant (map-InfoMacVtap A B g y) ≡ map_view g (mac_vtap_variant y)
mac_vtap_mapped g (layer.Mode m) = refl
mac_vtap_mapped g _ = refl

pub mac_vtap_folded : {A : Type 0} (f : MacView A → A) (x : InfoMacVtap) →
    mac_vtap_fold f x ≡ f (map_view (mac_vtap_fold f) (mac_vtap_view x))
mac_vtap_folded {A = A} f x =
    ap (λ (z : InfoMacVtap). mac_vtap_fold f z) (sym (roll-out-InfoMacVtap x))
    ∙ fold-roll-InfoMacVtap A (λ y. f (mac_vtap_variant y)) (out-InfoMacVtap x)
    ∙ ap f (mac_vtap_mapped (mac_vtap_fold f) (out-InfoMacVtap x))

pub mac_vtap_keep : MacLabelsKeep mac_vtap_attribute mac_vtap_labels
mac_vtap_keep =
    labels_keep mac_vtap_attribute mac_vtap_labels mac_vtap_view mac_vtap_is_view
    (mac_vtap_folded mac_attribute)

-- the rows with a shape of the table
abbrev pub mac_vtap_plain_rows : List (PlainRow InfoMacVtap)
mac_vtap_plain_rows = mac_plain_rows mac_vtap_labels

abbrev pub mac_vtap_rows : ℕ → ℕ → FamilyRow InfoMacVtap
mac_vtap_rows c n = mac_rows family.MacVtap mac_vtap_attribute mac_vtap_labels c n

-- what attributes of each type contain
abbrev pub mac_vtap_contents : ℕ → ℕ → Contents
mac_vtap_contents c n = mac_contents family.MacVtap mac_vtap_attribute mac_vtap_labels c n

-- the rows agree with what the attributes of each type mean
pub mac_vtap_says : (c : ℕ) (a : Attribute) →
    LookupSays family.MacVtap [] (λ d. macvtap.Other d) mac_vtap_attribute
    (λ d b.
    meaning_in family.MacVtap (λ nla. macvtap.Other nla) (λ n. row_of (mac_vtap_rows d n)) b) a
    (lookup_of (mac_vtap_rows c (masked a.kind)))
    (meaning_in family.MacVtap (λ d. macvtap.Other d) (λ n. row_of (mac_vtap_rows c n)) a)
mac_vtap_says c a = mac_says family.MacVtap mac_vtap_attribute mac_vtap_labels mac_vtap_keep c a

-- the contents of a type are what its shape says
pub mac_vtap_contains : (c n : ℕ) →
    LookupContains family.MacVtap (lookup_of (mac_vtap_rows c n)) (mac_vtap_contents c n)
mac_vtap_contains c n =
    mac_contains family.MacVtap mac_vtap_attribute mac_vtap_labels mac_vtap_keep c n

pub mac_vtap_counts : (c : ℕ) (a : Attribute) →
    headers_inside (λ n. row_of (mac_vtap_rows c n)) a
    ≡ payload_headers (mac_vtap_contents c (masked a.kind)) a.value
mac_vtap_counts c a =
    mac_counts family.MacVtap mac_vtap_attribute mac_vtap_labels mac_vtap_keep c a

-- the attributes inside so many lists are those of a lawful family
pub mac_vtap_is : (c : ℕ) →
    IsFamily (members_with family.MacVtap (λ d. macvtap.Other d) mac_vtap_attribute
    (λ n. mac_vtap_rows c n) (headers_inside (λ n. row_of (mac_vtap_rows c n)))
    (mac_vtap_contents c) false)
mac_vtap_is c = mac_is family.MacVtap mac_vtap_attribute mac_vtap_labels mac_vtap_keep c

-- these are the rows of the table of all families, except that a list nested in 128 others is
-- rejected
pub mac_vtap_lookup : (c n : ℕ) →
    lookup_of (mac_vtap_rows c n) ≡ nested_lookup c n (lookup_in (shape_of family.MacVtap n))
mac_vtap_lookup c n = mac_lookup family.MacVtap mac_vtap_attribute mac_vtap_labels c n

-- the decoded content of an attribute without a list, and what a slot holds once its value is
-- stored, by the plain rows alone
pub mac_vtap_suits : (c : ℕ) (read : Decoded) → SuitsDecoded (λ n. mac_vtap_rows c n) read →
    SuitsDecoded (λ n. table_row mac_vtap_plain_rows n) read
mac_vtap_suits c read suits =
    mac_suits family.MacVtap mac_vtap_attribute mac_vtap_labels c read suits

pub mac_vtap_stores : {H : Type 0} (with : InfoMacVtap → H) (c : ℕ) (read : Decoded) (held : H) →
    SuitsDecoded (λ n. mac_vtap_rows c n) read →
    Stores with (λ d. macvtap.Other d) (λ n. table_row mac_vtap_plain_rows n) read held →
    Stores with (λ d. macvtap.Other d) (λ n. mac_vtap_rows c n) read held
mac_vtap_stores with c read held suits stores =
    mac_stores family.MacVtap mac_vtap_attribute mac_vtap_labels with c read held suits stores
