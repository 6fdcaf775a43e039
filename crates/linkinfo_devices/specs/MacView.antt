-- A value of `macvlan` or `macvtap` links by its variant, which is what the two families share: the
-- value that each makes of a variant, and its canonical attribute.
use Rattle.std.specs.Prelude.{◌≡◌, Bool, true, false, ℕ, ℤ, List, map}
use Rattle.std.proofs.Common.{sym, ap, ◌∙◌}
use Rattle.nla_frame.specs.Attribute.{Attribute, list_string}
use Rattle.nla_frame.specs.Kept.{attribute_of}
use Rattle.nla_frame.specs.declared.default_nla.DefaultNla.{DefaultNla}
use Rattle.linkinfo_numbers.specs.Macvlan.{mac_vlan_mode_number, mac_vlan_mac_address_mode_number}
use Rattle.linkinfo_numbers.specs.declared.macvlan.MacVlanFlags.{MacVlanFlags}
use Rattle.linkinfo_numbers.specs.declared.macvlan.MacVlanMacAddressMode.{MacVlanMacAddressMode}
use Rattle.linkinfo_numbers.specs.declared.macvlan.MacVlanMode.{MacVlanMode}
use Rattle.linkinfo_shapes.specs.declared.shape.Shape.TheVariants.{Le32, Le16, Mac, I32}
use Rattle.linkinfo_table.specs.FamilyRows.{typed}

-- a variant with its contents, where the items of a list are of type `X`
pub data MacView (X : Type 0) : Type 0 where
  Mode : MacVlanMode → MacView X
  Flags : MacVlanFlags → MacView X
  MacAddrMode : MacVlanMacAddressMode → MacView X
  MacAddr : List ℕ → MacView X
  MacAddrData : List X → MacView X
  MacAddrCount : ℕ → MacView X
  BcQueueLen : ℕ → MacView X
  BcQueueLenUsed : ℕ → MacView X
  BcCutoff : ℤ → MacView X
  Other : DefaultNla → MacView X

-- the canonical attribute of a variant, where the items of a list are their canonical attributes
abbrev pub mac_attribute : MacView Attribute → Attribute
mac_attribute (Mode mode) = typed 1 Le32 (mac_vlan_mode_number mode)
mac_attribute (Flags flags) = typed 2 Le16 flags.0
mac_attribute (MacAddrMode mode) = typed 3 Le32 (mac_vlan_mac_address_mode_number mode)
mac_attribute (MacAddr address) = typed 4 Mac address
mac_attribute (MacAddrData attributes) = record { kind = 5; value = list_string attributes }
mac_attribute (MacAddrCount n) = typed 6 Le32 n
mac_attribute (BcQueueLen n) = typed 7 Le32 n
mac_attribute (BcQueueLenUsed n) = typed 8 Le32 n
mac_attribute (BcCutoff n) = typed 9 I32 n
mac_attribute (Other nla) = attribute_of nla

-- the family itself writes a value that contains a list
abbrev pub view_holds_list : {X : Type 0} → MacView X → Bool
view_holds_list (MacAddrData xs) = true
view_holds_list _ = false

abbrev pub map_view : {X Y : Type 0} → (X → Y) → MacView X → MacView Y
map_view f (Mode mode) = Mode mode
map_view f (Flags flags) = Flags flags
map_view f (MacAddrMode mode) = MacAddrMode mode
map_view f (MacAddr address) = MacAddr address
map_view f (MacAddrData xs) = MacAddrData (map f xs)
map_view f (MacAddrCount n) = MacAddrCount n
map_view f (BcQueueLen n) = BcQueueLen n
map_view f (BcQueueLenUsed n) = BcQueueLenUsed n
map_view f (BcCutoff z) = BcCutoff z
map_view f (Other d) = Other d

-- the value that a family makes of the data of each variant
pub record MacLabels (X : Type 0) : Type 0 where
  pub mode : MacVlanMode → X
  pub flags : MacVlanFlags → X
  pub mac_addr_mode : MacVlanMacAddressMode → X
  pub mac_addr : List ℕ → X
  pub mac_addr_data : List X → X
  pub mac_addr_count : ℕ → X
  pub bc_queue_len : ℕ → X
  pub bc_queue_len_used : ℕ → X
  pub bc_cutoff : ℤ → X
  pub other : DefaultNla → X

abbrev pub of_view : {X : Type 0} → MacLabels X → MacView X → X
of_view l (Mode mode) = l.mode mode
of_view l (Flags flags) = l.flags flags
of_view l (MacAddrMode mode) = l.mac_addr_mode mode
of_view l (MacAddr address) = l.mac_addr address
of_view l (MacAddrData xs) = l.mac_addr_data xs
of_view l (MacAddrCount n) = l.mac_addr_count n
of_view l (BcQueueLen n) = l.bc_queue_len n
of_view l (BcQueueLenUsed n) = l.bc_queue_len_used n
of_view l (BcCutoff z) = l.bc_cutoff z
of_view l (Other d) = l.other d

-- each value has one variant
pub record IsView {X : Type 0} (l : MacLabels X) (view : X → MacView X) : Type 0 where
  pub made : (x : X) → of_view l (view x) ≡ x
  pub viewed : (v : MacView X) → view (of_view l v) ≡ v

-- the canonical attribute of each value is that of its variant
pub record MacLabelsKeep {X : Type 0} (attribute : X → Attribute) (l : MacLabels X) : Type 0 where
  pub shown : (v : MacView X) → attribute (of_view l v) ≡ mac_attribute (map_view attribute v)
  pub same_data : (xs ys : List X) → l.mac_addr_data xs ≡ l.mac_addr_data ys → xs ≡ ys

same_list : {X : Type 0} (xs ys : List X) → MacAddrData xs ≡ MacAddrData ys → xs ≡ ys
same_list xs ys e = cc

pub labels_keep : {X : Type 0} (attribute : X → Attribute) (l : MacLabels X)
    (view : X → MacView X) → IsView l view →
    ((x : X) → attribute x ≡ mac_attribute (map_view attribute (view x))) →
    MacLabelsKeep attribute l
labels_keep attribute l view is folded = record {
  shown = λ v.
      folded (of_view l v) ∙ ap (λ w. mac_attribute (map_view attribute w)) (is.viewed v);
  same_data = λ xs ys e.
      same_list xs ys (sym (is.viewed (MacAddrData xs)) ∙ ap view e ∙ is.viewed (MacAddrData ys));
}
