-- Which attributes of `macvlan` and `macvtap` links are well formed, by the variant of each, with
-- lists of any depth.
use Rattle.std.specs.Prelude.{◌≡◌, ◌≢◌, ◌↔◌, ℕ, zero, suc, ◌<◌, ◌≤◌, ◌==◌, ◌^◌, FitsSigned, Bool}
use Rattle.std.specs.Prelude.{true, false, List, [], ◌∷◌, length, map, max, refl}
use Rattle.std.specs.Int.{w32}
use Rattle.std.specs.List.{AllByRecursion}
use Rattle.std.proofs.Common.{sym, ap, subst, arith, ◌∙◌}
use Rattle.std.proofs.Math.Nat.{le-max_left, le-max_right, max-le}
use Rattle.nla_frame.specs.Attribute.{Attribute, IsBytes, masked}
use Rattle.nla_frame.specs.declared.default_nla.DefaultNla.{DefaultNla}
use Rattle.nla_frame.specs.declared.error.Family.{Family}
use Rattle.linkinfo_numbers.specs.Table.{IsNumber, number_label}
use Rattle.linkinfo_numbers.specs.Macvlan.{mac_vlan_flags, mac_vlan_mode, mac_vlan_mode_table}
use Rattle.linkinfo_numbers.specs.Macvlan.{mac_vlan_mode_table_holds, mac_vlan_mac_address_mode}
use Rattle.linkinfo_numbers.specs.Macvlan.{mac_vlan_mac_address_mode_table}
use Rattle.linkinfo_numbers.specs.Macvlan.{mac_vlan_mac_address_mode_table_holds}
use Rattle.linkinfo_table.specs.Conditions.{AreTyped, IsUnknown, IsUnknownBeside, each_stated}
use Rattle.linkinfo_table.specs.Conditions.{plain_label, unknown_beside, unknown_label}
use Rattle.linkinfo_table.specs.FamilyRows.{FamilyRow, row_if, row_of, table_row}
use Rattle.linkinfo_table.specs.Levels.{level_rows}
use Rattle.linkinfo_table.specs.Lists.{AllWell}
use Rattle.linkinfo_table.specs.Rows.{WellAt, WellFormed}
use Rattle.linkinfo_devices.specs.MacRows.{mac_plain_rows}
use Rattle.linkinfo_devices.specs.MacView.{
  BcCutoff,
  BcQueueLen,
  BcQueueLenUsed,
  Flags,
  IsView,
  MacAddr,
  MacAddrCount,
  MacAddrData,
  MacAddrMode,
  MacLabels,
  MacLabelsKeep,
  MacView,
  Mode,
  Other,
  map_view,
  of_view,
}

-- the condition on a value, given the condition on a list in it
abbrev pub view_conditions : {X : Type 0} → MacLabels X → (List X → Type 0) → MacView X → Type 0
view_conditions l inside (Mode mode) = IsNumber mac_vlan_mode_table (2 ^ 32) mode
view_conditions l inside (Flags flags) = flags.0 < 2 ^ 16
view_conditions l inside (MacAddrMode mode) = IsNumber mac_vlan_mac_address_mode_table (2 ^ 32) mode
view_conditions l inside (MacAddr address) = (length address ≡ 6) × IsBytes address
view_conditions l inside (MacAddrData xs) = inside xs
view_conditions l inside (MacAddrCount n) = n < 2 ^ 32
view_conditions l inside (BcQueueLen n) = n < 2 ^ 32
view_conditions l inside (BcQueueLenUsed n) = n < 2 ^ 32
view_conditions l inside (BcCutoff z) = FitsSigned w32 z
view_conditions l inside (Other d) = IsUnknownBeside 5 (mac_plain_rows l) d

-- the condition if lists may have at most `levels` more levels of nesting, with one level less for
-- each value of a list
abbrev pub mac_conditions : {X : Type 0} → MacLabels X → (X → MacView X) → ℕ → X → Type 0
mac_conditions l view zero x = view_conditions l (λ _. ⊥) (view x)
mac_conditions l view (suc levels) x =
    view_conditions l (λ xs. AllByRecursion (mac_conditions l view levels) xs) (view x)

-- the conditions on a value itself and on those in its lists, at any depth
abbrev pub mac_values : {X : Type 0} → MacLabels X → (X → MacView X) → X → Type 0
mac_values l view x = (n : ℕ) × mac_conditions l view n x

-- the number of levels of nested lists: none in a value without a list, and in a list one more than
-- in the deepest of its values
abbrev pub deepest : List ℕ → ℕ
deepest [] = 0
deepest (n ∷ ns) = max n (deepest ns)

abbrev pub view_depth : MacView ℕ → ℕ
view_depth (MacAddrData depths) = suc (deepest depths)
view_depth _ = 0

abbrev view_is_other : {X : Type 0} → MacView X → Bool
view_is_other (Other d) = true
view_is_other _ = false

module _ {X : Type 0} (f : Family) (attribute : X → Attribute) (l : MacLabels X)
    (keep : MacLabelsKeep attribute l) (view : X → MacView X) (is : IsView l view) where
  abbrev rows : ℕ → ℕ → FamilyRow X
  rows levels n = level_rows f (λ d. l.other d) attribute 5 (λ xs. l.mac_addr_data xs)
      (λ k. table_row (mac_plain_rows l) k) levels n

  abbrev WellIn : ℕ → X → Type 0
  WellIn levels x = WellFormed (λ d. l.other d) attribute (λ n. row_of (rows levels n)) x

  -- any type but that of lists has a row of the table, or none
  beside : (b : Bool) (own rest : FamilyRow X) → b ≡ false → row_if b own rest ≡ rest
  beside b own rest e = ap (λ (c : Bool). row_if c own rest) e

  plain_row : (levels n : ℕ) → (n == 5) ≡ false → rows levels n ≡ table_row (mac_plain_rows l) n
  plain_row zero n other = beside (n == 5) _ _ other
  plain_row (suc levels) n other = beside (n == 5) _ _ other

  -- by the canonical attribute of the value
  shown : (levels : ℕ) (x : X) (a : Attribute) (C : Type 0) → attribute x ≡ a →
      (WellAt (λ d. l.other d) (row_of (rows levels (masked a.kind))) x ↔ C) → WellIn levels x ↔ C
  unfolding WellFormed
  shown levels x a C e h = subst
      (λ (b : Attribute). WellAt (λ d. l.other d) (row_of (rows levels (masked b.kind))) x ↔ C)
      (sym e) h

  plainly : (levels : ℕ) (x : X) (a : Attribute) (C : Type 0) → attribute x ≡ a →
      (masked a.kind == 5) ≡ false →
      (WellAt (λ d. l.other d) (row_of (table_row (mac_plain_rows l) (masked a.kind))) x ↔ C) →
      WellIn levels x ↔ C
  plainly levels x a C e other h =
      shown levels x a C e
      (subst (λ (r : FamilyRow X). WellAt (λ d. l.other d) (row_of r) x ↔ C)
      (sym (plain_row levels (masked a.kind) other)) h)

  abbrev is_other : X → Bool
  is_other x = view_is_other (view x)

  all_typed : AreTyped is_other (mac_plain_rows l)
  all_typed = (
    λ n. ap view_is_other (is.viewed (Mode (mac_vlan_mode n))),
    (
      λ n. ap view_is_other (is.viewed (Flags (mac_vlan_flags n))),
      (
        λ n. ap view_is_other (is.viewed (MacAddrMode (mac_vlan_mac_address_mode n))),
        (
          λ a. ap view_is_other (is.viewed (MacAddr a)),
          (
            λ n. ap view_is_other (is.viewed (MacAddrCount n)),
            (
              λ n. ap view_is_other (is.viewed (BcQueueLen n)),
              (
                λ n. ap view_is_other (is.viewed (BcQueueLenUsed n)),
                (λ z. ap view_is_other (is.viewed (BcCutoff z)), tt),
              ),
            ),
          ),
        ),
      ),
    ),
  )

  -- a list is not an opaque attribute
  no_list : (xs : List X) (d : DefaultNla) → l.mac_addr_data xs ≢ l.other d
  no_list xs d e =
      let views : MacAddrData xs ≡ Other d =
      sym (is.viewed (MacAddrData xs)) ∙ ap view e ∙ is.viewed (Other d) in
      cc

  elsewhere : (d : DefaultNla) → WellAt (λ z. l.other z)
      (row_of (table_row (mac_plain_rows l) (masked d.kind))) (l.other d) ↔
      IsUnknown (mac_plain_rows l) d
  elsewhere d = unknown_label (λ z. l.other z) attribute (mac_plain_rows l) is_other
      (λ z. keep.shown (Other z))
      (λ z. ap view_is_other (is.viewed (Other z))) all_typed d

  unknown : (levels : ℕ) (d : DefaultNla) →
      WellAt (λ z. l.other z) (row_of (rows levels (masked d.kind))) (l.other d) ↔
      IsUnknownBeside 5 (mac_plain_rows l) d
  unknown zero d = unknown_beside (λ z. l.other z) 5 _ (mac_plain_rows l) d (λ w. w) (elsewhere d)
  unknown (suc levels) d = unknown_beside (λ z. l.other z) 5 _ (mac_plain_rows l) d
      (λ w. no_list w.0 d w.2) (elsewhere d)

  module _ (levels : ℕ) (inside : List X → Type 0)
      (lists : (xs : List X) → WellAt (λ d. l.other d) (row_of (rows levels 5))
      (l.mac_addr_data xs) ↔ view_conditions l inside (view (l.mac_addr_data xs))) where
    abbrev C : X → Type 0
    C x = view_conditions l inside (view x)

    to : (v : MacView X) → view_conditions l inside v → C (of_view l v)
    to v c = subst (view_conditions l inside) (sym (is.viewed v)) c

    from : (v : MacView X) → C (of_view l v) → view_conditions l inside v
    from v c = subst (view_conditions l inside) (is.viewed v) c

    of_variant : (v : MacView X) → WellIn levels (of_view l v) ↔ C (of_view l v)
    of_variant (Mode m) = plainly levels _ _ _ (keep.shown (Mode m)) refl
        (number_label mac_vlan_mode_table_holds (2 ^ 32) (λ y. l.mode y) C (λ y. to (Mode y))
        (λ y. from (Mode y)) m)
    of_variant (Flags flags) = plainly levels _ _ _ (keep.shown (Flags flags)) refl
        (plain_label (λ n. n < 2 ^ 16) (λ n. l.flags (mac_vlan_flags n)) C
        (λ n. to (Flags (mac_vlan_flags n))) (λ n. from (Flags (mac_vlan_flags n))) flags.0)
    of_variant (MacAddrMode m) = plainly levels _ _ _ (keep.shown (MacAddrMode m)) refl
        (number_label mac_vlan_mac_address_mode_table_holds (2 ^ 32) (λ y. l.mac_addr_mode y) C
        (λ y. to (MacAddrMode y)) (λ y. from (MacAddrMode y)) m)
    of_variant (MacAddr a) = plainly levels _ _ _ (keep.shown (MacAddr a)) refl
        (plain_label (λ b. (length b ≡ 6) × IsBytes b) (λ b. l.mac_addr b) C (λ b. to (MacAddr b))
        (λ b. from (MacAddr b)) a)
    of_variant (MacAddrData xs) = shown levels _ _ _ (keep.shown (MacAddrData xs)) (lists xs)
    of_variant (MacAddrCount n) = plainly levels _ _ _ (keep.shown (MacAddrCount n)) refl
        (plain_label (λ m. m < 2 ^ 32) (λ m. l.mac_addr_count m) C (λ m. to (MacAddrCount m))
        (λ m. from (MacAddrCount m)) n)
    of_variant (BcQueueLen n) = plainly levels _ _ _ (keep.shown (BcQueueLen n)) refl
        (plain_label (λ m. m < 2 ^ 32) (λ m. l.bc_queue_len m) C (λ m. to (BcQueueLen m))
        (λ m. from (BcQueueLen m)) n)
    of_variant (BcQueueLenUsed n) = plainly levels _ _ _ (keep.shown (BcQueueLenUsed n)) refl
        (plain_label (λ m. m < 2 ^ 32) (λ m. l.bc_queue_len_used m) C (λ m. to (BcQueueLenUsed m))
        (λ m. from (BcQueueLenUsed m)) n)
    of_variant (BcCutoff z) = plainly levels _ _ _ (keep.shown (BcCutoff z)) refl
        (plain_label (λ y. FitsSigned w32 y) (λ y. l.bc_cutoff y) C (λ y. to (BcCutoff y))
        (λ y. from (BcCutoff y)) z)
    of_variant (Other d) = shown levels _ _ _ (keep.shown (Other d)) (
      λ w. to (Other d) ((unknown levels d).0 w),
      λ c. (unknown levels d).1 (from (Other d) c),
    )

    of_value : (x : X) → WellIn levels x ↔ C x
    of_value x = subst (λ (y : X). WellIn levels y ↔ C y) (is.made x) (of_variant (view x))

  abbrev inside_of : ℕ → List X → Type 0
  inside_of levels xs = AllByRecursion (mac_conditions l view levels) xs

  -- a list one level deeper, given that its values are well formed if and only if they meet the
  -- conditions
  lists : (levels : ℕ) → ((x : X) → WellIn levels x ↔ mac_conditions l view levels x) →
      (xs : List X) →
      WellAt (λ d. l.other d) (row_of (rows (suc levels) 5)) (l.mac_addr_data xs) ↔
      view_conditions l (inside_of levels) (view (l.mac_addr_data xs))
  lists levels same xs =
      let each : (ys : List X) → AllWell (WellIn levels) ys ↔ inside_of levels ys =
      each_stated (WellIn levels) (mac_conditions l view levels) same in
      plain_label (λ ys. AllWell (WellIn levels) ys) (λ ys. l.mac_addr_data ys)
      (λ x. view_conditions l (inside_of levels) (view x))
      (λ ys h. subst (view_conditions l (inside_of levels)) (sym (is.viewed (MacAddrData ys)))
      ((each ys).0 h))
      (λ ys c. (each ys).1
      (subst (view_conditions l (inside_of levels)) (is.viewed (MacAddrData ys)) c)) xs

  -- a value is well formed if and only if it meets these conditions
  pub mac_stated : (levels : ℕ) (x : X) → WellIn levels x ↔ mac_conditions l view levels x
  mac_stated zero x = of_value zero (λ _. ⊥)
      (λ xs. (
        λ w. absurd w,
        λ c. subst (view_conditions l (λ _. ⊥))
            (is.viewed (MacAddrData xs)) c,
      )) x
  mac_stated (suc levels) x = of_value (suc levels) (inside_of levels)
      (λ xs. lists levels (mac_stated levels) xs) x

-- ---- how deep lists are

module _ {X : Type 0} (l : MacLabels X) (view : X → MacView X) (depth : X → ℕ)
    (depth_is : (x : X) → depth x ≡ view_depth (map_view depth (view x))) where
  abbrev HoldsAt : ℕ → X → Type 0
  HoldsAt levels x = mac_conditions l view levels x

  -- the conditions bound the depth of a list
  deepest_within : (levels : ℕ) → ((x : X) → HoldsAt levels x → depth x ≤ levels) → (xs : List X) →
      AllByRecursion (HoldsAt levels) xs →
      deepest (map depth xs) ≤ levels
  deepest_within levels each [] h = omega arith
  deepest_within levels each (x ∷ xs) h = max-le (each x h.0) (deepest_within levels each xs h.1)

  view_within : (v : MacView X) → view_conditions l (λ _. ⊥) v → view_depth (map_view depth v) ≤ 0
  view_within (MacAddrData xs) h = absurd h
  view_within _ h = omega arith

  view_within_more : (levels : ℕ) (inside : List X → Type 0) →
      ((xs : List X) → inside xs → deepest (map depth xs) ≤ levels) → (v : MacView X) →
      view_conditions l inside v → view_depth (map_view depth v) ≤ suc levels
  view_within_more levels inside each (MacAddrData xs) h = omega (arith, each xs h)
  view_within_more levels inside each _ h = omega arith

  within : (levels : ℕ) (x : X) → HoldsAt levels x → depth x ≤ levels
  within zero x h = subst (λ (n : ℕ). n ≤ 0) (sym (depth_is x)) (view_within (view x) h)
  within (suc levels) x h =
      subst (λ (n : ℕ). n ≤ suc levels) (sym (depth_is x))
      (view_within_more levels (λ xs. AllByRecursion (HoldsAt levels) xs)
      (deepest_within levels (within levels)) (view x) h)

  -- the conditions require nothing else of the levels
  all_under : (more levels : ℕ) →
      ((x : X) → HoldsAt more x → depth x ≤ levels → HoldsAt levels x) → (xs : List X) →
      AllByRecursion (HoldsAt more) xs →
      deepest (map depth xs) ≤ levels → AllByRecursion (HoldsAt levels) xs
  all_under more levels each [] h small = tt
  all_under more levels each (x ∷ xs) h small =
      let here : depth x ≤ levels =
      omega (arith, le-max_left (depth x) (deepest (map depth xs)), small) in
      let rest : deepest (map depth xs) ≤ levels =
      omega (arith, le-max_right (depth x) (deepest (map depth xs)), small) in
      (each x h.0 here, all_under more levels each xs h.1 rest)

  view_under : (inside other : List X → Type 0) (levels : ℕ) →
      ((xs : List X) → inside xs → suc (deepest (map depth xs)) ≤ levels → other xs) →
      (v : MacView X) → view_conditions l inside v → view_depth (map_view depth v) ≤ levels →
      view_conditions l other v
  view_under inside other levels each (MacAddrData xs) h small = each xs h small
  view_under inside other levels each _ h small = h

  under : (more levels : ℕ) (x : X) → HoldsAt more x → depth x ≤ levels → HoldsAt levels x
  under zero zero x h small = h
  under zero (suc levels) x h small =
      view_under (λ _. ⊥) (λ xs. AllByRecursion (HoldsAt levels) xs) (suc levels)
      (λ xs no deep. absurd no) (view x) h
      (subst (λ (n : ℕ). n ≤ suc levels) (depth_is x) small)
  under (suc more) zero x h small =
      view_under (λ xs. AllByRecursion (HoldsAt more) xs) (λ _. ⊥) 0
      (λ xs all deep. omega (arith, deep)) (view x) h
      (subst (λ (n : ℕ). n ≤ 0) (depth_is x) small)
  under (suc more) (suc levels) x h small =
      view_under (λ xs. AllByRecursion (HoldsAt more) xs)
      (λ xs. AllByRecursion (HoldsAt levels) xs) (suc levels)
      (λ xs all deep. all_under more levels (λ y. under more levels y) xs all
      (omega (arith, deep))) (view x) h
      (subst (λ (n : ℕ). n ≤ suc levels) (depth_is x) small)

  -- The conditions hold at a number of levels if and only if they hold at some number, and the
  -- value has at most that many levels of nested lists.
  pub mac_depth_stated : (levels : ℕ) (x : X) → HoldsAt levels x ↔
      (mac_values l view x × (depth x ≤ levels))
  mac_depth_stated levels x = (
    λ h. ((levels, h), within levels x h),
    λ h. under h.0.0 levels x h.0.1 h.1,
  )
