-- A list is well formed if and only if each value meets the conditions of its variant, under the
-- current kinds before it.
use Rattle.std.specs.Prelude.{◌≡◌, ◌≢◌, ◌↔◌, ℕ, zero, suc, ◌<◌, List, [], ◌∷◌, Option, Some, None}
use Rattle.std.specs.Prelude.{refl}
use Rattle.std.proofs.Common.{sym, subst}
use Rattle.nla_frame.specs.Attribute.{IsBytes, masked}
use Rattle.nla_frame.specs.declared.default_nla.DefaultNla.{DefaultNla}
use Rattle.linkinfo_numbers.specs.Kind.{kind_of_name, kind_table_holds}
use Rattle.linkinfo_numbers.specs.PortKind.{port_kind_of_name, port_kind_table_holds}
use Rattle.linkinfo_numbers.specs.Table.{table_label}
use Rattle.linkinfo_numbers.specs.declared.tags.KindTag.{KindTag}
use Rattle.linkinfo_numbers.specs.declared.tags.PortTag.{PortTag}
use Rattle.linkinfo_table.specs.Lists.{well_under}
use Rattle.linkinfo_table.specs.Rows.{WellAt, WellFormed}
use Rattle.linkinfo_data.specs.Conditions.{AreStated, DataConditions}
use Rattle.linkinfo_data.specs.Data.{family_of}
use Rattle.linkinfo_data.specs.DataFamilies.{DataFamilies, DataTypes}
use Rattle.linkinfo_data.specs.PortData.{port_family_of}
use Rattle.linkinfo.specs.Items.{link_other, link_row, link_well}
use Rattle.linkinfo.specs.Roles.{no_kinds, role_of, role_under}
use Rattle.linkinfo.specs.Strings.{WellFormed as WellFormedList, kinds_after_value}
use Rattle.linkinfo.specs.Xstats.{xstats_bytes}
use Rattle.linkinfo.specs.Layered.{LinkOf}
use Rattle.linkinfo.specs.declared.link_info.LinkInfoOf.TheVariants as info
use Rattle.linkinfo.specs.declared.role.CurrentKinds.{CurrentKinds}
use Rattle.linkinfo.specs.declared.role.Role.{Role}
use Rattle.linkinfo.specs.declared.role.Role.TheVariants as role
use Rattle.linkinfo.specs.declared.xstats.LinkXstats.{LinkXstats}
use Rattle.linkinfo.specs.declared.xstats.LinkXstats.TheVariants as xstats
use Rattle.linkinfo.specs.Conditions.{Conditions, IsDataUnder, IsPortDataUnder, IsText, IsUnnamed}
use Rattle.linkinfo.specs.Conditions.{item_conditions}
use Rattle.linkinfo.proofs.Items.{unknown_from_six}

module _ {L : DataTypes} (layer : DataFamilies L) (well : DataConditions L)
    (stated : AreStated layer well) where
  abbrev IsWell : Role → LinkOf L → Type 0
  IsWell r x = WellAt link_other (link_row layer r) x

  data_stated : (kind : Option KindTag) (d : L.Data) →
      IsWell (role_under kind (λ tag. role.Data tag)) (info.Data d) ↔ IsDataUnder well kind d
  data_stated None d = (λ w. absurd w, λ h. let no = h.1 in absurd cc)
  data_stated (Some tag) d = (
    λ w.
        let same : w.0 ≡ d = cc in (
          tag,
          refl,
          subst (λ (e : L.Data). well.link (family_of tag) e) same
              ((stated.link (family_of tag) w.0).0 w.1),
        ),
    λ h.
        let same : h.0 ≡ tag = cc in (
          d,
          (stated.link (family_of tag) d).1
              (subst (λ (g : KindTag). well.link (family_of g) d) same
              h.2),
          refl,
        ),
  )

  port_data_stated : (port : Option PortTag) (d : L.PortData) →
      IsWell (role_under port (λ tag. role.PortData tag)) (info.PortData d) ↔
      IsPortDataUnder well port d
  port_data_stated None d = (λ w. absurd w, λ h. let no = h.1 in absurd cc)
  port_data_stated (Some tag) d = (
    λ w.
        let same : w.0 ≡ d = cc in (
          tag,
          refl,
          subst (λ (e : L.PortData). well.port (port_family_of tag) e) same
              ((stated.port (port_family_of tag) w.0).0 w.1),
        ),
    λ h.
        let same : h.0 ≡ tag = cc in (
          d,
          (stated.port (port_family_of tag) d).1
              (subst (λ (g : PortTag). well.port (port_family_of g) d) same h.2),
          refl,
        ),
  )

  statistics_stated : (kind : Option KindTag) (x : LinkXstats) →
      IsWell (role_under kind (λ _. role.Xstats)) (info.Xstats x) ↔
      ((kind ≢ None) × IsBytes (xstats_bytes x))
  statistics_stated None x = (λ w. absurd w, λ h. absurd (h.0 refl))
  statistics_stated (Some tag) (xstats.Other bytes) = (
    λ w. let same : w.0 ≡ bytes = cc in (λ e. cc, subst (λ (b : List ℕ). IsBytes b) same w.1),
    λ h. (bytes, h.1, refl),
  )

  -- no opaque attribute is a kind, data, statistics, a port kind or port data
  misplaced : (r : Role) (d : DefaultNla) → r ≢ role.Unknown → ¬ IsWell r (info.Other d)
  misplaced role.Kind d other w = let no = w.2 in cc
  misplaced (role.Data tag) d other w = let no = w.2 in cc
  misplaced role.Xstats d other w = let no = w.2 in cc
  misplaced role.PortKind d other w = let no = w.2 in cc
  misplaced (role.PortData tag) d other w = let no = w.2 in cc
  misplaced role.Misplaced d other w = w
  misplaced role.Unknown d other w = other refl

  under_known : {T : Type 0} (o : Option T) (at : T → Role) → ((tag : T) → at tag ≢ role.Unknown) →
      role_under o at ≢ role.Unknown
  under_known (Some tag) at known = known tag
  under_known None at known = λ e. cc

  abbrev IsUnknownStated : CurrentKinds → ℕ → DefaultNla → Type 0
  IsUnknownStated t n d = IsWell (role_of t n) (info.Other d) ↔
      ((d.kind < 65536) × IsBytes d.value × IsUnnamed n)

  -- an attribute of one of the five types
  named_stated : (r : Role) (n : ℕ) (d : DefaultNla) → r ≢ role.Unknown → ¬ IsUnnamed n →
      IsWell r (info.Other d) ↔ ((d.kind < 65536) × IsBytes d.value × IsUnnamed n)
  named_stated r n d known named = (λ w. absurd (misplaced r d known w), λ h. absurd (named h.2))

  -- an attribute of another type
  kept_stated : (n : ℕ) (d : DefaultNla) → IsUnnamed n → IsWell role.Unknown (info.Other d) ↔
      ((d.kind < 65536) × IsBytes d.value × IsUnnamed n)
  kept_stated n d unnamed = (
    λ w.
        let same : w.0 ≡ d = cc in
        let held : (d.kind < 65536) × IsBytes d.value =
        subst (λ (z : DefaultNla). (z.kind < 65536) × IsBytes z.value) same (w.1, w.2) in
        (held.0, held.1, unnamed),
    λ h. (d, h.0, h.1, refl),
  )

  unknown_stated : (t : CurrentKinds) (n : ℕ) (d : DefaultNla) → IsUnknownStated t n d
  unfolding role_of
  unknown_stated t zero d = kept_stated 0 d (λ e. cc, λ e. cc, λ e. cc, λ e. cc, λ e. cc)
  unknown_stated t (suc zero) d = named_stated role.Kind 1 d (λ e. cc) (λ h. h.0 refl)
  unknown_stated t (suc (suc zero)) d =
      named_stated (role_under t.kind (λ tag. role.Data tag)) 2 d
      (under_known t.kind _ (λ tag e. cc)) (λ h. h.1 refl)
  unknown_stated t (suc (suc (suc zero))) d =
      named_stated (role_under t.kind (λ _. role.Xstats)) 3 d (under_known t.kind _ (λ tag e. cc))
      (λ h. h.2 refl)
  unknown_stated t (suc (suc (suc (suc zero)))) d =
      named_stated role.PortKind 4 d (λ e. cc) (λ h. h.3 refl)
  unknown_stated t (suc (suc (suc (suc (suc zero))))) d =
      named_stated (role_under t.port (λ tag. role.PortData tag)) 5 d
      (under_known t.port _ (λ tag e. cc)) (λ h. h.4 refl)
  unknown_stated t (suc (suc (suc (suc (suc (suc n)))))) d =
      let k : ℕ = suc (suc (suc (suc (suc (suc n))))) in
      subst (λ (r : Role). IsWell r (info.Other d) ↔
      ((d.kind < 65536) × IsBytes d.value × IsUnnamed k)) (sym (unknown_from_six t n))
      (kept_stated k d (λ e. cc, λ e. cc, λ e. cc, λ e. cc, λ e. cc))

  pub item_stated : (t : CurrentKinds) (x : LinkOf L) → link_well layer t x
      ↔ item_conditions well t x
  unfolding WellFormed role_of kind_of_name port_kind_of_name
  item_stated t = elim [
    | info.Kind k ↦ table_label kind_table_holds IsText (λ y. info.Kind y)
        (item_conditions well t)
        (λ _ is. is) (λ _ is. is) k
    | info.Data d ↦ data_stated t.kind d
    | info.Xstats x ↦ statistics_stated t.kind x
    | info.PortKind k ↦ table_label port_kind_table_holds IsText (λ y. info.PortKind y)
        (item_conditions well t) (λ _ is. is) (λ _ is. is) k
    | info.PortData d ↦ port_data_stated t.port d
    | info.Other d ↦ unknown_stated t (masked d.kind) d
  ]

  under_stated : (t : CurrentKinds) (xs : List (LinkOf L)) →
      well_under (link_well layer) kinds_after_value t xs ↔
      well_under (item_conditions well) kinds_after_value t xs
  under_stated t [] = (λ h. tt, λ h. tt)
  under_stated t (x ∷ xs) = (
    λ h. ((item_stated t x).0 h.0, (under_stated (kinds_after_value t x) xs).0 h.1),
    λ h. ((item_stated t x).1 h.0, (under_stated (kinds_after_value t x) xs).1 h.1),
  )

  pub list_stated : (xs : List (LinkOf L)) → WellFormedList layer xs ↔ Conditions well xs
  list_stated xs = under_stated no_kinds xs
