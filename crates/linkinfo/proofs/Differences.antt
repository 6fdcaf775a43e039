-- Lemmas for the first difference of two lists of link info.
use Rattle.std.specs.Prelude.{◌≡◌, ℕ, ◌==◌, ◌&&◌, Bool, true, false, if◌then◌else◌, is_none, is_ok}
use Rattle.std.specs.Prelude.{List, ◌∷◌, Option, None, Some, IsOk, refl}
use Rattle.std.proofs.Common.{sym, ap, subst, ◌∙◌, inl, inr}
use Rattle.std.proofs.lemmas.Bool.{cases_Bool, eq-eqb, eqb-true}
use Rattle.nla_frame.specs.Attribute.{masked}
use Rattle.nla_frame.specs.NlaItems.{nla_items}
use Rattle.nla_frame.specs.declared.error.Family.TheVariants as family
use Rattle.linkinfo_table.proofs.Lasts.{left_at_start, left_of}
use Rattle.linkinfo_table.specs.Last.{attributes_of}
use Rattle.linkinfo_table.specs.Rows.{row_alike}
use Rattle.linkinfo_table.specs.declared.last.PlacedNla.{PlacedNla}
use Rattle.linkinfo_table.specs.Difference.{differ, first_or, pairs_difference}
use Rattle.linkinfo_data.specs.DataFamilies.{DataFamilies, DataTypes}
use Rattle.linkinfo_table.specs.ListPayload.{values_accepted}
use Rattle.linkinfo_table.specs.declared.difference.Difference.{Difference}
use Rattle.linkinfo_table.proofs.Differences.{
  ok_true,
  pair_none,
  pairs_none,
  payloads_none,
  true_ok,
}
use Rattle.linkinfo_data.specs.Data.{family_of}
use Rattle.linkinfo_data.specs.Lawful.{AreLawful}
use Rattle.linkinfo_data.specs.Payloads.{IsLawful, Payload}
use Rattle.linkinfo_data.specs.PortData.{port_family_of}
use Rattle.linkinfo.specs.Difference.{
  data_difference,
  link_difference,
  role_difference,
}
use Rattle.linkinfo.specs.Difference.{strings_difference}
use Rattle.linkinfo.specs.Items.{link_alike, link_meaning, link_row}
use Rattle.linkinfo.specs.Roles.{no_kinds, role_at, role_of}
use Rattle.linkinfo.specs.Strings.{alike_strings, next_kinds, reading}
use Rattle.linkinfo.specs.declared.role.CurrentKinds.{CurrentKinds}
use Rattle.linkinfo.specs.declared.role.Role.TheVariants as role
use Rattle.linkinfo.specs.declared.role.Role.{Role}
use Rattle.linkinfo.proofs.Items.{link_alike_after, role_alike_after, same_role}
use Rattle.linkinfo.proofs.Pairs.{alike_is}
use Rattle.linkinfo.proofs.Steps.{meaning_is, meant}
use Rattle.linkinfo.proofs.Unmets.{data_ok, port_ok}

-- data has a difference if and only if it is not equivalent
data_none : {X : Type 0} (payload : Payload X) (canon : X → List ℕ) → IsLawful payload canon →
    (p q : PlacedNla) → IsOk (payload.means p.nla.value) → IsOk (payload.means q.nla.value) →
    is_none (data_difference payload p q) ≡ payload.alike p.nla.value q.nla.value
data_none payload canon law p q first second =
    payloads_none payload.contents (λ s. is_ok (payload.means s)) payload.alike law.contained
    family.LinkInfo p q (ok_true (payload.means p.nla.value) first)
    (ok_true (payload.means q.nla.value) second)

module _ {L : DataTypes} (layer : DataFamilies L) (law : AreLawful layer) where
  typed : (b c : Bool) → b ≡ true → (b && c) ≡ c
  typed true c e = refl
  typed false c e = absurd cc

  pub role_none : (r : Role) (p q : PlacedNla) → masked q.nla.kind ≡ masked p.nla.kind →
      IsOk (meant layer r p.nla) → IsOk (meant layer r q.nla) →
      is_none (role_difference layer r p q) ≡ row_alike (link_row layer r) p.nla q.nla
  role_none (role.Data tag) p q e first second =
      data_none (layer.data_of (family_of tag)) _ (law.link (family_of tag)) p q
      (data_ok layer tag (role.Data tag) p.nla refl first)
      (data_ok layer tag (role.Data tag) q.nla refl second)
      ∙ sym (typed (masked q.nla.kind == masked p.nla.kind) _
      (eq-eqb (masked q.nla.kind) (masked p.nla.kind) e))
  role_none (role.PortData tag) p q e first second =
      data_none (layer.port_data_of (port_family_of tag)) _ (law.port (port_family_of tag)) p q
      (port_ok layer tag (role.PortData tag) p.nla refl first)
      (port_ok layer tag (role.PortData tag) q.nla refl second)
      ∙ sym (typed (masked q.nla.kind == masked p.nla.kind) _
      (eq-eqb (masked q.nla.kind) (masked p.nla.kind) e))
  role_none role.Kind p q e first second = pair_none family.LinkInfo _ p q
  role_none role.Xstats p q e first second = pair_none family.LinkInfo _ p q
  role_none role.PortKind p q e first second = pair_none family.LinkInfo _ p q
  role_none role.Misplaced p q e first second = pair_none family.LinkInfo _ p q
  role_none role.Unknown p q e first second = pair_none family.LinkInfo _ p q

  link_none : (t : CurrentKinds) (p q : PlacedNla) → is_ok (link_meaning layer t p.nla) ≡ true →
      is_ok (link_meaning layer t q.nla) ≡ true →
      is_none (link_difference layer t p q) ≡ link_alike layer t p.nla q.nla
  link_none t p q first second =
      by_types (masked q.nla.kind == masked p.nla.kind) refl
    where
      r : Role
      r = role_at t p.nla

      by_types : (b : Bool) → (masked q.nla.kind == masked p.nla.kind) ≡ b →
          is_none (if b then role_difference layer r p q else Some (differ family.LinkInfo p q))
          ≡ link_alike layer t p.nla q.nla
      by_types true same =
          let type_is = eqb-true (masked q.nla.kind) (masked p.nla.kind) same in
          let one = true_ok (link_meaning layer t p.nla) first in
          let other = true_ok (link_meaning layer t q.nla) second in
          role_none r p q type_is
          (subst (λ m. IsOk m) (meaning_is layer t p.nla r refl) one)
          (subst (λ m. IsOk m)
          (meaning_is layer t q.nla r (sym (same_role layer t p.nla q.nla type_is))) other)
          ∙ sym (alike_is layer t p.nla q.nla r refl)
      by_types false apart =
          elim (cases_Bool (row_alike (link_row layer r) p.nla q.nla)) [
            | inl alike ↦
                absurd (let same =
                eq-eqb (masked q.nla.kind) (masked p.nla.kind)
                (role_alike_after layer r t p.nla q.nla alike).0 in cc)
            | inr not ↦ sym (alike_is layer t p.nla q.nla r refl ∙ not)
          ]

  -- two accepted byte strings have a difference if and only if they are not equivalent
  pub strings_none : (a b : List ℕ) → IsOk (reading layer a) → IsOk (reading layer b) →
      is_none (strings_difference layer a b) ≡ alike_strings layer a b
  unfolding reading alike_strings attributes_of
  strings_none a b first second =
      pairs_none family.LinkInfo (link_difference layer) (λ t x y. link_alike layer t x y)
      (λ t x. is_ok (link_meaning layer t x)) next_kinds (λ t p q h g. link_none t p q h g)
      (λ t x y h g e. link_alike_after layer t x y e) no_kinds 0 0 (nla_items a) (nla_items b)
      (sym (values_accepted (link_meaning layer) next_kinds no_kinds (nla_items a))
      ∙ ok_true _ first)
      (sym (values_accepted (link_meaning layer) next_kinds no_kinds (nla_items b))
      ∙ ok_true _ second)

  -- ---- a pair of attributes that does not differ

  pub pair_alike : (r : Role) (p q : PlacedNla) (d : Option Difference) →
      masked q.nla.kind ≡ masked p.nla.kind → IsOk (meant layer r p.nla) →
      IsOk (meant layer r q.nla) → d ≡ role_difference layer r p q → d ≡ None →
      row_alike (link_row layer r) p.nla q.nla ≡ true
  pair_alike r p q d e first second is none =
      sym (role_none r p q e first second)
      ∙ ap (λ (o : Option Difference). is_none o) (sym is ∙ none)

module _ {L : DataTypes} (layer : DataFamilies L) where
  abbrev pub left_difference : CurrentKinds → List PlacedNla → List PlacedNla → Option Difference
  left_difference t ps qs =
      pairs_difference family.LinkInfo (link_difference layer) next_kinds t ps qs

  -- at the start all of both lists is left
  pub all_is_left : (t : CurrentKinds) (a b : List ℕ) → t ≡ no_kinds →
      left_difference t (left_of a a) (left_of b b) ≡ strings_difference layer a b
  all_is_left t a b is =
      ap (λ (u : CurrentKinds). left_difference u (left_of a a) (left_of b b)) is
      ∙ ap (λ (ps : List PlacedNla). left_difference no_kinds ps (left_of b b)) (left_at_start a)
      ∙ ap (λ (qs : List PlacedNla). left_difference no_kinds (attributes_of a) qs)
      (left_at_start b)

  pub pair_passes : (t : CurrentKinds) (r : Role) (k : ℕ) (p q : PlacedNla) (ps qs : List PlacedNla)
      (d : Option Difference) → r ≡ role_of t k → k ≡ masked p.nla.kind →
      masked q.nla.kind ≡ masked p.nla.kind → d ≡ role_difference layer r p q → d ≡ None →
      left_difference t (p ∷ ps) (q ∷ qs) ≡ left_difference (next_kinds t p.nla) ps qs
  pair_passes t r k p q ps qs d is number e difference none =
      let role : role_at t p.nla ≡ r = sym (is ∙ ap (λ (n : ℕ). role_of t n) number) in
      let same : role_difference layer (role_at t p.nla) p q ≡ None =
      ap (λ (s : Role). role_difference layer s p q) role ∙ sym difference ∙ none in
      passes (masked q.nla.kind == masked p.nla.kind)
      (eq-eqb (masked q.nla.kind) (masked p.nla.kind) e)
      (role_difference layer (role_at t p.nla) p q) same
    where
      passes : (b : Bool) → b ≡ true → (o : Option Difference) → o ≡ None →
          first_or (if b then o else Some (differ family.LinkInfo p q))
          (left_difference (next_kinds t p.nla) ps qs)
          ≡ left_difference (next_kinds t p.nla) ps qs
      passes true same None none = refl
      passes true same (Some d) none = absurd cc
      passes false same o none = absurd cc
