-- A list under a layer, and under the layer of the same peer, whose families keep each attribute.
use Rattle.std.specs.Prelude.{
  ◌≡◌,
  ◌==◌,
  ◌&&◌,
  ℕ,
  Bool,
  true,
  List,
  None,
  Result,
  Ok,
  Err,
  IsOk,
  refl,
}
use Rattle.std.proofs.Common.{subst, sym, ◌∙◌}
use Rattle.std.proofs.lemmas.Bool.{and_from, and_parts}
use Rattle.nla_frame.specs.Attribute.{Attribute, IsAttribute, IsBytes, masked}
use Rattle.nla_frame.specs.NlaItems.{nla_items}
use Rattle.nla_frame.specs.declared.error.DecodeError.{DecodeError}
use Rattle.nla_frame.specs.declared.error.Family.TheVariants as family
use Rattle.linkinfo_numbers.specs.Kind.{kind_of_name}
use Rattle.linkinfo_numbers.specs.PortKind.{port_kind_of_name}
use Rattle.linkinfo_shapes.specs.declared.shape.Shape.TheVariants.{Name, Raw}
use Rattle.linkinfo_table.specs.Codecs.{PayloadError}
use Rattle.linkinfo_table.specs.EachAttribute.{list_accepts, list_alike}
use Rattle.linkinfo_table.specs.FamilyRows.{shape_codec}
use Rattle.linkinfo_table.specs.Layers.{Families, IsLayer, Types}
use Rattle.linkinfo_table.specs.Rows.{alike_in, labelled, row_alike}
use Rattle.linkinfo_table.specs.SelfList.{inside}
use Rattle.linkinfo_data.specs.Data.{data_refined, family_of}
use Rattle.linkinfo_data.specs.DataFamilies.{DataFamilies, DataTypes, data_families, data_types}
use Rattle.linkinfo_data.specs.NoSets.{HasNoSets}
use Rattle.linkinfo_data.specs.Payloads.{Payload}
use Rattle.linkinfo_data.specs.PeerFamilies.{peer_families}
use Rattle.linkinfo_data.specs.PeerLayer.{peer_types}
use Rattle.linkinfo_data.specs.PortData.{port_family_of, port_refined}
use Rattle.linkinfo_data.specs.Refined.{Refines}
use Rattle.linkinfo.specs.Items.{link_alike, link_meaning, link_row}
use Rattle.linkinfo.specs.Layered.{LinkOf}
use Rattle.linkinfo.specs.Met.{ItemMeets, RoleMeets, items_of, role_of_item, type_of_item}
use Rattle.linkinfo.specs.Roles.{role_at}
use Rattle.linkinfo.specs.Strings.{alike_from, next_kinds, values_from}
use Rattle.linkinfo.specs.Unmet.{strings_unmet}
use Rattle.linkinfo.specs.declared.link_info.LinkInfoOf.TheVariants as info
use Rattle.linkinfo.specs.declared.role.CurrentKinds.{CurrentKinds}
use Rattle.linkinfo.specs.declared.role.Role.{Role}
use Rattle.linkinfo.specs.declared.role.Role.TheVariants as role
use Rattle.linkinfo.specs.declared.xstats.LinkXstats.TheVariants as xstats
use Rattle.linkinfo.proofs.Meeting.{string_met}
use Rattle.linkinfo.proofs.MetRefined.{data_meets, lasts_met}
use Rattle.linkinfo.proofs.Steps.{meaning_is, meant}

-- ---- a variant changes no acceptance

ok_again : {A X Y : Type 0} (n : ℕ) (r : Result A PayloadError) (x : A → X) (y : A → Y) →
    IsOk (labelled family.LinkInfo n x r) → IsOk (labelled family.LinkInfo n y r)
ok_again n (Ok a) x y h = refl
ok_again n (Err e) x y h = absurd cc

ok_inside : {A X : Type 0} (n : ℕ) (r : Result A DecodeError) (x : A → X) →
    IsOk (labelled family.LinkInfo n x (inside r)) → IsOk r
ok_inside n (Ok a) x h = refl
ok_inside n (Err e) x h = absurd cc

inside_ok : {A X : Type 0} (n : ℕ) (r : Result A DecodeError) (x : A → X) → IsOk r →
    IsOk (labelled family.LinkInfo n x (inside r))
inside_ok n (Ok a) x h = refl
inside_ok n (Err e) x h = absurd cc

data_accepts : {A B X Y : Type 0} (n : ℕ) (fine : Payload A) (coarse : Payload B) (x : A → X)
    (y : B → Y) → Refines fine coarse → (p : List ℕ) →
    IsOk (labelled family.LinkInfo n x (inside (fine.means p))) →
    IsOk (labelled family.LinkInfo n y (inside (coarse.means p)))
data_accepts n fine coarse x y refined p h =
    inside_ok n (coarse.means p) y (refined.accepts p (ok_inside n (fine.means p) x h))

data_alike : {A B X : Type 0} (n : ℕ) (fine : Payload A) (coarse : Payload B) (x : A → X)
    (same : Bool) → Refines fine coarse → (p q : List ℕ) → IsBytes p →
    IsOk (labelled family.LinkInfo n x (inside (fine.means p))) →
    (same && coarse.alike p q) ≡ true → (same && fine.alike p q) ≡ true
data_alike n fine coarse x same refined p q b h e =
    let parts = and_parts same (coarse.alike p q) e in
    and_from same (fine.alike p q) parts.0
    (refined.alike p q b (ok_inside n (fine.means p) x h) parts.1)

module _ {T : Types} (families : Families T) (lawful : IsLayer families) where
  abbrev L : DataTypes
  L = data_types T

  abbrev fine : DataFamilies L
  fine = data_families families

  abbrev C : DataTypes
  C = data_types (peer_types T.Peer)

  abbrev coarse : DataFamilies C
  coarse = data_families (peer_families families.peer)

  -- ---- one attribute

  role_accepts : (r : Role) (a : Attribute) → IsOk (meant fine r a) → IsOk (meant coarse r a)
  role_accepts (role.Data t) a h =
      let f = family_of t in
      data_accepts (masked a.kind) (fine.data_of f) (coarse.data_of f) _ _
      (data_refined families lawful f) a.value h
  role_accepts (role.PortData t) a h =
      let f = port_family_of t in
      data_accepts (masked a.kind) (fine.port_data_of f) (coarse.port_data_of f) _ _
      (port_refined families lawful f) a.value h
  role_accepts role.Kind a h =
      ok_again {X = LinkOf L} {Y = LinkOf C} (masked a.kind) ((shape_codec Name).means a.value)
      (λ name. info.Kind (kind_of_name name)) (λ name. info.Kind (kind_of_name name)) h
  role_accepts role.PortKind a h =
      ok_again {X = LinkOf L} {Y = LinkOf C} (masked a.kind) ((shape_codec Name).means a.value)
      (λ name. info.PortKind (port_kind_of_name name))
      (λ name. info.PortKind (port_kind_of_name name)) h
  role_accepts role.Xstats a h =
      ok_again {X = LinkOf L} {Y = LinkOf C} (masked a.kind) ((shape_codec Raw).means a.value)
      (λ bytes. info.Xstats (xstats.Other bytes)) (λ bytes. info.Xstats (xstats.Other bytes)) h
  role_accepts role.Misplaced a h = absurd cc
  role_accepts role.Unknown a h = refl

  role_alike : (r : Role) (a b : Attribute) → IsAttribute a → IsOk (meant fine r a) →
      row_alike (link_row coarse r) a b ≡ true → row_alike (link_row fine r) a b ≡ true
  role_alike (role.Data t) a b i h e =
      let f = family_of t in
      data_alike (masked a.kind) (fine.data_of f) (coarse.data_of f) _
      (masked b.kind == masked a.kind) (data_refined families lawful f) a.value b.value i.bytes h e
  role_alike (role.PortData t) a b i h e =
      let f = port_family_of t in
      data_alike (masked a.kind) (fine.port_data_of f) (coarse.port_data_of f) _
      (masked b.kind == masked a.kind) (port_refined families lawful f) a.value b.value i.bytes h e
  role_alike role.Kind a b i h e = e
  role_alike role.PortKind a b i h e = e
  role_alike role.Xstats a b i h e = e
  role_alike role.Misplaced a b i h e = e
  role_alike role.Unknown a b i h e = e

  meant_here : (t : CurrentKinds) (a : Attribute) → IsOk (link_meaning fine t a) →
      IsOk (meant fine (role_at t a) a)
  meant_here t a h =
      subst (λ (m : Result (LinkOf L) DecodeError). IsOk m)
      (meaning_is fine t a (role_at t a) refl) h

  link_accepts : (t : CurrentKinds) (a : Attribute) → IsOk (link_meaning fine t a) →
      IsOk (link_meaning coarse t a)
  link_accepts t a h =
      subst (λ (m : Result (LinkOf C) DecodeError). IsOk m)
      (sym (meaning_is coarse t a (role_at t a) refl))
      (role_accepts (role_at t a) a (meant_here t a h))

  alike_by_role : {M : DataTypes} (layer : DataFamilies M) (t : CurrentKinds) (a b : Attribute) →
      link_alike layer t a b ≡ row_alike (link_row layer (role_at t a)) a b
  unfolding alike_in
  alike_by_role layer t a b = refl

  links_alike : (t : CurrentKinds) (a b : Attribute) → IsAttribute a →
      IsOk (link_meaning fine t a) → link_alike coarse t a b ≡ true →
      link_alike fine t a b ≡ true
  links_alike t a b i h e =
      alike_by_role fine t a b
      ∙ role_alike (role_at t a) a b i (meant_here t a h) (sym (alike_by_role coarse t a b) ∙ e)

  -- ---- lists of attributes

  pub accepted_verbatim : (t : CurrentKinds) (ps : List (Result Attribute ℕ)) →
      IsOk (values_from fine t ps) → IsOk (values_from coarse t ps)
  accepted_verbatim t ps h =
      list_accepts (link_meaning fine) next_kinds (link_meaning coarse) link_accepts t ps h

  pub alike_verbatim : (t : CurrentKinds) (s u : List ℕ) → IsBytes s →
      IsOk (values_from fine t (nla_items s)) →
      alike_from coarse t (nla_items s) (nla_items u) ≡ true →
      alike_from fine t (nla_items s) (nla_items u) ≡ true
  alike_verbatim t s u b h e =
      list_alike (link_meaning fine) next_kinds (link_alike fine) (link_alike coarse) links_alike t
      s u b h e

  -- ---- what is met

  role_meets : HasNoSets fine → (r : Role) (h w : Attribute) → RoleMeets coarse r h w →
      RoleMeets fine r h w
  role_meets none (role.Data t) h w m =
      let f = family_of t in
      data_meets (fine.data_of f) (coarse.data_of f) (data_refined families lawful f).contains
      (none.of_data f) h w m
  role_meets none (role.PortData t) h w m =
      let f = port_family_of t in
      data_meets (fine.port_data_of f) (coarse.port_data_of f)
      (port_refined families lawful f).contains (none.of_ports f) h w m
  role_meets none role.Kind h w m = m
  role_meets none role.PortKind h w m = m
  role_meets none role.Xstats h w m = m
  role_meets none role.Misplaced h w m = m
  role_meets none role.Unknown h w m = m

  pub met_verbatim : HasNoSets fine → (have want : List ℕ) →
      strings_unmet coarse have want ≡ None → strings_unmet fine have want ≡ None
  met_verbatim none have want e =
      (string_met fine have want).1
      (lasts_met type_of_item (ItemMeets coarse) (ItemMeets fine)
      (λ h w m. record {
        kind = m.kind;
        payload = role_meets none (role_of_item w) h.nla w.nla m.payload;
      })
      (items_of have) (items_of want) ((string_met coarse have want).0 e))
