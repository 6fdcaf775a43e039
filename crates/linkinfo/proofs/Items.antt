-- The laws of the attributes of a list: each row is lawful as a row of a family, and the current
-- kinds after an attribute are those after its value.
use Rattle.std.proofs.Common.{
  ◌≡◌,
  ℕ,
  zero,
  suc,
  ◌*◌,
  ◌≤◌,
  true,
  eqb,
  List,
  length,
  refl,
  sym,
  ap,
  subst,
  ◌∙◌,
  arith,
  Result,
  Ok,
  Err,
  Option,
  Some,
  None,
  lit<,
}
use Rattle.std.specs.Prelude.{◌≢◌, ◌↔◌, IsOk}
use Rattle.std.specs.Str.{bytes_eq}
use Rattle.std.proofs.lemmas.Bool.{eqb-true, ne_eqb, and_parts}
use Rattle.std.proofs.lemmas.Slice.Eq.{bytes_eq-Decides}
use Rattle.nla_frame.specs.Attribute.{Attribute, IsAttribute, Fits, masked}
use Rattle.nla_frame.specs.Canonical.{attribute_for, bytes_for}
use Rattle.nla_frame.specs.Error.{memory_error}
use Rattle.nla_frame.specs.declared.default_nla.DefaultNla.{DefaultNla}
use Rattle.nla_frame.specs.declared.error.Cause.{Cause}
use Rattle.nla_frame.specs.declared.error.Cause.TheVariants as cause
use Rattle.nla_frame.specs.declared.error.Family.TheVariants as family
use Rattle.nla_frame.specs.declared.error.DecodeError.{DecodeError}
use Rattle.linkinfo_numbers.specs.declared.kind.InfoKind.{InfoKind}
use Rattle.linkinfo_numbers.specs.declared.port_kind.InfoPortKind.{InfoPortKind}
use Rattle.linkinfo_numbers.specs.declared.tags.KindTag.{KindTag}
use Rattle.linkinfo_numbers.specs.declared.tags.PortTag.{PortTag}
use Rattle.linkinfo_numbers.specs.Kind.{
  kind_of_name,
  text_of_kind,
  text_of_kind-kind_of_name,
  tag_of_name,
  tag_of_kind-kind_of_name,
}
use Rattle.linkinfo_numbers.specs.PortKind.{
  port_kind_of_name,
  text_of_port_kind,
  text_of_port_kind-port_kind_of_name,
  port_tag_of_name,
  tag_of_port_kind-port_kind_of_name,
}
use Rattle.linkinfo_numbers.specs.Name.{name_attribute}
use Rattle.nla_frame.specs.Payload.{stripped}
use Rattle.linkinfo_shapes.specs.Shapes.{canon, canonical, means, text_of}
use Rattle.linkinfo_shapes.specs.declared.shape.Shape.TheVariants.{Name, Raw}
use Rattle.linkinfo_data.specs.DataFamilies.{DataFamilies, DataTypes}
use Rattle.linkinfo_data.specs.Lawful.{AreLawful}
use Rattle.linkinfo_table.specs.FamilyRows.{own, RowOwes}
use Rattle.linkinfo_table.specs.FlatLaws.{rows_no_memory}
use Rattle.linkinfo_table.specs.FamilyRowLaws.{owed, shape_is_codec}
use Rattle.linkinfo_table.specs.Rows.{
  Entry,
  Is,
  IsRow,
  labelled,
  meaning_in,
  alike_in,
  row_meaning,
  row_alike,
}
use Rattle.linkinfo_table.specs.RowLaws.{
  rows_alike_is,
  rows_read_well,
  rows_well_reads,
  rows_well_attribute,
  rows_quarter,
}
use Rattle.linkinfo_table.specs.SelfList.{inside}
use Rattle.linkinfo.specs.Layered.{LinkOf}
use Rattle.linkinfo.specs.declared.link_info.LinkInfoOf.TheVariants as info
use Rattle.linkinfo.specs.declared.role.CurrentKinds.{CurrentKinds}
use Rattle.linkinfo.specs.declared.role.Role.{Role}
use Rattle.linkinfo.specs.declared.role.Role.TheVariants as role
use Rattle.linkinfo_data.specs.Data.{family_of}
use Rattle.linkinfo_data.specs.Payloads.{IsLawful, Payload}
use Rattle.linkinfo_data.specs.PortData.{port_family_of}
use Rattle.linkinfo.specs.Items.{
  link_attribute,
  link_other,
  link_row,
  link_rows,
  link_meaning,
  link_headers,
  link_alike,
  link_well,
  written_attribute,
}
use Rattle.linkinfo.specs.Roles.{
  kinds_after_role,
  name_meaning,
  name_or_error,
  role_of,
  role_at,
  role_under,
  with_name,
}
use Rattle.linkinfo.specs.Strings.{or_stay, next_kinds, kinds_after_value}

-- ---- the laws of the rows

pub unknown_from_six : (t : CurrentKinds) (n : ℕ) →
    role_of t (suc (suc (suc (suc (suc (suc n)))))) ≡ role.Unknown
unfolding role_of
unknown_from_six t n =
    let k : ℕ = suc (suc (suc (suc (suc (suc n))))) in
    rw (
      ne_eqb k 1 (λ h. omega (arith, h)),
      ne_eqb k 2 (λ h. omega (arith, h)),
      ne_eqb k 3 (λ h. omega (arith, h)),
      ne_eqb k 4 (λ h. omega (arith, h)),
      ne_eqb k 5 (λ h. omega (arith, h)),
    ) refl

module _ {L : DataTypes} (layer : DataFamilies L) where
  abbrev attribute : LinkOf L → Attribute
  attribute = link_attribute layer

  abbrev good : LinkOf L → Result (LinkOf L) DecodeError
  good x = Ok x

  abbrev a_kind : InfoKind → LinkOf L
  a_kind k = info.Kind k

  abbrev a_port_kind : InfoPortKind → LinkOf L
  a_port_kind k = info.PortKind k

  kinds_same : (k l : InfoKind) → a_kind k ≡ a_kind l → k ≡ l
  kinds_same k l e = cc

  port_kinds_same : (k l : InfoPortKind) → a_port_kind k ≡ a_port_kind l → k ≡ l
  port_kinds_same k l e = cc

  kind_owes : RowOwes attribute 1 (link_row layer role.Kind)
  kind_owes = record {
    low = lit< tt;
    codec = shape_is_codec Name;
    keeps = λ name. ap (λ (x : List ℕ). name_attribute 1 x) (text_of_kind-kind_of_name name);
    same = λ x y _ _ e.
        sym (text_of_kind-kind_of_name x)
        ∙ ap text_of_kind (kinds_same (kind_of_name x) (kind_of_name y) e)
        ∙ text_of_kind-kind_of_name y;
  }

  port_kind_owes : RowOwes attribute 4 (link_row layer role.PortKind)
  port_kind_owes = record {
    low = lit< tt;
    codec = shape_is_codec Name;
    keeps = λ name.
        ap (λ (x : List ℕ). name_attribute 4 x) (text_of_port_kind-port_kind_of_name name);
    same = λ x y _ _ e.
        sym (text_of_port_kind-port_kind_of_name x)
        ∙ ap text_of_port_kind (port_kinds_same (port_kind_of_name x) (port_kind_of_name y) e)
        ∙ text_of_port_kind-port_kind_of_name y;
  }

  not_memory : cause.Order ≢ cause.Memory
  not_memory e = absurd cc

  module _ (law : AreLawful layer) where
    data_owes : (o : Option KindTag) →
        RowOwes attribute 2 (link_row layer (role_under o (λ tag. role.Data tag)))
    data_owes (Some tag) = record {
      low = lit< tt;
      codec = (law.link (family_of tag)).codec;
      keeps = λ d. refl;
      same = λ x y _ _ e. cc;
    }
    data_owes None = not_memory

    xstats_owes : (o : Option KindTag) →
        RowOwes attribute 3 (link_row layer (role_under o (λ _. role.Xstats)))
    xstats_owes (Some tag) = record {
      low = lit< tt;
      codec = shape_is_codec Raw;
      keeps = λ d. refl;
      same = λ x y _ _ e. cc;
    }
    xstats_owes None = not_memory

    port_data_owes : (o : Option PortTag) →
        RowOwes attribute 5 (link_row layer (role_under o (λ tag. role.PortData tag)))
    port_data_owes (Some tag) = record {
      low = lit< tt;
      codec = (law.port (port_family_of tag)).codec;
      keeps = λ d. refl;
      same = λ x y _ _ e. cc;
    }
    port_data_owes None = not_memory

    link_owes : (t : CurrentKinds) (n : ℕ) → RowOwes attribute n (link_rows layer t n)
    unfolding role_of
    link_owes t zero = tt
    link_owes t (suc zero) = kind_owes
    link_owes t (suc (suc zero)) = data_owes t.kind
    link_owes t (suc (suc (suc zero))) = xstats_owes t.kind
    link_owes t (suc (suc (suc (suc zero)))) = port_kind_owes
    link_owes t (suc (suc (suc (suc (suc zero))))) = port_data_owes t.port
    link_owes t (suc (suc (suc (suc (suc (suc n)))))) =
        subst (λ (r : Role).
        RowOwes attribute (suc (suc (suc (suc (suc (suc n)))))) (link_row layer r))
        (sym (unknown_from_six t n)) tt

    is_row : (t : CurrentKinds) (n : ℕ) (e : Entry (LinkOf L)) → link_rows layer t n ≡ Is e →
        IsRow attribute n e
    is_row t n e h = owed attribute (link_rows layer t) (link_owes t) n e h

    keeps_other : (d : DefaultNla) →
        attribute (link_other d) ≡ record { kind = d.kind; value = d.value }
    keeps_other d = refl

    pub link_alike_is : (t : CurrentKinds) (a b : Attribute) (x y : LinkOf L) → IsAttribute a →
        IsAttribute b → link_meaning layer t a ≡ Ok x → link_meaning layer t b ≡ Ok y →
        (link_alike layer t a b ≡ true) ↔ (x ≡ y)
    link_alike_is t a b x y i j h k =
        rows_alike_is family.LinkInfo link_other attribute (link_rows layer t) (is_row t)
        keeps_other
        a b x y i j h k

    pub link_read_well : (t : CurrentKinds) (a : Attribute) (x : LinkOf L) → IsAttribute a →
        link_meaning layer t a ≡ Ok x → link_well layer t x
    link_read_well t a x i h =
        rows_read_well family.LinkInfo link_other attribute (link_rows layer t) (is_row t)
        keeps_other a x i h

    pub link_well_reads : (t : CurrentKinds) (x : LinkOf L) → link_well layer t x →
        Fits (attribute x) → link_meaning layer t (attribute x) ≡ Ok x
    link_well_reads t x w fits =
        rows_well_reads family.LinkInfo link_other attribute (link_rows layer t) (is_row t)
        keeps_other x w fits

    pub link_well_attribute : (t : CurrentKinds) (x : LinkOf L) → link_well layer t x →
        Fits (attribute x) → IsAttribute (attribute x)
    link_well_attribute t x w fits =
        rows_well_attribute family.LinkInfo link_other attribute (link_rows layer t) (is_row t)
        keeps_other x w fits

    -- what is written for an accepted attribute is the canonical attribute of what it means
    name_written : (number : ℕ) (label : List ℕ → LinkOf L) →
        ((name : List ℕ) →
        attribute (label name) ≡ record { kind = number; value = canon Name name }) →
        (a : Attribute) →
        IsOk (labelled family.LinkInfo (masked a.kind) label (own (means Name a.value))) →
        attribute_for attribute
        (labelled family.LinkInfo (masked a.kind) label (own (means Name a.value)))
        ≡ record { kind = number; value = canonical Name a.value }
    unfolding canonical
    name_written number label keeps a ok = go (means Name a.value) ok
      where
        go : (m : Result (List ℕ) Cause) →
            IsOk (labelled family.LinkInfo (masked a.kind) label (own m)) →
            attribute_for attribute (labelled family.LinkInfo (masked a.kind) label (own m))
            ≡ record { kind = number; value = bytes_for (canon Name) m }
        go (Ok name) h = keeps name
        go (Err c) h = absurd cc

    data_written : {D : Type 0} (number : ℕ) (payload : Payload D) (canon : D → List ℕ) →
        IsLawful payload canon → (label : D → LinkOf L) →
        ((d : D) → attribute (label d) ≡ record { kind = number; value = canon d }) →
        (a : Attribute) →
        IsOk (labelled family.LinkInfo (masked a.kind) label (inside (payload.means a.value))) →
        attribute_for attribute
        (labelled family.LinkInfo (masked a.kind) label (inside (payload.means a.value)))
        ≡ record { kind = number; value = payload.canonical a.value }
    data_written {D = D} number payload canon lawful label keeps a ok =
        go (payload.means a.value) refl ok
      where
        go : (m : Result D DecodeError) → payload.means a.value ≡ m →
            IsOk (labelled family.LinkInfo (masked a.kind) label (inside m)) →
            attribute_for attribute (labelled family.LinkInfo (masked a.kind) label (inside m))
            ≡ record { kind = number; value = payload.canonical a.value }
        go (Ok d) e h =
            keeps d
            ∙ ap (λ (v : List ℕ). record { kind = number; value = v })
            (sym (lawful.canonical a.value d e))
        go (Err f) e h = absurd cc

    pub role_written : (r : Role) (a : Attribute) →
        IsOk (row_meaning family.LinkInfo link_other (link_row layer r) a) →
        attribute_for attribute (row_meaning family.LinkInfo link_other (link_row layer r) a)
        ≡ written_attribute layer r a
    role_written role.Kind a ok =
        name_written 1 (λ name. info.Kind (kind_of_name name)) kind_owes.keeps a ok
    role_written (role.Data tag) a ok =
        data_written 2 (layer.data_of (family_of tag)) layer.data_payload
        (law.link (family_of tag))
        (λ d. info.Data d) (λ d. refl) a ok
    role_written role.Xstats a ok = refl
    role_written role.PortKind a ok =
        name_written 4 (λ name. info.PortKind (port_kind_of_name name)) port_kind_owes.keeps a ok
    role_written (role.PortData tag) a ok =
        data_written 5 (layer.port_data_of (port_family_of tag)) layer.port_data_payload
        (law.port (port_family_of tag)) (λ d. info.PortData d) (λ d. refl) a ok
    role_written role.Misplaced a ok = absurd cc
    role_written role.Unknown a ok = refl

    -- the error of no attribute is `(Frame, 0, Memory)`
    pub link_no_memory : (t : CurrentKinds) (a : Attribute) → link_meaning layer t a
        ≢ Err memory_error
    link_no_memory t a =
        rows_no_memory family.LinkInfo link_other attribute (link_rows layer t) (link_owes t) a

    pub link_quarter : (t : CurrentKinds) (a : Attribute) → 4 * link_headers layer t a
        ≤ length a.value
    link_quarter t a =
        rows_quarter family.LinkInfo link_other attribute (link_rows layer t) (is_row t) keeps_other
        a

  -- ---- the current kinds after an attribute are those after its value

  after_role : (t : CurrentKinds) (a : Attribute) (r : Role) → role_at t a ≡ r →
      next_kinds t a ≡ or_stay t (kinds_after_role r t a)
  unfolding next_kinds
  after_role t a r e = ap (λ (s : Role). or_stay t (kinds_after_role s t a)) e

  meaning_role : (t : CurrentKinds) (a : Attribute) (r : Role) → role_at t a ≡ r →
      link_meaning layer t a ≡ row_meaning family.LinkInfo link_other (link_row layer r) a
  unfolding meaning_in
  meaning_role t a r e =
      ap (λ (s : Role). row_meaning family.LinkInfo link_other (link_row layer s) a) e

  good_same : (x y : LinkOf L) → good x ≡ good y → x ≡ y
  good_same x y e = cc

  pub name_read : (a : Attribute) (label : List ℕ → LinkOf L) (x : LinkOf L) →
      labelled family.LinkInfo (masked a.kind) label (own (means Name a.value)) ≡ Ok x →
      (name : List ℕ) × (name_meaning a ≡ Ok name) × (label name ≡ x)
  unfolding name_meaning
  name_read a label x e = go (means Name a.value) e
    where
      go : (r : Result (List ℕ) Cause) →
          labelled family.LinkInfo (masked a.kind) label (own r) ≡ Ok x →
          (name : List ℕ) × (name_or_error a r ≡ Ok name) × (label name ≡ x)
      go (Ok name) h = (name, refl, good_same (label name) x h)
      go (Err c) h = absurd cc

  inside_read : {D : Type 0} (a : Attribute) (label : D → LinkOf L) (r : Result D DecodeError)
      (x : LinkOf L) →
      labelled family.LinkInfo (masked a.kind) label (inside r) ≡ Ok x → (d : D) × (label d ≡ x)
  inside_read a label (Ok d) x e = (d, good_same (label d) x e)
  inside_read a label (Err f) x e = absurd cc

  role_next : (r : Role) (t : CurrentKinds) (a : Attribute) (x : LinkOf L) →
      row_meaning family.LinkInfo link_other (link_row layer r) a ≡ Ok x →
      or_stay t (kinds_after_role r t a) ≡ kinds_after_value t x
  role_next role.Kind t a x e =
      let n = name_read a (λ name. info.Kind (kind_of_name name)) x e in
      ap (λ (m : Result (List ℕ) DecodeError).
      or_stay t (with_name m (λ name. record { kind = Some (tag_of_name name); port = t.port })))
      n.1
      ∙ ap (λ (g : KindTag). let u : CurrentKinds = record { kind = Some g; port = t.port } in u)
      (sym (tag_of_kind-kind_of_name n.0))
      ∙ ap (λ (y : LinkOf L). kinds_after_value t y) n.2
  role_next role.PortKind t a x e =
      let n = name_read a (λ name. info.PortKind (port_kind_of_name name)) x e in
      ap (λ (m : Result (List ℕ) DecodeError).
      or_stay t
      (with_name m (λ name. record { kind = t.kind; port = Some (port_tag_of_name name) }))) n.1
      ∙ ap (λ (g : PortTag). let u : CurrentKinds = record { kind = t.kind; port = Some g } in u)
      (sym (tag_of_port_kind-port_kind_of_name n.0))
      ∙ ap (λ (y : LinkOf L). kinds_after_value t y) n.2
  role_next (role.Data tag) t a x e =
      let d = inside_read a (λ d. info.Data d) ((layer.data_of (family_of tag)).means a.value) x e
      in
      ap (λ (y : LinkOf L). kinds_after_value t y) d.1
  role_next role.Xstats t a x e = ap (λ (y : LinkOf L). kinds_after_value t y) (good_same _ x e)
  role_next (role.PortData tag) t a x e =
      let d =
      inside_read a (λ d. info.PortData d) ((layer.port_data_of (port_family_of tag)).means a.value)
      x
      e in ap (λ (y : LinkOf L). kinds_after_value t y) d.1
  role_next role.Misplaced t a x e = absurd cc
  role_next role.Unknown t a x e =
      ap (λ (y : LinkOf L). kinds_after_value t y) (good_same _ x e)

  pub link_next : (t : CurrentKinds) (a : Attribute) (x : LinkOf L) →
      link_meaning layer t a ≡ Ok x →
      next_kinds t a ≡ kinds_after_value t x
  link_next t a x e =
      after_role t a (role_at t a) refl
      ∙ role_next (role_at t a) t a x (sym (meaning_role t a (role_at t a) refl) ∙ e)

  -- ---- equivalent attributes leave the same current kinds

  names_same : (a b : Attribute) → masked b.kind ≡ masked a.kind →
      bytes_eq (stripped a.value) (stripped b.value) ≡ true → name_meaning a ≡ name_meaning b
  unfolding name_meaning
  names_same a b e h =
      let texts : stripped a.value ≡ stripped b.value =
      (bytes_eq-Decides (stripped a.value) (stripped b.value)).0 h in
      ap (λ (s : List ℕ). name_or_error a (text_of s)) texts
      ∙ error_same (text_of (stripped b.value))
    where
      error_same : (r : Result (List ℕ) Cause) → name_or_error a r ≡ name_or_error b r
      error_same (Ok name) = refl
      error_same (Err c) =
          ap (λ (n : ℕ). let f : Result (List ℕ) DecodeError =
          Err (record { family = family.LinkInfo; kind = n; cause = c }) in f) (sym e)

  pub same_role : (t : CurrentKinds) (a b : Attribute) → masked b.kind ≡ masked a.kind →
      role_at t b ≡ role_at t a
  same_role t a b e = ap (λ (n : ℕ). role_of t n) e

  pub role_alike_after : (r : Role) (t : CurrentKinds) (a b : Attribute) →
      row_alike (link_row layer r) a b ≡ true →
      (masked b.kind ≡ masked a.kind)
      × (or_stay t (kinds_after_role r t a) ≡ or_stay t (kinds_after_role r t b))
  role_alike_after role.Kind t a b h =
      let both =
      and_parts (eqb (masked b.kind) (masked a.kind))
      (bytes_eq (stripped a.value) (stripped b.value)) h in
      let e = eqb-true (masked b.kind) (masked a.kind) both.0 in (
        e,
        ap (λ (m : Result (List ℕ) DecodeError).
            or_stay t
            (with_name m (λ name. record { kind = Some (tag_of_name name); port = t.port })))
            (names_same a b e both.1),
      )
  role_alike_after role.PortKind t a b h =
      let both =
      and_parts (eqb (masked b.kind) (masked a.kind))
      (bytes_eq (stripped a.value) (stripped b.value)) h in
      let e = eqb-true (masked b.kind) (masked a.kind) both.0 in (
        e,
        ap (λ (m : Result (List ℕ) DecodeError).
            or_stay t (with_name m
            (λ name. record { kind = t.kind; port = Some (port_tag_of_name name) })))
            (names_same a b e both.1),
      )
  role_alike_after (role.Data tag) t a b h = (
    eqb-true _ _ (and_parts (eqb (masked b.kind) (masked a.kind))
        ((layer.data_of (family_of tag)).alike a.value b.value) h).0,
    refl,
  )
  role_alike_after role.Xstats t a b h = (
    eqb-true _ _ (and_parts (eqb (masked b.kind) (masked a.kind)) (bytes_eq a.value b.value) h).0,
    refl,
  )
  role_alike_after (role.PortData tag) t a b h = (
    eqb-true _ _ (and_parts (eqb (masked b.kind) (masked a.kind))
        ((layer.port_data_of (port_family_of tag)).alike a.value b.value) h).0,
    refl,
  )
  role_alike_after role.Misplaced t a b h = absurd cc
  role_alike_after role.Unknown t a b h = (
    ap masked (eqb-true _ _ (and_parts (eqb b.kind a.kind) (bytes_eq a.value b.value) h).0),
    refl,
  )

  pub link_alike_after : (t : CurrentKinds) (a b : Attribute) → link_alike layer t a b ≡ true →
      next_kinds t a ≡ next_kinds t b
  unfolding alike_in
  link_alike_after t a b h =
      let same = role_alike_after (role_at t a) t a b h in
      after_role t a (role_at t a) refl
      ∙ same.1
      ∙ sym (after_role t b (role_at t a) (same_role t a b same.0))
