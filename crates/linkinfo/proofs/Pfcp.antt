-- What changed when `pfcp` gained a family: byte strings with data under it, and no others.
use Rattle.std.specs.Prelude.{
  ◌≡◌,
  ℕ,
  Bool,
  true,
  false,
  if◌then◌else◌,
  List,
  [],
  ◌∷◌,
  Result,
  Ok,
  Err,
  IsOk,
  refl,
}
use Rattle.std.proofs.Common.{sym, ap, subst, ◌∙◌}
use Rattle.std.proofs.lemmas.Bool.{and_parts, eqb-true}
use Rattle.nla_frame.specs.Attribute.{Attribute, masked}
use Rattle.nla_frame.specs.declared.error.DecodeError.{DecodeError}
use Rattle.nla_frame.specs.declared.error.Family.TheVariants as family
use Rattle.linkinfo_numbers.specs.declared.tags.KindTag.{KindTag}
use Rattle.linkinfo_numbers.specs.declared.tags.KindTag.TheVariants as tag
use Rattle.linkinfo_data.specs.declared.info_data.InfoDataOf.TheVariants as held
use Rattle.linkinfo.specs.declared.link_info.LinkInfoOf.TheVariants as info
use Rattle.linkinfo_data.specs.Data.{family_of}
use Rattle.linkinfo_data.specs.DataFamilies.{DataFamilies, DataTypes, data_families, data_types}
use Rattle.linkinfo_table.specs.EachAttribute.{list_accepts}
use Rattle.linkinfo_table.specs.Layers.{Families, Types}
use Rattle.linkinfo_data.specs.declared.data.DataFamily.{DataFamily}
use Rattle.linkinfo_data.specs.declared.data.DataFamily.TheVariants as of
use Rattle.linkinfo_table.specs.Lists.{◌>>=◌, values_under, alike_under}
use Rattle.linkinfo_table.specs.Rows.{alike_in, row_alike, row_meaning}
use Rattle.linkinfo.specs.BeforePfcp.{
  is_pfcp,
  row_before,
  meaning_before,
  alike_before,
  is_pfcp_data,
}
use Rattle.linkinfo.specs.Elsewhere.{NoneHas}
use Rattle.linkinfo.specs.Items.{data_row, link_alike, link_meaning, link_other, link_row}
use Rattle.linkinfo.specs.Roles.{role_at}
use Rattle.linkinfo.specs.Strings.{next_kinds, values_from, alike_from}
use Rattle.linkinfo.specs.Layered.{LinkOf}
use Rattle.linkinfo.specs.declared.role.CurrentKinds.{CurrentKinds}
use Rattle.linkinfo.specs.declared.role.Role.{Role}
use Rattle.linkinfo.specs.declared.role.Role.TheVariants as role
use Rattle.linkinfo.proofs.Elsewhere.{
  alike_first as first_elsewhere,
  alike_second as second_elsewhere,
}
use Rattle.linkinfo.proofs.Items.{link_alike_after, role_alike_after, same_role}
use Rattle.linkinfo.proofs.Steps.{meaning_is}

tag_is : (t : KindTag) → is_pfcp t ≡ true → t ≡ tag.Pfcp
tag_is tag.Pfcp e = refl
tag_is _ e = absurd cc

pub pfcp_role : (r : Role) → is_pfcp_data r ≡ true → r ≡ role.Data tag.Pfcp
pfcp_role (role.Data t) e = ap (λ (s : KindTag). let r : Role = role.Data s in r) (tag_is t e)
pfcp_role _ e = absurd cc

module _ {T : Types} (families : Families T) where
  abbrev L : DataTypes
  L = data_types T

  abbrev layer : DataFamilies L
  layer = data_families families

  pub bytes_before : (t : CurrentKinds) (a : Attribute) → role_at t a ≡ role.Data tag.Pfcp →
      meaning_before layer t a ≡ Ok (info.Data (held.Other a.value))
  bytes_before t a e =
      ap (λ (r : Role). row_meaning family.LinkInfo link_other (row_before layer r) a) e

  means_by : DataFamily → Attribute → Result (LinkOf L) DecodeError
  means_by f a = row_meaning family.LinkInfo link_other (data_row layer f) a

  alike_by : DataFamily → Attribute → Attribute → Bool
  alike_by f a b = row_alike (data_row layer f) a b

  chosen : (b : Bool) (f : DataFamily) → b ≡ false → (if b then of.Raw else f) ≡ f
  chosen true f e = absurd cc
  chosen false f e = refl

  role_means : (r : Role) (a : Attribute) → is_pfcp_data r ≡ false →
      row_meaning family.LinkInfo link_other (link_row layer r) a
      ≡ row_meaning family.LinkInfo link_other (row_before layer r) a
  role_means (role.Data t) a e =
      ap (λ (f : DataFamily). row_meaning family.LinkInfo link_other (data_row layer f) a)
      (sym (chosen (is_pfcp t) (family_of t) e))
  role_means role.Kind a e = refl
  role_means role.Xstats a e = refl
  role_means role.PortKind a e = refl
  role_means (role.PortData t) a e = refl
  role_means role.Misplaced a e = refl
  role_means role.Unknown a e = refl

  role_alike : (r : Role) (a b : Attribute) → is_pfcp_data r ≡ false →
      row_alike (link_row layer r) a b ≡ row_alike (row_before layer r) a b
  role_alike (role.Data t) a b e =
      ap (λ (f : DataFamily). row_alike (data_row layer f) a b)
      (sym (chosen (is_pfcp t) (family_of t) e))
  role_alike role.Kind a b e = refl
  role_alike role.Xstats a b e = refl
  role_alike role.PortKind a b e = refl
  role_alike (role.PortData t) a b e = refl
  role_alike role.Misplaced a b e = refl
  role_alike role.Unknown a b e = refl

  -- what is accepted was accepted before
  raw_or : (b : Bool) (f : DataFamily) (a : Attribute) →
      IsOk (row_meaning family.LinkInfo link_other (data_row layer f) a) →
      IsOk (row_meaning family.LinkInfo link_other (data_row layer (if b then of.Raw else f)) a)
  raw_or true f a ok = refl
  raw_or false f a ok = ok

  role_was : (r : Role) (a : Attribute) →
      IsOk (row_meaning family.LinkInfo link_other (link_row layer r) a) →
      IsOk (row_meaning family.LinkInfo link_other (row_before layer r) a)
  role_was (role.Data t) a ok = raw_or (is_pfcp t) (family_of t) a ok
  role_was role.Kind a ok = ok
  role_was role.Xstats a ok = ok
  role_was role.PortKind a ok = ok
  role_was (role.PortData t) a ok = ok
  role_was role.Misplaced a ok = ok
  role_was role.Unknown a ok = ok

  was : (t : CurrentKinds) (a : Attribute) → IsOk (link_meaning layer t a) →
      IsOk (meaning_before layer t a)
  was t a ok =
      role_was (role_at t a) a (subst (λ (m : Result (LinkOf L) DecodeError). IsOk m)
      (meaning_is layer t a (role_at t a) refl) ok)

  abbrev both : Result (LinkOf L) DecodeError → Result (List (LinkOf L)) DecodeError →
      Result (List (LinkOf L)) DecodeError
  both m v = m >>= λ x. v >>= λ xs. Ok (x ∷ xs)

  pub accepted_before : (t : CurrentKinds) (ps : List (Result Attribute ℕ)) →
      IsOk (values_from layer t ps) → IsOk (values_under (meaning_before layer) next_kinds t ps)
  accepted_before t ps e =
      list_accepts (link_meaning layer) next_kinds (meaning_before layer) was t ps e

  -- without data under `pfcp` nothing else is parsed
  means_same : (t : CurrentKinds) (a : Attribute) → is_pfcp_data (role_at t a) ≡ false →
      link_meaning layer t a ≡ meaning_before layer t a
  means_same t a e = meaning_is layer t a (role_at t a) refl ∙ role_means (role_at t a) a e

  pub read_before : (t : CurrentKinds) (ps : List (Result Attribute ℕ)) →
      NoneHas is_pfcp_data t ps →
      values_from layer t ps ≡ values_under (meaning_before layer) next_kinds t ps
  read_before t [] e = refl
  read_before t ((Err n) ∷ more) e = refl
  read_before t ((Ok a) ∷ more) e =
      ap (λ (m : Result (LinkOf L) DecodeError).
      both m (values_from layer (next_kinds t a) more)) (means_same t a e.0)
      ∙ ap (λ (v : Result (List (LinkOf L)) DecodeError). both (meaning_before layer t a) v)
      (read_before (next_kinds t a) more e.1)

  link_alike_is : (t : CurrentKinds) (a b : Attribute) →
      link_alike layer t a b ≡ row_alike (link_row layer (role_at t a)) a b
  unfolding alike_in
  link_alike_is t a b = refl

  alike_same : (t : CurrentKinds) (a b : Attribute) → is_pfcp_data (role_at t a) ≡ false →
      link_alike layer t a b ≡ alike_before layer t a b
  alike_same t a b e = link_alike_is t a b ∙ role_alike (role_at t a) a b e

  pub alike_first : (t : CurrentKinds) (ps qs : List (Result Attribute ℕ)) →
      NoneHas is_pfcp_data t ps →
      alike_from layer t ps qs ≡ alike_under (alike_before layer) next_kinds t ps qs
  alike_first t ps qs none =
      first_elsewhere is_pfcp_data (link_alike layer) (alike_before layer) alike_same t ps qs none

  -- equivalent attributes had one type before too, so data under `pfcp` as the second attribute
  -- changes nothing
  before_typed : (r : Role) (t : CurrentKinds) (a b : Attribute) →
      row_alike (row_before layer r) a b ≡ true → masked b.kind ≡ masked a.kind
  before_typed (role.Data s) t a b h = eqb-true _ _ (and_parts _ _ h).0
  before_typed role.Kind t a b h = (role_alike_after layer role.Kind t a b h).0
  before_typed role.Xstats t a b h = (role_alike_after layer role.Xstats t a b h).0
  before_typed role.PortKind t a b h = (role_alike_after layer role.PortKind t a b h).0
  before_typed (role.PortData s) t a b h = (role_alike_after layer (role.PortData s) t a b h).0
  before_typed role.Misplaced t a b h = (role_alike_after layer role.Misplaced t a b h).0
  before_typed role.Unknown t a b h = (role_alike_after layer role.Unknown t a b h).0

  now_typed : (t : CurrentKinds) (a b : Attribute) → link_alike layer t a b ≡ true →
      masked b.kind ≡ masked a.kind
  now_typed t a b h =
      (role_alike_after layer (role_at t a) t a b (sym (link_alike_is t a b) ∙ h)).0

  pub alike_second : (t : CurrentKinds) (ps qs : List (Result Attribute ℕ)) →
      NoneHas is_pfcp_data t qs →
      alike_from layer t ps qs ≡ alike_under (alike_before layer) next_kinds t ps qs
  alike_second t ps qs none =
      second_elsewhere is_pfcp_data (link_alike layer) (alike_before layer) alike_same
      now_typed
      (λ u a b h. before_typed (role_at u a) u a b h) (same_role layer) (link_alike_after layer) t
      ps qs none
