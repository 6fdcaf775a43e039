-- What is built of link information is framed as its attributes, and its data reads back.
use Rattle.std.proofs.Common.{
  ◌≡◌,
  ◌<◌,
  ◌≤◌,
  ◌++◌,
  ℕ,
  Bool,
  true,
  false,
  cond,
  nat_eq,
  List,
  [],
  ◌∷◌,
  length,
  map,
  Option,
  Some,
  None,
  Result,
  Ok,
  Err,
  is_ok,
  refl,
  sym,
  ap,
  subst,
  ◌∙◌,
  arith,
}
use Rattle.std.proofs.lemmas.Bool.{eqb-true}
use Rattle.std.specs.List.{AllByRecursion}
use Rattle.nla_frame.specs.Attribute.{Attribute, IsAttribute, IsBytes, list_string}
use Rattle.nla_frame.specs.NlaItems.{nla_items}
use Rattle.nla_frame.proofs.ByteLists.{IsBytes-append, IsBytes-list_string, IsBytes-zeros}
use Rattle.nla_frame.proofs.Emitting.{length-list_string-cons}
use Rattle.nla_frame.proofs.Stepping.{nla_items-list_string}
use Rattle.linkinfo_build.specs.Build.{encoding}
use Rattle.linkinfo_build.specs.Link.{
  attributes_in,
  data_part,
  data_payload,
  kind_part,
  link_attributes,
  link_data_part,
  link_encoding,
  map_link,
  name_part,
  name_payload,
  of_values,
  pair_attributes,
  port_data_part,
  port_kind_part,
  there,
  values_payload,
}
use Rattle.linkinfo_build.specs.Forms.{data_form, port_data_form}
use Rattle.linkinfo_build.specs.LinkLaws.{
  IsDataIf,
  IsDataOf,
  IsHeldData,
  IsHeldName,
  IsListOfValues,
}
use Rattle.linkinfo_build.specs.Reading.{IsHeld}
use Rattle.linkinfo_build.specs.declared.forms.DataForm.{DataForm}
use Rattle.linkinfo_build.specs.declared.forms.DataForm.TheVariants as form
use Rattle.linkinfo_build.specs.declared.link.BuildData.{BuildData}
use Rattle.linkinfo_build.specs.declared.link.BuildData.TheVariants as given
use Rattle.linkinfo_build.specs.declared.link.BuildLink.{BuildLink}
use Rattle.linkinfo_build.specs.declared.link.LinkBuildError.{LinkBuildError}
use Rattle.linkinfo_build.specs.declared.link.PartCause.{PartCause}
use Rattle.linkinfo_build.specs.declared.link.PartCause.TheVariants as cause
use Rattle.linkinfo_build.specs.declared.rows.Rows.{Rows}
use Rattle.linkinfo_build.specs.declared.value.BuildError.{BuildError}
use Rattle.linkinfo_build.specs.declared.value.BuildValue.{BuildValue}
use Rattle.std.specs.Option.{option_copied}
use Rattle.linkinfo_build.proofs.LinkParts.{as_bytes, is_built, name_fits}
use Rattle.linkinfo_build.proofs.Reading.{canonical_list, encodes, items_are, values_are, whole}

good_same : (p q : List ℕ) → (let r : Result (List ℕ) PartCause = Ok p in r) ≡ Ok q → p ≡ q
good_same p q e = cc

-- ---- bytes of payloads

-- a type of 16 bits, and bytes
record IsSmall (a : Attribute) : Type 0 where
  pub kind : a.kind < 65536
  pub bytes : IsBytes a.value

one_small : (kind : ℕ) → kind < 65536 → (r : Result (List ℕ) PartCause) →
    ((p : List ℕ) → r ≡ Ok p → IsBytes p) →
    AllByRecursion IsSmall (attributes_in kind (there r))
one_small kind low (Ok p) h = (record { kind = low; bytes = h p refl }, tt)
one_small kind low (Err c) h = tt

name_small : (kind : ℕ) → kind < 65536 → (name : Option (List ℕ)) → IsHeldName name →
    AllByRecursion IsSmall (attributes_in kind (name_part name))
name_small kind low None h = tt
name_small kind low (Some name) h =
    one_small kind low (name_payload name)
    (λ p e.
    subst IsBytes
    (good_same (name ++ 0 ∷ []) p (sym (name_fits name (ap is_ok e)).0 ∙ e))
    (IsBytes-append name (0 ∷ []) h (IsBytes-zeros 1)))

-- ---- data

list_of_values : (rows : Rows) (values : List BuildValue) (p : List ℕ) →
    AllByRecursion IsHeld values → values_payload rows values ≡ Ok p →
    IsListOfValues rows values p × IsBytes p
list_of_values rows values p held h = go (encoding rows values) refl h
  where
    made : encoding rows values ≡ Ok p → IsListOfValues rows values p × IsBytes p
    made is =
        let e = encodes rows values p is in (
          record {
            encoded = is;
            reads_as = values_are rows values p held is;
            canonical = canonical_list rows values p held is;
          },
          subst IsBytes e.is (IsBytes-list_string e.attrs
              (whole rows values e.attrs held e.are).attributes),
        )

    go : (r : Result (List ℕ) BuildError) → encoding rows values ≡ r → of_values r ≡ Ok p →
        IsListOfValues rows values p × IsBytes p
    go (Ok q) is h =
        made (is ∙ ap (λ (s : List ℕ). Ok s) (good_same q p h))
    go (Err e) is h = absurd cc

-- what the payload of data is, and that it is bytes
pub data_is : (f : DataForm) (d : BuildData) (p : List ℕ) → IsHeldData (Some d) →
    data_payload f d ≡ Ok p → IsDataOf f d p × IsBytes p
unfolding data_payload
data_is form.NoKind d p held h = absurd cc
data_is (form.Attributes rows) (given.Values values) p held h =
    list_of_values rows values.now p held h
data_is (form.Attributes rows) (given.Bytes b) p held h = absurd cc
data_is (form.OneAttribute rows) (given.Values values) p held h =
    go (nat_eq (length values.now) 1) refl h
  where
    go : (b : Bool) → nat_eq (length values.now) 1 ≡ b →
        cond b (values_payload rows values.now) (Err cause.NotOne) ≡ Ok p →
        ((length values.now ≡ 1) × IsListOfValues rows values.now p) × IsBytes p
    go true e h =
        let l = list_of_values rows values.now p held h in
        ((eqb-true (length values.now) 1 e, l.0), l.1)
    go false e h = absurd cc
data_is (form.OneAttribute rows) (given.Bytes b) p held h = absurd cc
data_is form.Bytes (given.Values values) p held h = absurd cc
data_is form.Bytes (given.Bytes b) p held h =
    let same : b.now ≡ p =
    good_same b.now p (sym (as_bytes form.Bytes (given.Bytes b) b (ap is_ok h) refl) ∙ h) in
    (sym same, subst IsBytes same held)

data_small : (kind : ℕ) → kind < 65536 → (f : DataForm) (d : Option BuildData) → IsHeldData d →
    AllByRecursion IsSmall (attributes_in kind (data_part f d))
data_small kind low f None h = tt
data_small kind low f (Some d) h =
    one_small kind low (data_payload f d) (λ p e. (data_is f d p h e).1)

-- the payload of data that is there
pub data_part_is : (f : DataForm) (d : Option BuildData) (p : List ℕ) → IsHeldData d →
    data_part f d ≡ Ok (Some p) → IsDataIf f d p
data_part_is f None p held h = absurd cc
data_part_is f (Some d) p held h = (data_is f d p held (inside (data_payload f d) h)).0
  where
    inside : (r : Result (List ℕ) PartCause) → there r ≡ Ok (Some p) → r ≡ Ok p
    inside (Ok q) e = ap (λ (s : List ℕ). Ok s) (same q e)
      where
        same : (q : List ℕ) →
            (let r : Result (Option (List ℕ)) PartCause = Ok (Some q) in r) ≡ Ok (Some p) → q ≡ p
        same q e = cc
    inside (Err c) e = absurd cc

-- ---- the whole

both : (P : Attribute → Type 0) (xs ys : List Attribute) → AllByRecursion P xs →
    AllByRecursion P ys → AllByRecursion P (xs ++ ys)
both P [] ys h k = k
both P (x ∷ xs) ys h k = (h.0, both P xs ys h.1 k)

all_fit : (list : List Attribute) → length (list_string list) ≤ 65531 →
    AllByRecursion IsSmall list → AllByRecursion IsAttribute list
all_fit [] low h = tt
all_fit (a ∷ more) low h = (
  record {
    kind = h.0.kind;
    short = omega (arith, low, length-list_string-cons a more);
    bytes = h.0.bytes;
  },
  all_fit more (omega (arith, low, length-list_string-cons a more)) h.1,
)

-- the names and data of link information that a program can hold
pub record IsHeldLink (link : BuildLink) : Type 0 where
  pub kind : IsHeldName (option_copied link.kind)
  pub content : IsHeldData link.«data»
  pub port_kind : IsHeldName (option_copied link.port_kind)
  pub port_data : IsHeldData link.port_data

pub all_attributes : (link : BuildLink) (list : List Attribute) → IsHeldLink link →
    link_attributes link ≡ Ok list → AllByRecursion IsAttribute list
all_attributes link list held h =
    let b = is_built link list h in
    all_fit list b.short
    (subst (λ (l : List Attribute). AllByRecursion IsSmall l) (sym b.are)
    (both IsSmall (pair_attributes 1 2 (kind_part link) (link_data_part link))
    (pair_attributes 4 5 (port_kind_part link) (port_data_part link))
    (both IsSmall (attributes_in 1 (kind_part link)) (attributes_in 2 (link_data_part link))
    (name_small 1 (omega arith) (option_copied link.kind) held.kind)
    (data_small 2 (omega arith) (data_form (option_copied link.kind)) link.«data» held.content))
    (both IsSmall (attributes_in 4 (port_kind_part link)) (attributes_in 5 (port_data_part link))
    (name_small 4 (omega arith) (option_copied link.port_kind) held.port_kind)
    (data_small 5 (omega arith) (port_data_form (option_copied link.port_kind)) link.port_data
    held.port_data))))

pub link_framed : (link : BuildLink) (list : List Attribute) → IsHeldLink link →
    link_attributes link ≡ Ok list → nla_items (list_string list) ≡ map (λ a. Ok a) list
link_framed link list held h =
    nla_items-list_string list (all_attributes link list held h) ∙ items_are list

-- the attributes whose encoding it is
record LinkEncodes (link : BuildLink) (string : List ℕ) : Type 0 where
  pub list : List Attribute
  pub are : link_attributes link ≡ Ok list
  pub is : list_string list ≡ string

link_encodes : (link : BuildLink) (string : List ℕ) → link_encoding link ≡ Ok string →
    LinkEncodes link string
unfolding link_encoding
link_encodes link string h = go (link_attributes link) refl h
  where
    same : (p q : List ℕ) → (let r : Result (List ℕ) LinkBuildError = Ok p in r) ≡ Ok q → p ≡ q
    same p q e = cc

    go : (r : Result (List Attribute) LinkBuildError) → link_attributes link ≡ r →
        map_link list_string r ≡ Ok string → LinkEncodes link string
    go (Ok list) is h = record {
      list = list;
      are = is;
      is = same (list_string list) string h;
    }
    go (Err e) is h = absurd cc

pub string_bytes : (link : BuildLink) (string : List ℕ) → IsHeldLink link →
    link_encoding link ≡ Ok string → IsBytes string
string_bytes link string held h =
    let e = link_encodes link string h in
    subst IsBytes e.is (IsBytes-list_string e.list (all_attributes link e.list held e.are))

pub string_short : (link : BuildLink) (string : List ℕ) → link_encoding link ≡ Ok string →
    length string ≤ 65531
string_short link string h =
    let e = link_encodes link string h in
    omega (arith, ap length e.is, (is_built link e.list e.are).short)
