-- Link information, one part at a time.
use Rattle.std.proofs.Common.{
  ◌≡◌,
  ◌+◌,
  ◌-◌,
  ◌≤◌,
  ◌++◌,
  ℕ,
  Bool,
  true,
  false,
  cond,
  nat_eq,
  nat_le,
  List,
  [],
  ◌∷◌,
  length,
  take,
  drop,
  Option,
  Some,
  None,
  Result,
  Ok,
  Err,
  IsOk,
  is_ok,
  refl,
  sym,
  ap,
  subst,
  ◌∙◌,
  append_assoc,
  arith,
}
use Rattle.std.specs.List.{list_any}
use Rattle.std.proofs.lemmas.Bool.{cond-true, le-leb, leb-true}
use Rattle.std.proofs.lemmas.List.{append-nil, length-append, length-drop}
use Rattle.std.proofs.lemmas.List.Concat.{flat_map-append}
use borrow.Rule.Slice.PartMut.{put_mid}
use denote.Ref.{Bor}
use Rattle.nla_frame.specs.Attribute.{Attribute, buffer_len_of, canonical_string, list_string}
use Rattle.nla_frame.specs.Writing.{Writes, WritesAttribute}
use Rattle.nla_frame.proofs.Emitting.{
  Written,
  all_taken,
  all_written,
  length-canonical_string,
  length-list_string-cons,
  write_text,
}
use Rattle.linkinfo_shapes.specs.Data.{text, written}
use Rattle.linkinfo_shapes.specs.declared.shape.Shape.TheVariants.{Name}
use Rattle.linkinfo_build.specs.Build.{attributes_of, bytes_in, datum_payload, encoding, map_ok}
use Rattle.linkinfo_build.specs.Link.{
  attributes_in,
  attributes_there,
  data_part,
  data_payload,
  kind_part,
  link_attributes,
  link_bytes,
  link_data_part,
  link_encoding,
  link_len,
  map_link,
  name_payload,
  no_attributes,
  of_values,
  pair_attributes,
  part_len,
  payload_bytes,
  port_data_part,
  port_kind_part,
  there,
  values_payload,
  with_part,
  with_part_len,
}
use Rattle.linkinfo_build.specs.Suits.{is_suited}
use Rattle.linkinfo_build.specs.declared.forms.DataForm.{DataForm}
use Rattle.linkinfo_build.specs.declared.forms.DataForm.TheVariants as form
use Rattle.linkinfo_build.specs.declared.link.BuildData.{BuildData}
use Rattle.linkinfo_build.specs.declared.link.BuildData.TheVariants as given
use Rattle.linkinfo_build.specs.declared.link.BuildLink.{BuildLink}
use Rattle.linkinfo_build.specs.declared.link.LinkBuildError.{LinkBuildError}
use Rattle.linkinfo_build.specs.declared.link.LinkBuildError.TheVariants as refused
use Rattle.linkinfo_build.specs.declared.link.LinkPart.{LinkPart}
use Rattle.linkinfo_build.specs.declared.link.LinkPart.TheVariants as part
use Rattle.linkinfo_build.specs.declared.link.PartCause.{PartCause}
use Rattle.linkinfo_build.specs.declared.link.PartCause.TheVariants as cause
use Rattle.linkinfo_build.specs.declared.rows.Rows.{Rows}
use Rattle.linkinfo_build.specs.declared.value.BuildError.{BuildError}
use Rattle.linkinfo_build.specs.declared.value.BuildValue.{BuildValue}

string_append : (before after : List Attribute) →
    list_string (before ++ after) ≡ list_string before ++ list_string after
string_append before after = flat_map-append canonical_string before after

one_longer : (before : List Attribute) (a : Attribute) →
    length (list_string before) + buffer_len_of a ≡ length (list_string (before ++ a ∷ []))
one_longer before a = omega (
  arith,
  ap length (string_append before (a ∷ [])),
  length-append (list_string before) (list_string (a ∷ [])),
  length-list_string-cons a [],
)

-- ---- measured

abbrev size_of : List Attribute → ℕ
size_of attributes = length (list_string attributes)

part_measured : (before : Result (List Attribute) LinkBuildError) (part : LinkPart) (kind : ℕ)
    (payload : Result (Option (List ℕ)) PartCause) →
    with_part_len (map_link size_of before) part (part_len payload)
    ≡ map_link size_of (with_part before part kind payload)
part_measured (Err e) part kind payload = refl
part_measured (Ok before) part kind (Err c) = refl
part_measured (Ok before) part kind (Ok None) = refl
part_measured (Ok before) part kind (Ok (Some p)) = go (nat_le all 65531)
  where
    a : Attribute
    a = record { kind = kind; value = p }

    all : ℕ
    all = length (list_string before) + buffer_len_of a

    go : (b : Bool) →
        (let r : Result ℕ LinkBuildError = cond b (Ok all) (Err (refused.Part part cause.TooLong))
        in r)
        ≡ map_link size_of
        (cond b (Ok (before ++ a ∷ [])) (Err (refused.Part part cause.TooLong)))
    go true = ap (λ (n : ℕ). Ok n) (one_longer before a)
    go false = refl

mapped_twice : (r : Result (List Attribute) LinkBuildError) →
    map_link size_of r ≡ map_link length (map_link list_string r)
mapped_twice (Ok list) = refl
mapped_twice (Err e) = refl

-- the lengths of the parts give that of the whole
pub whole_measured : (link : BuildLink)
    (kind content port_kind port_data : Result (Option ℕ) PartCause) →
    kind ≡ part_len (kind_part link) → content ≡ part_len (link_data_part link) →
    port_kind ≡ part_len (port_kind_part link) → port_data ≡ part_len (port_data_part link) →
    with_part_len
    (with_part_len
    (with_part_len (with_part_len (Ok 0) part.Kind kind) part.Data content)
    part.PortKind port_kind)
    part.PortData port_data
    ≡ link_len (link_encoding link)
unfolding link_encoding link_attributes
whole_measured link kind content port_kind port_data k d pk pd =
    (λ i. with_part_len
    (with_part_len
    (with_part_len (with_part_len (Ok 0) part.Kind (k i)) part.Data (d i))
    part.PortKind (pk i))
    part.PortData (pd i))
    ∙ ap (λ (r : Result ℕ LinkBuildError). with_part_len
    (with_part_len
    (with_part_len r part.Data (part_len (link_data_part link)))
    part.PortKind (part_len (port_kind_part link)))
    part.PortData (part_len (port_data_part link)))
    (part_measured no_attributes part.Kind 1 (kind_part link))
    ∙ ap (λ (r : Result ℕ LinkBuildError). with_part_len
    (with_part_len r part.PortKind (part_len (port_kind_part link)))
    part.PortData (part_len (port_data_part link)))
    (part_measured (with_part no_attributes part.Kind 1 (kind_part link))
    part.Data 2 (link_data_part link))
    ∙ ap (λ (r : Result ℕ LinkBuildError). with_part_len r part.PortData
    (part_len (port_data_part link)))
    (part_measured
    (with_part (with_part no_attributes part.Kind 1 (kind_part link)) part.Data 2
    (link_data_part link)) part.PortKind 4 (port_kind_part link))
    ∙ part_measured
    (with_part
    (with_part (with_part no_attributes part.Kind 1 (kind_part link)) part.Data 2
    (link_data_part link)) part.PortKind 4 (port_kind_part link))
    part.PortData 5 (port_data_part link)
    ∙ mapped_twice _

-- ---- built

-- attributes with a part after them
record Grows (before : Result (List Attribute) LinkBuildError) (kind : ℕ)
    (payload : Result (Option (List ℕ)) PartCause) (all : List Attribute) : Type 0 where
  pub first : List Attribute
  pub is : before ≡ Ok first
  pub ok : IsOk payload
  pub are : all ≡ first ++ attributes_in kind payload
  pub short : size_of first ≤ 65531 → size_of all ≤ 65531

list_same : (a b : List Attribute) →
    (let r : Result (List Attribute) LinkBuildError = Ok a in r) ≡ Ok b → a ≡ b
list_same a b e = cc

grows : (before : Result (List Attribute) LinkBuildError) (part : LinkPart) (kind : ℕ)
    (payload : Result (Option (List ℕ)) PartCause) (all : List Attribute) →
    with_part before part kind payload ≡ Ok all → Grows before kind payload all
grows (Err e) part kind payload all h = absurd cc
grows (Ok first) part kind (Err c) all h = absurd cc
grows (Ok first) part kind (Ok None) all h =
    let same : first ≡ all = list_same first all h in
    record {
      first = first;
      is = refl;
      ok = refl;
      are = sym same ∙ sym (append-nil first);
      short = λ low. omega (arith, low, ap size_of same);
    }
grows (Ok first) part kind (Ok (Some p)) all h =
    go (nat_le (size_of first + buffer_len_of a) 65531) refl h
  where
    a : Attribute
    a = record { kind = kind; value = p }

    go : (b : Bool) → nat_le (size_of first + buffer_len_of a) 65531 ≡ b →
        (let r : Result (List Attribute) LinkBuildError =
        cond b (Ok (first ++ a ∷ [])) (Err (refused.Part part cause.TooLong)) in r)
        ≡ Ok all →
        Grows (Ok first) kind (Ok (Some p)) all
    go true e h =
        let same : first ++ a ∷ [] ≡ all = list_same (first ++ a ∷ []) all h in
        record {
          first = first;
          is = refl;
          ok = refl;
          are = sym same;
          short = λ low. omega (
            arith,
            ap size_of same,
            one_longer first a,
            leb-true (size_of first + buffer_len_of a) 65531 e,
          );
        }
    go false e h = absurd cc

-- what is built: the attributes of the parts
pub record IsBuilt (link : BuildLink) (attributes : List Attribute) : Type 0 where
  pub kind : IsOk (kind_part link)
  pub content : IsOk (link_data_part link)
  pub port_kind : IsOk (port_kind_part link)
  pub port_data : IsOk (port_data_part link)
  pub are : attributes ≡ attributes_there link
  pub short : size_of attributes ≤ 65531

pub is_built : (link : BuildLink) (attributes : List Attribute) →
    link_attributes link ≡ Ok attributes → IsBuilt link attributes
unfolding link_attributes
is_built link attributes h =
    let pd = grows _ part.PortData 5 (port_data_part link) attributes h in
    let pk = grows _ part.PortKind 4 (port_kind_part link) pd.first pd.is in
    let d = grows _ part.Data 2 (link_data_part link) pk.first pk.is in
    let k = grows no_attributes part.Kind 1 (kind_part link) d.first d.is in
    let none : [] ≡ k.first = list_same [] k.first k.is in
    let low : size_of k.first ≤ 65531 = omega (arith, ap size_of none) in
    record {
      kind = k.ok;
      content = d.ok;
      port_kind = pk.ok;
      port_data = pd.ok;
      are =
          pd.are
          ∙ ap (λ (l : List Attribute). l ++ attributes_in 5 (port_data_part link))
          (pk.are
          ∙ ap (λ (l : List Attribute). l ++ attributes_in 4 (port_kind_part link))
          (d.are
          ∙ ap (λ (l : List Attribute). l ++ attributes_in 2 (link_data_part link))
          (k.are
          ∙ ap (λ (l : List Attribute). l ++ attributes_in 1 (kind_part link)) (sym none))))
          ∙ append_assoc
          (attributes_in 1 (kind_part link) ++ attributes_in 2 (link_data_part link))
          (attributes_in 4 (port_kind_part link)) (attributes_in 5 (port_data_part link));
      short = pd.short (pk.short (d.short (k.short low)));
    }

-- ---- payloads

-- a name that is written
pub name_fits : (name : List ℕ) → IsOk (name_payload name) →
    (name_payload name ≡ Ok (name ++ 0 ∷ [])) × (length (name ++ 0 ∷ []) ≤ 65531)
unfolding name_payload
name_fits name h =
    go (list_any (λ b. nat_eq b 0) name) (nat_le (length (name ++ 0 ∷ [])) 65531) refl h
  where
    go : (b c : Bool) → nat_le (length (name ++ 0 ∷ [])) 65531 ≡ c →
        IsOk (let r : Result (List ℕ) PartCause =
        cond b (Err cause.Nul) (cond c (Ok (name ++ 0 ∷ [])) (Err cause.TooLong)) in r) →
        ((let r : Result (List ℕ) PartCause =
        cond b (Err cause.Nul) (cond c (Ok (name ++ 0 ∷ [])) (Err cause.TooLong)) in r)
        ≡ Ok (name ++ 0 ∷ [])) × (length (name ++ 0 ∷ []) ≤ 65531)
    go true c e h = absurd cc
    go false true e h = (refl, leb-true (length (name ++ 0 ∷ [])) 65531 e)
    go false false e h = absurd cc

pub name_bytes : (name : List ℕ) → IsOk (name_payload name) →
    payload_bytes (name_payload name) ≡ name ++ 0 ∷ []
name_bytes name h = ap payload_bytes (name_fits name h).0

-- .. is written as a datum is
pub name_datum : (name : List ℕ) → IsOk (name_payload name) →
    datum_payload (Some Name) (text name) ≡ Ok (name ++ 0 ∷ [])
unfolding is_suited written
name_datum name h =
    cond-true (nat_le (length (name ++ 0 ∷ [])) 65531) _ _
    (le-leb (length (name ++ 0 ∷ [])) 65531 (name_fits name h).1)

pub name_same : (name : List ℕ) → IsOk (name_payload name) →
    bytes_in (datum_payload (Some Name) (text name)) ≡ payload_bytes (name_payload name)
name_same name h = ap bytes_in (name_datum name h) ∙ sym (name_bytes name h)

-- the values of a list that is written
pub record AreListed (rows : Rows) (values : List BuildValue) : Type 0 where
  pub attributes : IsOk (attributes_of rows values)
  pub bytes : bytes_in (encoding rows values) ≡ payload_bytes (values_payload rows values)

pub listed : (rows : Rows) (values : List BuildValue) → IsOk (values_payload rows values) →
    AreListed rows values
unfolding encoding
listed rows values h = go (attributes_of rows values) refl h
  where
    given_by : Result (List Attribute) BuildError → Result (List ℕ) PartCause
    given_by r = of_values (map_ok list_string r)

    go : (r : Result (List Attribute) BuildError) → attributes_of rows values ≡ r →
        IsOk (given_by r) → AreListed rows values
    go (Ok list) is h = record {
      attributes = ap is_ok is;
      bytes =
          ap (λ (r : Result (List Attribute) BuildError). bytes_in (map_ok list_string r)) is
          ∙ sym
          (ap (λ (r : Result (List Attribute) BuildError). payload_bytes (given_by r)) is);
    }
    go (Err e) is h = absurd cc

-- data by values: the rows that it has
pub one_listed : (rows : Rows) (values : Bor (List BuildValue)) →
    IsOk (data_payload (form.OneAttribute rows) (given.Values values)) →
    data_payload (form.OneAttribute rows) (given.Values values)
    ≡ values_payload rows values.now
unfolding data_payload
one_listed rows values h = go (nat_eq (length values.now) 1) h
  where
    go : (b : Bool) →
        IsOk (cond b (values_payload rows values.now) (Err cause.NotOne)) →
        cond b (values_payload rows values.now) (Err cause.NotOne)
        ≡ values_payload rows values.now
    go true h = refl
    go false h = absurd cc

pub many_listed : (rows : Rows) (values : Bor (List BuildValue)) →
    data_payload (form.Attributes rows) (given.Values values) ≡ values_payload rows values.now
unfolding data_payload
many_listed rows values = refl

pub as_listed : (f : DataForm) (d : BuildData) (rows : Rows) (values : Bor (List BuildValue)) →
    f ≡ form.Attributes rows → d ≡ given.Values values →
    data_payload f d ≡ values_payload rows values.now
as_listed f d rows values this that =
    (λ i. data_payload (this i) (that i)) ∙ many_listed rows values

pub as_one_listed : (f : DataForm) (d : BuildData) (rows : Rows) (values : Bor (List BuildValue)) →
    IsOk (data_payload f d) → f ≡ form.OneAttribute rows → d ≡ given.Values values →
    data_payload f d ≡ values_payload rows values.now
as_one_listed f d rows values h this that =
    let same : data_payload f d ≡ data_payload (form.OneAttribute rows) (given.Values values) =
    (λ i. data_payload (this i) (that i)) in
    same
    ∙ one_listed rows values (subst (λ (r : Result (List ℕ) PartCause). IsOk r) same h)

-- .. and not without a kind, or if it is bytes
pub no_kind : (f : DataForm) (d : BuildData) (values : Bor (List BuildValue)) →
    IsOk (data_payload f d) → f ≡ form.NoKind → d ≡ given.Values values → ⊥
unfolding data_payload
no_kind f d values h this that =
    go (subst (λ (r : Result (List ℕ) PartCause). IsOk r)
    (λ i. data_payload (this i) (that i)) h)
  where
    go : IsOk (data_payload form.NoKind (given.Values values)) → ⊥
    go h = absurd cc

pub no_bytes : (f : DataForm) (d : BuildData) (values : Bor (List BuildValue)) →
    IsOk (data_payload f d) → f ≡ form.Bytes → d ≡ given.Values values → ⊥
unfolding data_payload
no_bytes f d values h this that =
    go (subst (λ (r : Result (List ℕ) PartCause). IsOk r)
    (λ i. data_payload (this i) (that i)) h)
  where
    go : IsOk (data_payload form.Bytes (given.Values values)) → ⊥
    go h = absurd cc

-- data by bytes
pub bytes_alone : (f : DataForm) (b : Bor (List ℕ)) →
    IsOk (data_payload f (given.Bytes b)) → data_payload f (given.Bytes b) ≡ Ok b.now
unfolding data_payload
bytes_alone form.NoKind b h = absurd cc
bytes_alone (form.Attributes rows) b h = absurd cc
bytes_alone (form.OneAttribute rows) b h = absurd cc
bytes_alone form.Bytes b h = go (nat_le (length b.now) 65531) h
  where
    go : (c : Bool) →
        IsOk (let r : Result (List ℕ) PartCause = cond c (Ok b.now) (Err cause.TooLong) in r) →
        (let r : Result (List ℕ) PartCause = cond c (Ok b.now) (Err cause.TooLong) in r)
        ≡ Ok b.now
    go true h = refl
    go false h = absurd cc

pub as_bytes : (f : DataForm) (d : BuildData) (b : Bor (List ℕ)) → IsOk (data_payload f d) →
    d ≡ given.Bytes b → data_payload f d ≡ Ok b.now
as_bytes f d b h that =
    let same : data_payload f d ≡ data_payload f (given.Bytes b) =
    ap (λ (x : BuildData). data_payload f x) that in
    same ∙ bytes_alone f b (subst (λ (r : Result (List ℕ) PartCause). IsOk r) same h)

-- ---- the attribute of a part that is there

pub record IsThere (kind : ℕ) (payload : Result (List ℕ) PartCause) : Type 0 where
  pub ok : IsOk payload
  pub string : list_string (attributes_in kind (there payload))
      ≡ canonical_string (record { kind = kind; value = payload_bytes payload })
  pub size : buffer_len_of (record { kind = kind; value = payload_bytes payload })
      ≡ length (list_string (attributes_in kind (there payload)))

pub is_there : (kind : ℕ) (payload : Result (List ℕ) PartCause) → IsOk (there payload) →
    IsThere kind payload
is_there kind (Err c) h = absurd cc
is_there kind (Ok p) h =
    let a : Attribute = record { kind = kind; value = p } in
    record {
      ok = refl;
      string = append-nil (canonical_string a);
      size =
          sym (length-canonical_string a) ∙ sym (ap length (append-nil (canonical_string a)));
    }

-- an attribute is written as its string
pub writes_there : (kind : ℕ) (payload : Result (List ℕ) PartCause) (old new : List ℕ) (n : ℕ) →
    IsThere kind payload →
    WritesAttribute (record { kind = kind; value = payload_bytes payload }) old new n →
    Writes (list_string (attributes_in kind (there payload))) old new n
writes_there kind payload old new n t w = record {
  taken = w.taken ∙ t.size;
  written =
      w.written
      ∙ (λ i. sym t.string i ++ drop (t.size i) old);
}

-- ---- two strings, one after the other

pub writes_two : (first second old mid chunk : List ℕ) (n m k : ℕ) → Writes first old mid n →
    k ≡ length mid - n → Writes second (take k (drop n mid)) chunk m →
    length (first ++ second) ≤ length old →
    Writes (first ++ second) old (put_mid n k mid chunk) (n + m)
writes_two first second old mid chunk n m k one wide two room =
    let long : n ≡ length first = one.taken in
    let front : take n mid ≡ first =
    ap (λ (b : List ℕ). take n b) one.written
    ∙ ap (λ (j : ℕ). take j (first ++ drop (length first) old)) long
    ∙ take_front first (drop (length first) old) in
    let kept : drop n mid ≡ drop n old =
    ap (λ (b : List ℕ). drop n b) one.written
    ∙ ap (λ (j : ℕ). drop j (first ++ drop (length first) old)) long
    ∙ drop_front first (drop (length first) old)
    ∙ ap (λ (j : ℕ). drop j old) (sym long) in
    let before : Written (first ++ second) second n old mid =
    record {
      place = omega (arith, long, length-append first second);
      kept = kept;
      written = ap (λ (b : List ℕ). b ++ second) front;
    } in
    let size : length mid ≡ length old =
    ap length one.written
    ∙ length_kept first old (omega (arith, room, length-append first second)) in
    let after =
    write_text (first ++ second) second second [] n old mid before (sym (append-nil second))
    (omega (arith, room, size)) m two.taken k wide chunk
    (two.written
    ∙ ap (λ (j : ℕ). second ++ drop j (take k (drop n mid))) (sym two.taken)) in
    record {
      taken = all_taken (first ++ second) [] (n + m) old _ after refl;
      written = all_written (first ++ second) [] (n + m) old _ after refl;
    }
  where
    take_front : (xs ys : List ℕ) → take (length xs) (xs ++ ys) ≡ xs
    take_front [] ys = refl
    take_front (x ∷ xs) ys = ap (λ (l : List ℕ). x ∷ l) (take_front xs ys)

    drop_front : (xs ys : List ℕ) → drop (length xs) (xs ++ ys) ≡ ys
    drop_front [] ys = refl
    drop_front (x ∷ xs) ys = drop_front xs ys

    length_kept : (xs ys : List ℕ) → length xs ≤ length ys →
        length (xs ++ drop (length xs) ys) ≡ length ys
    length_kept xs ys le =
        omega (arith, le, length-append xs (drop (length xs) ys), length-drop (length xs) ys)

-- the string of a name and of data, under one form of data
pub same_pair : (name_kind data_kind : ℕ) (name : Result (Option (List ℕ)) PartCause)
    (d : Option BuildData) (f g : DataForm) → f ≡ g →
    list_string (pair_attributes name_kind data_kind name (data_part f d))
    ≡ list_string (pair_attributes name_kind data_kind name (data_part g d))
same_pair name_kind data_kind name d f g same =
    ap (λ (h : DataForm). list_string
    (pair_attributes name_kind data_kind name (data_part h d))) same

-- what is built, if something is
pub record Built (link : BuildLink) : Type 0 where
  pub attributes : List Attribute
  pub is : link_attributes link ≡ Ok attributes
  pub parts : IsBuilt link attributes

pub built : (link : BuildLink) → IsOk (link_attributes link) → Built link
built link h = go (link_attributes link) refl h
  where
    go : (r : Result (List Attribute) LinkBuildError) → link_attributes link ≡ r → IsOk r →
        Built link
    go (Ok list) is h = record {
      attributes = list;
      is = is;
      parts = is_built link list is;
    }
    go (Err e) is h = absurd cc

-- the strings of both pairs
pub link_string : (link : BuildLink) → IsOk (link_attributes link) →
    list_string (pair_attributes 1 2 (kind_part link) (link_data_part link))
    ++ list_string (pair_attributes 4 5 (port_kind_part link) (port_data_part link))
    ≡ link_bytes (link_encoding link)
unfolding link_encoding
link_string link h =
    let b = built link h in
    sym (string_append (pair_attributes 1 2 (kind_part link) (link_data_part link))
    (pair_attributes 4 5 (port_kind_part link) (port_data_part link)))
    ∙ ap list_string (sym b.parts.are)
    ∙ ap (λ (r : Result (List Attribute) LinkBuildError). link_bytes (map_link list_string r))
    (sym b.is)

pub link_size : (link : BuildLink) → IsOk (link_attributes link) →
    length (list_string (pair_attributes 1 2 (kind_part link) (link_data_part link)))
    + length (list_string (pair_attributes 4 5 (port_kind_part link) (port_data_part link)))
    ≡ length (link_bytes (link_encoding link))
link_size link h =
    sym (length-append
    (list_string (pair_attributes 1 2 (kind_part link) (link_data_part link)))
    (list_string (pair_attributes 4 5 (port_kind_part link) (port_data_part link))))
    ∙ ap length (link_string link h)

pub link_short : (link : BuildLink) → IsOk (link_attributes link) →
    length (link_bytes (link_encoding link)) ≤ 65531
unfolding link_encoding
link_short link h =
    let b = built link h in
    omega (
      arith,
      b.parts.short,
      ap (λ (r : Result (List Attribute) LinkBuildError).
          length (link_bytes (map_link list_string r))) b.is,
    )

pub link_ok : (link : BuildLink) (n : ℕ) → link_len (link_encoding link) ≡ Ok n →
    IsOk (link_attributes link)
unfolding link_encoding
link_ok link n h = go (link_attributes link) h
  where
    go : (r : Result (List Attribute) LinkBuildError) →
        map_link length (map_link list_string r) ≡ Ok n → IsOk r
    go (Ok list) h = refl
    go (Err e) h = absurd cc
