-- The laws of whole byte strings. What is parsed is well formed, and a canonical encoding parses
-- back exactly when its list is well formed. Byte strings parse one after another, and equivalent
-- ones mean equal lists.
use Rattle.std.proofs.Common.{
  ◌≡◌,
  ℕ,
  zero,
  suc,
  ◌*◌,
  ◌≤◌,
  ◌%◌,
  Bool,
  true,
  false,
  Decides,
  List,
  [],
  ◌∷◌,
  ◌++◌,
  length,
  map,
  refl,
  sym,
  ap,
  subst,
  ◌∙◌,
  Result,
  Ok,
  Err,
  Option,
  Some,
  None,
}
use Rattle.std.specs.Prelude.{◌≢◌, ◌↔◌, IfOk, IsOk, IsTrue}
use Rattle.std.specs.List.{AllByRecursion}
use Rattle.nla_frame.specs.Answers.{verdict}
use Rattle.nla_frame.specs.Attribute.{Attribute, IsBytes, Fits, list_string, masked}
use Rattle.nla_frame.specs.Error.{memory_error}
use Rattle.nla_frame.specs.NlaItems.{nla_items}
use Rattle.nla_frame.specs.declared.error.Family.TheVariants as family
use Rattle.nla_frame.specs.declared.error.DecodeError.{DecodeError}
use Rattle.nla_frame.proofs.ByteLists.{IsBytes-nil, IsBytes-cons}
use Rattle.linkinfo_numbers.specs.declared.tags.KindTag.{KindTag}
use Rattle.linkinfo_numbers.specs.declared.tags.PortTag.{PortTag}
use Rattle.linkinfo_numbers.specs.Kind.{tag_of_name}
use Rattle.linkinfo_numbers.specs.PortKind.{port_tag_of_name}
use Rattle.linkinfo_data.specs.DataFamilies.{DataFamilies, DataTypes}
use Rattle.linkinfo_data.specs.Lawful.{AreLawful}
use Rattle.linkinfo_table.specs.ListLaws.{
  no_memory,
  quarter,
  lists_alike,
  read_is_well,
  well_is_read,
  canonical_law,
  append_law,
}
use Rattle.linkinfo_table.specs.Rows.{meaning_in, row_meaning}
use Rattle.linkinfo.specs.Layered.{LinkOf}
use Rattle.linkinfo.specs.declared.role.CurrentKinds.{CurrentKinds}
use Rattle.linkinfo.specs.declared.role.Role.{Role}
use Rattle.linkinfo.specs.declared.role.Role.TheVariants as role
use Rattle.linkinfo.specs.Comparing.{same_answer, same_at_answer}
use Rattle.linkinfo.specs.declared.placed.ErrorIn.{ErrorIn}
use Rattle.linkinfo.specs.Items.{
  link_attribute,
  link_headers,
  link_meaning,
  link_alike,
  link_well,
  link_row,
  link_other,
}
use Rattle.linkinfo.specs.Roles.{
  kinds_after_role,
  name_meaning,
  no_kinds,
  role_of,
  role_under,
  with_name,
}
use Rattle.linkinfo.specs.Strings.{
  or_stay,
  next_kinds,
  kinds_after_value,
  headers_from,
  reading,
  alike_strings,
  WellFormed,
}
use Rattle.linkinfo.proofs.Items.{
  link_alike_is,
  link_no_memory,
  link_read_well,
  link_well_reads,
  link_well_attribute,
  link_quarter,
  link_next,
  link_alike_after,
  unknown_from_six,
}

IsBytes-left : (x y : List ℕ) → IsBytes (x ++ y) → IsBytes x
IsBytes-left [] y h = IsBytes-nil
IsBytes-left (b ∷ x) y h = IsBytes-cons b x (h 0) (IsBytes-left x y (λ i. h (suc i)))

IsBytes-right : (x y : List ℕ) → IsBytes (x ++ y) → IsBytes y
IsBytes-right [] y h = h
IsBytes-right (b ∷ x) y h = IsBytes-right x y (λ i. h (suc i))

module _ {L : DataTypes} (layer : DataFamilies L) (law : AreLawful layer) where
  abbrev attribute : LinkOf L → Attribute
  attribute = link_attribute layer

  -- at most a quarter of the bytes are headers
  pub quarter_from : (t : CurrentKinds) (s : List ℕ) →
      4 * headers_from layer t (nla_items s) ≤ length s
  quarter_from t s =
      quarter (link_meaning layer) next_kinds (link_headers layer) (link_quarter layer law) s t

  pub reading_is_well : (s : List ℕ) (xs : List (LinkOf L)) → IsBytes s →
      reading layer s ≡ Ok xs → WellFormed layer xs
  unfolding reading
  reading_is_well s xs bytes e =
      read_is_well (link_meaning layer) next_kinds attribute (link_well layer) kinds_after_value
      (link_read_well layer law) (λ t a x _. link_next layer t a x) (link_well_reads layer law)
      (link_well_attribute layer law) no_kinds s xs bytes e

  pub canonical_reading : (s : List ℕ) (xs : List (LinkOf L)) → IsBytes s →
      AllByRecursion Fits (map attribute xs) → s ≡ list_string (map attribute xs) →
      (reading layer s ≡ Ok xs) ↔ WellFormed layer xs
  unfolding reading
  canonical_reading s xs bytes fits e =
      canonical_law (link_meaning layer) next_kinds attribute (link_well layer) kinds_after_value
      (link_read_well layer law) (λ t a x _. link_next layer t a x) (link_well_reads layer law)
      (link_well_attribute layer law) no_kinds s xs bytes fits e

  -- what is parsed, serialized and parsed again is unchanged
  pub well_reading : (xs : List (LinkOf L)) → WellFormed layer xs →
      AllByRecursion Fits (map attribute xs) → reading layer (list_string (map attribute xs)) ≡ Ok
      xs
  unfolding reading
  well_reading xs w fits =
      well_is_read (link_meaning layer) next_kinds attribute (link_well layer) kinds_after_value
      (link_read_well layer law) (λ t a x _. link_next layer t a x) (link_well_reads layer law)
      (link_well_attribute layer law) no_kinds xs w fits

  -- ---- no byte string has the error (Frame, 0, Memory), and no call that does not allocate
  -- returns it

  pub reading_no_memory : (s : List ℕ) → reading layer s ≢ Err memory_error
  unfolding reading
  reading_no_memory s =
      no_memory (link_meaning layer) next_kinds (link_no_memory layer law) no_kinds (nla_items s)

  pub rejected_no_memory : (s : List ℕ) (e : DecodeError) → reading layer s ≡ Err e →
      e ≢ memory_error
  rejected_no_memory s e is h = reading_no_memory s (is ∙ ap (λ (d : DecodeError). Err d) h)

  pub checked_no_memory : (s : List ℕ) (r : Result (Unit {0}) DecodeError) →
      r ≡ verdict (reading layer s) → r ≢ Err memory_error
  checked_no_memory s r e h = go (reading layer s) (reading_no_memory s) (sym e ∙ h)
    where
      go : (m : Result (List (LinkOf L)) DecodeError) → m ≢ Err memory_error →
          verdict m ≢ Err memory_error
      go (Ok xs) never k = absurd cc
      go (Err d) never k =
          let same : d ≡ memory_error = cc in never (ap (λ (z : DecodeError). Err z) same)

  -- ---- equivalent byte strings

  pub strings_alike : (p q : List ℕ) (xs ys : List (LinkOf L)) → IsBytes p → IsBytes q →
      reading layer p ≡ Ok xs → reading layer q ≡ Ok ys →
      (alike_strings layer p q ≡ true) ↔ (xs ≡ ys)
  unfolding reading alike_strings
  strings_alike p q xs ys bp bq h k =
      lists_alike (link_meaning layer) next_kinds (link_alike layer) (link_alike_is layer law)
      (link_alike_after layer) no_kinds p q xs ys bp bq h k

  abbrev ok_of : {A : Type 0} → A → Result A DecodeError
  ok_of x = Ok x

  ok_same : {A : Type 0} (x y : A) → ok_of x ≡ ok_of y → x ≡ y
  ok_same x y e = cc

  -- whether two accepted byte strings are equivalent is whether they mean equal lists
  pub same_reading : (p q : List ℕ) (r : Bool) → IsBytes p → IsBytes q → IsOk (reading layer p) →
      IsOk (reading layer q) → r ≡ alike_strings layer p q →
      IsTrue r ↔ (reading layer p ≡ reading layer q)
  same_reading p q r bp bq u v e = go (reading layer p) (reading layer q) refl refl u v
    where
      go : (s t : Result (List (LinkOf L)) DecodeError) → reading layer p ≡ s →
          reading layer q ≡ t → IsOk s → IsOk t → IsTrue r ↔ (s ≡ t)
      go (Ok xs) (Ok ys) h k i j =
          let both = strings_alike p q xs ys bp bq h k in (
            λ d. ap (λ (zs : List (LinkOf L)). ok_of zs) (both.0 (sym e ∙ d)),
            λ d. e ∙ both.1 (ok_same xs ys d),
          )
      go (Ok xs) (Err d) h k i j = absurd cc
      go (Err d) t h k i j = absurd cc

  -- if both lists fit, equivalent byte strings are those with one canonical encoding
  pub same_canonical : (p q : List ℕ) (xs ys : List (LinkOf L)) → IsBytes p → IsBytes q →
      reading layer p ≡ Ok xs → reading layer q ≡ Ok ys →
      AllByRecursion Fits (map attribute xs) → AllByRecursion Fits (map attribute ys) →
      (alike_strings layer p q ≡ true)
      ↔ (list_string (map attribute xs) ≡ list_string (map attribute ys))
  same_canonical p q xs ys bp bq h k f g =
      let both = strings_alike p q xs ys bp bq h k in
      let rx = well_reading xs (reading_is_well p xs bp h) f in
      let ry = well_reading ys (reading_is_well q ys bq k) g in (
        λ d. ap (λ (zs : List (LinkOf L)). list_string (map attribute zs)) (both.0 d),
        λ d. both.1 (ok_same xs ys (sym rx ∙ ap (reading layer) d ∙ ry)),
      )

  -- ---- the result of a comparison

  pub same_equal : (p q : List ℕ) (r : Result Bool DecodeError) → IsBytes p → IsBytes q →
      r ≡ same_answer (reading layer p) (reading layer q) (alike_strings layer p q) →
      IfOk r (λ same. IsTrue same ↔ (reading layer p ≡ reading layer q))
  same_equal p q r bp bq e =
      subst (λ (z : Result Bool DecodeError).
      IfOk z (λ same. IsTrue same ↔ (reading layer p ≡ reading layer q))) (sym e)
      (go (reading layer p) (reading layer q) refl refl)
    where
      go : (s t : Result (List (LinkOf L)) DecodeError) → reading layer p ≡ s →
          reading layer q ≡ t →
          IfOk (same_answer s t (alike_strings layer p q))
          (λ same. IsTrue same ↔ (reading layer p ≡ reading layer q))
      go (Ok xs) (Ok ys) h k =
          same_reading p q (alike_strings layer p q) bp bq
          (subst (λ (z : Result (List (LinkOf L)) DecodeError). IsOk z) (sym h) refl)
          (subst (λ (z : Result (List (LinkOf L)) DecodeError). IsOk z) (sym k) refl) refl
      go (Ok xs) (Err d) h k = tt
      go (Err d) t h k = tt

  -- equal byte strings, of which the first has this verdict
  pub same_of_equal : (p q : List ℕ) → IsBytes p → IsBytes q → p ≡ q →
      Ok tt ≡ verdict (reading layer p) →
      Ok true ≡ same_at_answer (reading layer p) (reading layer q) (alike_strings layer p q)
  same_of_equal p q bp bq e accepted = go (reading layer p) (reading layer q) refl refl accepted
    where
      go : (s t : Result (List (LinkOf L)) DecodeError) → reading layer p ≡ s →
          reading layer q ≡ t → Ok tt ≡ verdict s →
          Ok true ≡ same_at_answer s t (alike_strings layer p q)
      go (Ok xs) (Ok ys) h k v =
          let lists : xs ≡ ys = ok_same xs ys (sym h ∙ ap (reading layer) e ∙ k) in
          ap (λ (b : Bool). let r : Result Bool ErrorIn = Ok b in r)
          (sym ((strings_alike p q xs ys bp bq h k).1 lists))
      go (Ok xs) (Err d) h k v = absurd (apart (sym h ∙ ap (reading layer) e ∙ k))
        where
          apart : ok_of xs ≡ Err d → ⊥
          apart z = cc
      go (Err d) t h k v = absurd cc

  pub same_answered : (p q : List ℕ) (r : Result Bool DecodeError) (xs ys : List (LinkOf L)) →
      IsBytes p → IsBytes q →
      r ≡ same_answer (reading layer p) (reading layer q) (alike_strings layer p q) →
      reading layer p ≡ Ok xs → reading layer q ≡ Ok ys →
      AllByRecursion Fits (map attribute xs) → AllByRecursion Fits (map attribute ys) →
      IfOk r
      (λ same. IsTrue same ↔ (list_string (map attribute xs) ≡ list_string (map attribute ys)))
  same_answered p q r xs ys bp bq e h k f g =
      subst (λ (z : Result Bool DecodeError).
      IfOk z
      (λ same. IsTrue same ↔ (list_string (map attribute xs) ≡ list_string (map attribute ys))))
      (sym (e
      ∙ ap (λ (s : Result (List (LinkOf L)) DecodeError).
      same_answer s (reading layer q) (alike_strings layer p q)) h
      ∙ ap (λ (t : Result (List (LinkOf L)) DecodeError).
      same_answer (ok_of xs) t (alike_strings layer p q)) k))
      (same_canonical p q xs ys bp bq h k f g)

  list_same : (xs ys : List (LinkOf L)) → ok_of xs ≡ ok_of ys → xs ≡ ys
  list_same xs ys e = cc

  same_truth : (a b : Bool) → (a ≡ true → b ≡ true) → (b ≡ true → a ≡ true) → a ≡ b
  same_truth true true f g = refl
  same_truth true false f g = sym (f refl)
  same_truth false true f g = g refl
  same_truth false false f g = refl

  -- if both are accepted, the result is that of `==` on the two lists
  pub same_values : (p q : List ℕ) (r : Result Bool DecodeError) (xs ys : List (LinkOf L))
      (b : Bool) → IsBytes p → IsBytes q →
      r ≡ same_answer (reading layer p) (reading layer q) (alike_strings layer p q) →
      reading layer p ≡ Ok xs → reading layer q ≡ Ok ys → Decides b (xs ≡ ys) → r ≡ Ok b
  same_values p q r xs ys b bp bq e h k d =
      let is : r ≡ Ok (alike_strings layer p q) =
      e
      ∙ ap (λ (s : Result (List (LinkOf L)) DecodeError).
      same_answer s (reading layer q) (alike_strings layer p q)) h
      ∙ ap (λ (t : Result (List (LinkOf L)) DecodeError).
      same_answer (ok_of xs) t (alike_strings layer p q)) k in
      let equal : IsTrue (alike_strings layer p q) ↔ (reading layer p ≡ reading layer q) =
      subst (λ (z : Result Bool DecodeError).
      IfOk z (λ same. IsTrue same ↔ (reading layer p ≡ reading layer q))) is
      (same_equal p q r bp bq e) in
      is
      ∙ ap (λ (z : Bool). let s : Result Bool DecodeError = Ok z in s)
      (same_truth (alike_strings layer p q) b (λ t. d.1 (list_same xs ys (sym h ∙ equal.0 t ∙ k)))
      (λ t. equal.1 (h ∙ ap ok_of (d.0 t) ∙ sym k)))

  -- ---- one byte string after another

  abbrev meant : Role → Attribute → Result (LinkOf L) DecodeError
  meant r a = row_meaning family.LinkInfo link_other (link_row layer r) a

  -- a current kind stays what it is; if there is none, there may be one
  abbrev kept_in : {A : Type 0} → Option A → Option A → Type 0
  kept_in None o = Unit {0}
  kept_in (Some x) o = o ≡ Some x

  record Less (t u : CurrentKinds) : Type 0 where
    kind : kept_in t.kind u.kind
    port : kept_in t.port u.port

  data_more : (o q : Option KindTag) (a : Attribute) (x : LinkOf L) → kept_in o q →
      meant (role_under o (λ tag. role.Data tag)) a ≡ Ok x →
      meant (role_under q (λ tag. role.Data tag)) a ≡ Ok x
  data_more None q a x h e = absurd cc
  data_more (Some g) q a x h e =
      ap (λ (r : Option KindTag). meant (role_under r (λ tag. role.Data tag)) a) h ∙ e

  xstats_more : (o q : Option KindTag) (a : Attribute) (x : LinkOf L) → kept_in o q →
      meant (role_under o (λ _. role.Xstats)) a ≡ Ok x →
      meant (role_under q (λ _. role.Xstats)) a ≡ Ok x
  xstats_more None q a x h e = absurd cc
  xstats_more (Some g) q a x h e =
      ap (λ (r : Option KindTag). meant (role_under r (λ _. role.Xstats)) a) h ∙ e

  port_more : (o q : Option PortTag) (a : Attribute) (x : LinkOf L) → kept_in o q →
      meant (role_under o (λ tag. role.PortData tag)) a ≡ Ok x →
      meant (role_under q (λ tag. role.PortData tag)) a ≡ Ok x
  port_more None q a x h e = absurd cc
  port_more (Some g) q a x h e =
      ap (λ (r : Option PortTag). meant (role_under r (λ tag. role.PortData tag)) a) h ∙ e

  reads_more : (n : ℕ) (t u : CurrentKinds) (a : Attribute) (x : LinkOf L) → Less t u →
      meant (role_of t n) a ≡ Ok x → meant (role_of u n) a ≡ Ok x
  unfolding role_of
  reads_more zero t u a x less e = e
  reads_more (suc zero) t u a x less e = e
  reads_more (suc (suc zero)) t u a x less e = data_more t.kind u.kind a x less.kind e
  reads_more (suc (suc (suc zero))) t u a x less e = xstats_more t.kind u.kind a x less.kind e
  reads_more (suc (suc (suc (suc zero)))) t u a x less e = e
  reads_more (suc (suc (suc (suc (suc zero))))) t u a x less e =
      port_more t.port u.port a x less.port e
  reads_more (suc (suc (suc (suc (suc (suc n)))))) t u a x less e =
      ap (λ (r : Role). meant r a) (unknown_from_six u n)
      ∙ sym (ap (λ (r : Role). meant r a) (unknown_from_six t n))
      ∙ e

  less_reads : (t u : CurrentKinds) (a : Attribute) (x : LinkOf L) → Less t u →
      link_meaning layer t a ≡ Ok x → link_meaning layer u a ≡ Ok x
  unfolding meaning_in
  less_reads t u a x less e = reads_more (masked a.kind) t u a x less e

  -- the current kinds after an attribute, by its type
  less_name : (m : Result (List ℕ) DecodeError) (t u : CurrentKinds)
      (f : CurrentKinds → List ℕ → CurrentKinds) →
      ((name : List ℕ) → Less (f t name) (f u name)) → Less t u →
      Less (or_stay t (with_name m (f t))) (or_stay u (with_name m (f u)))
  less_name (Ok name) t u f h less = h name
  less_name (Err e) t u f h less = less

  less_port : (o q : Option PortTag) (t u : CurrentKinds) (a : Attribute) → t.port ≡ o →
      u.port ≡ q →
      Less t u →
      Less (or_stay t (kinds_after_role (role_under o (λ tag. role.PortData tag)) t a))
      (or_stay u (kinds_after_role (role_under q (λ tag. role.PortData tag)) u a))
  less_port None None t u a e f less = less
  less_port None (Some g) t u a e f less = record {
    kind = less.kind;
    port = subst (λ (o : Option PortTag). kept_in o None) (sym e) tt;
  }
  less_port (Some g) None t u a e f less =
      absurd (none_some (sym f ∙ subst (λ (o : Option PortTag). kept_in o u.port) e less.port))
    where
      none_some : None ≡ Some g → ⊥
      none_some h = cc
  less_port (Some g) (Some k) t u a e f less = record { kind = less.kind; port = tt }

  less_stay : (o q : Option KindTag) (at : KindTag → Role) (t u : CurrentKinds) (a : Attribute) →
      ((tag : KindTag) (v : CurrentKinds) → or_stay v (kinds_after_role (at tag) v a) ≡ v) →
      Less t u →
      Less (or_stay t (kinds_after_role (role_under o at) t a))
      (or_stay u (kinds_after_role (role_under q at) u a))
  less_stay None None at t u a stay less = less
  less_stay None (Some g) at t u a stay less =
      subst (λ (v : CurrentKinds). Less t v) (sym (stay g u)) less
  less_stay (Some g) None at t u a stay less =
      subst (λ (v : CurrentKinds). Less v u) (sym (stay g t)) less
  less_stay (Some g) (Some k) at t u a stay less =
      subst (λ (v : CurrentKinds). Less v (or_stay u (kinds_after_role (at k) u a)))
      (sym (stay g t))
      (subst (λ (v : CurrentKinds). Less t v) (sym (stay k u)) less)

  after_more : (n : ℕ) (t u : CurrentKinds) (a : Attribute) → Less t u →
      Less (or_stay t (kinds_after_role (role_of t n) t a))
      (or_stay u (kinds_after_role (role_of u n) u a))
  unfolding role_of
  after_more zero t u a less = less
  after_more (suc zero) t u a less =
      less_name (name_meaning a) t u
      (λ v name. record { kind = Some (tag_of_name name); port = v.port })
      (λ name. record { kind = refl; port = less.port }) less
  after_more (suc (suc zero)) t u a less =
      less_stay t.kind u.kind (λ tag. role.Data tag) t u a (λ tag v. refl) less
  after_more (suc (suc (suc zero))) t u a less =
      less_stay t.kind u.kind (λ _. role.Xstats) t u a (λ tag v. refl) less
  after_more (suc (suc (suc (suc zero)))) t u a less =
      less_name (name_meaning a) t u
      (λ v name. record { kind = v.kind; port = Some (port_tag_of_name name) })
      (λ name. record { kind = less.kind; port = refl }) less
  after_more (suc (suc (suc (suc (suc zero))))) t u a less =
      less_port t.port u.port t u a refl refl less
  after_more (suc (suc (suc (suc (suc (suc n)))))) t u a less =
      subst (λ (v : CurrentKinds).
      Less v (or_stay u (kinds_after_role (role_of u (suc (suc (suc (suc (suc (suc n))))))) u a)))
      (sym (ap (λ (r : Role). or_stay t (kinds_after_role r t a)) (unknown_from_six t n)))
      (subst (λ (v : CurrentKinds). Less t v)
      (sym (ap (λ (r : Role). or_stay u (kinds_after_role r u a)) (unknown_from_six u n))) less)

  less_after : (t u : CurrentKinds) (a : Attribute) → Less t u →
      Less (next_kinds t a) (next_kinds u a)
  unfolding next_kinds
  less_after t u a less = after_more (masked a.kind) t u a less

  pub appended_reading : (s a b : List ℕ) (xs ys : List (LinkOf L)) → IsBytes s →
      length a % 4 ≡ 0 → s ≡ a ++ b → reading layer a ≡ Ok xs → reading layer b ≡ Ok ys →
      reading layer s ≡ Ok (xs ++ ys)
  unfolding reading
  appended_reading s a b xs ys bytes four e h k =
      let both : IsBytes (a ++ b) = subst IsBytes e bytes in
      append_law (link_meaning layer) next_kinds Less less_reads less_after no_kinds s a b xs
      ys (λ _. record { kind = tt; port = tt }) (IsBytes-left a b both)
      (IsBytes-right a b both) four e h k
