-- Lists without data of some kinds: what two layers that treat every other attribute alike answer.
use Rattle.std.specs.Prelude.{
  ◌≡◌,
  ◌==◌,
  ◌+◌,
  ◌&&◌,
  ◌||◌,
  ℕ,
  Bool,
  true,
  false,
  if◌then◌else◌,
  is_ok,
  IsOk,
  List,
  [],
  ◌∷◌,
  ◌++◌,
  length,
  map,
  Option,
  None,
  Some,
  IfSome,
  Result,
  Ok,
  Err,
  refl,
}
use Rattle.std.specs.List.{AllByRecursion}
use Rattle.std.specs.Str.{bytes_eq}
use Rattle.std.proofs.Common.{ap, arith, inl, inr, subst, sym, ◌∙◌}
use Rattle.std.proofs.lemmas.Bool.{eq-eqb, eqb-true}
use Rattle.nla_frame.specs.Answers.{verdict}
use Rattle.nla_frame.specs.Attribute.{Attribute, ListFits, aligned, list_string, masked}
use Rattle.nla_frame.specs.Canonical.{attribute_for, attributes_for}
use Rattle.nla_frame.specs.Framing.{Broken, Splits}
use Rattle.nla_frame.specs.NlaItems.{nla_items, nla_items_of}
use Rattle.nla_frame.specs.declared.error.DecodeError.{DecodeError}
use Rattle.nla_frame.specs.declared.error.Family.TheVariants as family
use Rattle.nla_frame.proofs.Stepping.{nla_items_only}
use Rattle.linkinfo_numbers.specs.Kind.{kind_of_name}
use Rattle.linkinfo_numbers.specs.PortKind.{port_kind_of_name}
use Rattle.linkinfo_shapes.specs.declared.shape.Shape.TheVariants.{Name, Raw}
use Rattle.linkinfo_table.specs.Codecs.{PayloadError}
use Rattle.linkinfo_table.specs.Contents.{Contents}
use Rattle.linkinfo_table.specs.Difference.{
  differ,
  first_or,
  pairs_difference,
  payload_difference,
}
use Rattle.linkinfo_table.specs.FamilyRows.{shape_codec}
use Rattle.linkinfo_table.proofs.Lasts.{last_holds, last_passes}
use Rattle.linkinfo_table.specs.Last.{attributes_of, has_type, placed_from}
use Rattle.linkinfo_table.specs.Lists.{
  ◌>>=◌,
  alike_under,
  headers_under,
  if_read,
  memory_under,
  values_under,
}
use Rattle.linkinfo_table.specs.Readings.{MeanEach, state_after}
use Rattle.linkinfo_table.specs.Rows.{
  alike_in,
  labelled,
  row_alike,
  row_headers,
  row_needs_memory,
}
use Rattle.linkinfo_table.specs.SelfList.{inside}
use Rattle.linkinfo_table.specs.Unmet.{
  counted_unmet,
  counts,
  first_of,
  last_like,
  meets,
  whole_unmet,
}
use Rattle.linkinfo_table.specs.declared.difference.Difference.{Difference}
use Rattle.linkinfo_table.specs.declared.last.PlacedNla.{PlacedNla}
use Rattle.linkinfo_table.specs.declared.unmet.Unmet.{Unmet}
use Rattle.linkinfo_table.specs.Layers.{Families, Types}
use Rattle.linkinfo_data.specs.Data.{data_equal, data_known, family_of, is_supplied}
use Rattle.linkinfo_data.specs.DataFamilies.{DataFamilies, DataTypes, data_families}
use Rattle.linkinfo_data.specs.Known.{IsKnown}
use Rattle.linkinfo_data.specs.Lawful.{AreLawful}
use Rattle.linkinfo_data.specs.Payloads.{Payload}
use Rattle.linkinfo_data.specs.PeerFamilies.{peer_families}
use Rattle.linkinfo_data.specs.PortData.{
  is_port_supplied,
  port_equal,
  port_family_of,
  port_known,
}
use Rattle.linkinfo_data.specs.Refined.{AreEqual}
use Rattle.linkinfo_data.specs.declared.data.DataFamily.{DataFamily}
use Rattle.linkinfo_data.specs.declared.port_data.PortFamily.{PortFamily}
use Rattle.linkinfo.specs.Canon.{IsCanonical, IsUnfit}
use Rattle.linkinfo.specs.Difference.{data_difference, link_difference, role_difference}
use Rattle.linkinfo.specs.Elsewhere.{AnswerAlike, HasNoSuppliedData, NoneHas, is_supplied_data}
use Rattle.linkinfo.specs.Items.{
  link_alike,
  link_attribute,
  link_headers,
  link_meaning,
  link_needs_memory,
  link_row,
  written_attribute,
}
use Rattle.linkinfo.specs.Layered.{LinkOf}
use Rattle.linkinfo.specs.Met.{Item, items_of, items_under, role_of_item}
use Rattle.linkinfo.specs.Placed.{
  IsErrorAt,
  before_error,
  error_in,
  error_in_payload,
  error_in_rejected,
  place_after,
}
use Rattle.linkinfo.specs.Roles.{kinds_after_role, no_kinds, role_at, role_of}
use Rattle.linkinfo.specs.Strings.{
  IsRejected,
  alike_from,
  alike_strings,
  headers_from,
  headers_of_string,
  memory_from,
  next_kinds,
  or_stay,
  reading,
  reading_needs_memory,
  values_from,
}
use Rattle.linkinfo.specs.Unmet.{
  Named,
  contents_unmet,
  data_unmet,
  kinds_named,
  linked_unmet,
  names_after,
  no_names,
  role_unmet,
  same_kind,
  strings_unmet,
}
use Rattle.linkinfo.specs.declared.link_info.LinkInfoOf.TheVariants as info
use Rattle.linkinfo.specs.declared.role.CurrentKinds.{CurrentKinds}
use Rattle.linkinfo.specs.declared.role.Role.{Role}
use Rattle.linkinfo.specs.declared.role.Role.TheVariants as role
use Rattle.linkinfo.specs.declared.xstats.LinkXstats.TheVariants as xstats
use Rattle.linkinfo.proofs.Items.{link_alike_after, role_alike_after, role_written, same_role}
use Rattle.linkinfo.proofs.Meeting.{item_at, items_placed}
use Rattle.linkinfo.proofs.Steps.{headers_is, meaning_is, meant, memory_is}
use Rattle.linkinfo.proofs.Unmets.{one_role, under_next}

-- ---- verdicts

abbrev with_more : {X : Type 0} → Result X DecodeError → Result (List X) DecodeError →
    Result (List X) DecodeError
with_more m v = m >>= λ x. v >>= λ xs. Ok (x ∷ xs)

-- ---- where a list is rejected

-- the attributes before the first one that is rejected, and the offset of its error from its header
record Stop : Type 0 where
  front : List Attribute
  within : ℕ

abbrev no_stop : Stop
no_stop = record { front = []; within = 0 }

abbrev stop_at : Bool → Attribute → ℕ → Stop → Stop
stop_at accepted a n later =
    if accepted then record { front = a ∷ later.front; within = later.within }
    else record { front = []; within = n }

abbrev stop : {X : Type 0} → (CurrentKinds → Attribute → Result X DecodeError) →
    (CurrentKinds → Attribute → ℕ) → CurrentKinds → List (Result Attribute ℕ) → Stop
stop m place t [] = no_stop
stop m place t ((Err seen) ∷ more) = no_stop
stop m place t ((Ok a) ∷ more) =
    stop_at (is_ok (m t a)) a (place t a) (stop m place (next_kinds t a) more)

module _ {X : Type 0} (m : CurrentKinds → Attribute → Result X DecodeError)
    (place : CurrentKinds → Attribute → ℕ) where
  stop_accepted : (t : CurrentKinds) (a : Attribute) (x : X) (more : List (Result Attribute ℕ))
      (later : Stop) → m t a ≡ Ok x → stop m place (next_kinds t a) more ≡ later →
      stop m place t (Ok a ∷ more) ≡ record { front = a ∷ later.front; within = later.within }
  stop_accepted t a x more later e rest =
      ap (λ (r : Result X DecodeError).
      stop_at (is_ok r) a (place t a) (stop m place (next_kinds t a) more)) e
      ∙ ap (λ (s : Stop). stop_at true a (place t a) s) rest

  stop_item : (t : CurrentKinds) (front : List Attribute) (item : Attribute)
      (more : List Attribute) (left : List ℕ) (values : List X) (e : DecodeError) →
      MeanEach m next_kinds t front values → m (state_after next_kinds t front) item ≡ Err e →
      stop m place t (nla_items_of (front ++ (item ∷ more)) left)
      ≡ record { front = front; within = place (state_after next_kinds t front) item }
  stop_item t [] item more left values e mean error =
      ap (λ (r : Result X DecodeError).
      stop_at (is_ok r) item (place t item)
      (stop m place (next_kinds t item) (nla_items_of more left))) error
  stop_item t (a ∷ front) item more left [] e mean error = absurd mean
  stop_item t (a ∷ front) item more left (x ∷ values) e mean error =
      stop_accepted t a x (nla_items_of (front ++ (item ∷ more)) left)
      (record {
        front = front;
        within = place (state_after next_kinds (next_kinds t a) front) item;
      }) mean.0
      (stop_item (next_kinds t a) front item more left values e mean.1 error)

  stop_rest : (t : CurrentKinds) (front : List Attribute) (rest : List ℕ) (values : List X) →
      MeanEach m next_kinds t front values →
      stop m place t (nla_items_of front rest) ≡ record { front = front; within = 0 }
  stop_rest t [] [] values mean = refl
  stop_rest t [] (b ∷ r) values mean = refl
  stop_rest t (a ∷ front) rest [] mean = absurd mean
  stop_rest t (a ∷ front) rest (x ∷ values) mean =
      stop_accepted t a x (nla_items_of front rest) (record { front = front; within = 0 }) mean.0
      (stop_rest (next_kinds t a) front rest values mean.1)

-- a broken byte string has a rest
has_rest : (s : List ℕ) (front : List Attribute) → Broken s front [] → ⊥
has_rest s [] h = absurd (omega (arith, h.1.0))
has_rest s (a ∷ more) h = has_rest h.1 more h.4

broken_splits : (s : List ℕ) (front : List Attribute) (rest : List ℕ) → Broken s front rest →
    Splits s front rest
broken_splits s front [] h = absurd (has_rest s front h)
broken_splits s front (b ∷ r) h = h

-- ---- verdicts of both

module _ {X Y : Type 0} where
  more_verdict : (m : Result X DecodeError) (n : Result Y DecodeError)
      (v : Result (List X) DecodeError) (w : Result (List Y) DecodeError) →
      verdict m ≡ verdict n → verdict v ≡ verdict w →
      verdict (with_more m v) ≡ verdict (with_more n w)
  more_verdict (Ok x) (Ok y) (Ok xs) (Ok ys) first rest = refl
  more_verdict (Ok x) (Ok y) (Ok xs) (Err e) first rest = absurd cc
  more_verdict (Ok x) (Ok y) (Err d) (Ok ys) first rest = absurd cc
  more_verdict (Ok x) (Ok y) (Err d) (Err e) first rest = rest
  more_verdict (Ok x) (Err e) v w first rest = absurd cc
  more_verdict (Err d) (Ok y) v w first rest = absurd cc
  more_verdict (Err d) (Err e) v w first rest = first

  ok_same : (m : Result X DecodeError) (n : Result Y DecodeError) → verdict m ≡ verdict n →
      is_ok m ≡ is_ok n
  ok_same (Ok x) (Ok y) e = refl
  ok_same (Ok x) (Err d) e = absurd cc
  ok_same (Err d) (Ok y) e = absurd cc
  ok_same (Err d) (Err e) h = refl

  read_same : (m : Result X DecodeError) (n : Result Y DecodeError) (i j : ℕ) →
      verdict m ≡ verdict n → i ≡ j → if_read m i ≡ if_read n j
  read_same (Ok x) (Ok y) i j e h = h
  read_same (Ok x) (Err d) i j e h = absurd cc
  read_same (Err d) (Ok y) i j e h = absurd cc
  read_same (Err d) (Err e) i j k h = refl

  more_written : (f : X → Attribute) (g : Y → Attribute) (m : Result X DecodeError)
      (n : Result Y DecodeError) (v : Result (List X) DecodeError)
      (w : Result (List Y) DecodeError) → verdict m ≡ verdict n → verdict v ≡ verdict w →
      attribute_for f m ≡ attribute_for g n → attributes_for f v ≡ attributes_for g w →
      attributes_for f (with_more m v) ≡ attributes_for g (with_more n w)
  more_written f g (Ok x) (Ok y) (Ok xs) (Ok ys) h k first rest =
      ap (λ (a : Attribute). a ∷ map f xs) first
      ∙ ap (λ (more : List Attribute). g y ∷ more) rest
  more_written f g (Ok x) (Ok y) (Ok xs) (Err e) h k first rest = absurd cc
  more_written f g (Ok x) (Ok y) (Err d) (Ok ys) h k first rest = absurd cc
  more_written f g (Ok x) (Ok y) (Err d) (Err e) h k first rest = refl
  more_written f g (Ok x) (Err e) v w h k first rest = absurd cc
  more_written f g (Err d) (Ok y) v w h k first rest = absurd cc
  more_written f g (Err d) (Err e) v w h k first rest = refl

  stopped_same : (m : Result X DecodeError) (n : Result Y DecodeError) (a : Attribute) (i j : ℕ)
      (s t : Stop) → verdict m ≡ verdict n → i ≡ j → s ≡ t →
      stop_at (is_ok m) a i s ≡ stop_at (is_ok n) a j t
  stopped_same m n a i j s t h e f =
      ap (λ (b : Bool). stop_at b a i s) (ok_same m n h)
      ∙ ap (λ (k : ℕ). stop_at (is_ok n) a k s) e
      ∙ ap (λ (u : Stop). stop_at (is_ok n) a j u) f

  -- a canonical encoding is determined by the attributes that it has, and the verdict
  written_canonical : (f : X → Attribute) (g : Y → Attribute) (v : Result (List X) DecodeError)
      (w : Result (List Y) DecodeError) → verdict v ≡ verdict w →
      attributes_for f v ≡ attributes_for g w → (s : List ℕ) →
      IsCanonical f v s → IsCanonical g w s
  written_canonical f g (Ok xs) (Ok ys) h e s c =
      subst (λ (list : List Attribute). ListFits list × (s ≡ list_string list)) e c
  written_canonical f g (Ok xs) (Err d) h e s c = absurd cc
  written_canonical f g (Err d) w h e s c = absurd c

  written_unfit : (f : X → Attribute) (g : Y → Attribute) (v : Result (List X) DecodeError)
      (w : Result (List Y) DecodeError) → verdict v ≡ verdict w →
      attributes_for f v ≡ attributes_for g w → IsUnfit f v → IsUnfit g w
  written_unfit f g (Ok xs) (Ok ys) h e u =
      subst (λ (list : List Attribute). ¬ ListFits list) e u
  written_unfit f g (Ok xs) (Err d) h e u = absurd cc
  written_unfit f g (Err d) w h e u = absurd u

-- ---- what depends on a test

false_true : (let f : Bool = false in f ≡ true) → ⊥
false_true e = absurd cc

where_true : (s x y : Bool) → (s ≡ true → x ≡ y) → (s && x) ≡ (s && y)
where_true false x y e = refl
where_true true x y e = e refl

module _ {X : Type 0} where
  chosen_same : (b : Bool) (x y z : X) → (b ≡ true → x ≡ y) →
      (if b then x else z) ≡ (if b then y else z)
  chosen_same true x y z e = e refl
  chosen_same false x y z e = refl

  first_is_none : (b : Bool) (o : Option X) (x : X) → (if b then o else Some x) ≡ None →
      (b ≡ true) × (o ≡ None)
  first_is_none true o x e = (refl, e)
  first_is_none false o x e = absurd cc

  passes_if_none : (b : Bool) (x : X) → (if b then None else Some x) ≡ None → b ≡ true
  passes_if_none true x e = refl
  passes_if_none false x e = absurd cc

  rest_same : (o x y : Option X) → (o ≡ None → x ≡ y) → first_or o x ≡ first_or o y
  rest_same (Some x) y z e = refl
  rest_same None y z e = e refl

-- ---- lists of which no attribute has a role

module _ (is : Role → Bool) where
  module _ {X Y : Type 0} (m : CurrentKinds → Attribute → Result X DecodeError)
      (n : CurrentKinds → Attribute → Result Y DecodeError)
      (same : (t : CurrentKinds) (a : Attribute) → is (role_at t a) ≡ false →
      verdict (m t a) ≡ verdict (n t a)) where
    pub verdicts_same : (t : CurrentKinds) (ps : List (Result Attribute ℕ)) → NoneHas is t ps →
        verdict (values_under m next_kinds t ps) ≡ verdict (values_under n next_kinds t ps)
    verdicts_same t [] none = refl
    verdicts_same t ((Err k) ∷ more) none = refl
    verdicts_same t ((Ok a) ∷ more) none =
        more_verdict (m t a) (n t a) (values_under m next_kinds (next_kinds t a) more)
        (values_under n next_kinds (next_kinds t a) more) (same t a none.0)
        (verdicts_same (next_kinds t a) more none.1)

    module _ (f : X → Attribute) (g : Y → Attribute)
        (written : (t : CurrentKinds) (a : Attribute) → is (role_at t a) ≡ false →
        attribute_for f (m t a) ≡ attribute_for g (n t a)) where
      written_same : (t : CurrentKinds) (ps : List (Result Attribute ℕ)) → NoneHas is t ps →
          attributes_for f (values_under m next_kinds t ps)
          ≡ attributes_for g (values_under n next_kinds t ps)
      written_same t [] none = refl
      written_same t ((Err k) ∷ more) none = refl
      written_same t ((Ok a) ∷ more) none =
          more_written f g (m t a) (n t a) (values_under m next_kinds (next_kinds t a) more)
          (values_under n next_kinds (next_kinds t a) more) (same t a none.0)
          (verdicts_same (next_kinds t a) more none.1) (written t a none.0)
          (written_same (next_kinds t a) more none.1)

    -- where the first rejected attribute is, and the offset of its error from its header
    module _ (h k : CurrentKinds → Attribute → ℕ)
        (place_same : (t : CurrentKinds) (a : Attribute) → is (role_at t a) ≡ false →
        h t a ≡ k t a) where
      stop_same : (t : CurrentKinds) (ps : List (Result Attribute ℕ)) → NoneHas is t ps →
          stop m h t ps ≡ stop n k t ps
      stop_same t [] none = refl
      stop_same t ((Err seen) ∷ more) none = refl
      stop_same t ((Ok a) ∷ more) none =
          stopped_same (m t a) (n t a) a (h t a) (k t a) (stop m h (next_kinds t a) more)
          (stop n k (next_kinds t a) more) (same t a none.0) (place_same t a none.0)
          (stop_same (next_kinds t a) more none.1)

    module _ (h k : CurrentKinds → Attribute → ℕ)
        (counted : (t : CurrentKinds) (a : Attribute) → is (role_at t a) ≡ false →
        h t a ≡ k t a) where
      pub headers_same : (t : CurrentKinds) (ps : List (Result Attribute ℕ)) → NoneHas is t ps →
          headers_under m h next_kinds t ps ≡ headers_under n k next_kinds t ps
      headers_same t [] none = refl
      headers_same t ((Err seen) ∷ more) none = refl
      headers_same t ((Ok a) ∷ more) none =
          let here = headers_under m h next_kinds (next_kinds t a) more in
          let there = headers_under n k next_kinds (next_kinds t a) more in
          ap (λ (i : ℕ). 1 + (i + if_read (m t a) here)) (counted t a none.0)
          ∙ ap (λ (i : ℕ). 1 + (k t a + i))
          (read_same (m t a) (n t a) here there (same t a none.0)
          (headers_same (next_kinds t a) more none.1))

    module _ (f g : CurrentKinds → Attribute → Bool)
        (needs : (t : CurrentKinds) (a : Attribute) → is (role_at t a) ≡ false →
        f t a ≡ g t a) where
      pub memory_same : (t : CurrentKinds) (ps : List (Result Attribute ℕ)) → NoneHas is t ps →
          memory_under m f t ps ≡ memory_under n g t ps
      memory_same t [] none = refl
      memory_same t ((Err seen) ∷ more) none = refl
      memory_same t ((Ok a) ∷ more) none =
          ap (λ (b : Bool). b || is_ok (m t a)) (needs t a none.0)
          ∙ ap (λ (b : Bool). g t a || b) (ok_same (m t a) (n t a) (same t a none.0))

  module _ (f g : CurrentKinds → Attribute → Attribute → Bool)
      (same : (t : CurrentKinds) (a b : Attribute) → is (role_at t a) ≡ false →
      f t a b ≡ g t a b) where
    pub alike_first : (t : CurrentKinds) (ps qs : List (Result Attribute ℕ)) → NoneHas is t ps →
        alike_under f next_kinds t ps qs ≡ alike_under g next_kinds t ps qs
    alike_first t [] [] none = refl
    alike_first t [] (q ∷ qs) none = refl
    alike_first t ((Ok a) ∷ ps) [] none = refl
    alike_first t ((Err n) ∷ ps) [] none = refl
    alike_first t ((Ok a) ∷ ps) ((Ok b) ∷ qs) none =
        ap (λ (h : Bool). h && alike_under f next_kinds (next_kinds t a) ps qs) (same t a b none.0)
        ∙ ap (λ (h : Bool). g t a b && h) (alike_first (next_kinds t a) ps qs none.1)
    alike_first t ((Ok a) ∷ ps) ((Err n) ∷ qs) none = refl
    alike_first t ((Err n) ∷ ps) (q ∷ qs) none = refl

  -- equivalent attributes have one type, so such a role of the second one changes nothing either
  module _ (f g : CurrentKinds → Attribute → Attribute → Bool)
      (same : (t : CurrentKinds) (a b : Attribute) → is (role_at t a) ≡ false →
      f t a b ≡ g t a b)
      (f_typed : (t : CurrentKinds) (a b : Attribute) → f t a b ≡ true →
      masked b.kind ≡ masked a.kind)
      (g_typed : (t : CurrentKinds) (a b : Attribute) → g t a b ≡ true →
      masked b.kind ≡ masked a.kind)
      (role_same : (t : CurrentKinds) (a b : Attribute) → masked b.kind ≡ masked a.kind →
      role_at t b ≡ role_at t a)
      (after : (t : CurrentKinds) (a b : Attribute) → f t a b ≡ true →
      next_kinds t a ≡ next_kinds t b) where
    neither : (x y : Bool) → (x ≡ true → ⊥) → (y ≡ true → ⊥) → x ≡ y
    neither true y h k = absurd (h refl)
    neither false true h k = absurd (k refl)
    neither false false h k = refl

    apart : (m n : ℕ) → (m == n) ≡ false → m ≡ n → ⊥
    apart m n h k = absurd (false_true (sym h ∙ eq-eqb m n k))

    same_second : (t : CurrentKinds) (a b : Attribute) → is (role_at t b) ≡ false →
        f t a b ≡ g t a b
    same_second t a b none = go (masked b.kind == masked a.kind) refl
      where
        go : (s : Bool) → (masked b.kind == masked a.kind) ≡ s → f t a b ≡ g t a b
        go true h = same t a b (ap is (sym (role_same t a b (eqb-true _ _ h))) ∙ none)
        go false h =
            neither (f t a b) (g t a b) (λ k. apart _ _ h (f_typed t a b k))
            (λ k. apart _ _ h (g_typed t a b k))

    pub alike_second : (t : CurrentKinds) (ps qs : List (Result Attribute ℕ)) →
        NoneHas is t qs → alike_under f next_kinds t ps qs ≡ alike_under g next_kinds t ps qs
    alike_second t [] [] none = refl
    alike_second t [] (q ∷ qs) none = refl
    alike_second t ((Ok a) ∷ ps) [] none = refl
    alike_second t ((Err n) ∷ ps) [] none = refl
    alike_second t ((Ok a) ∷ ps) ((Ok b) ∷ qs) none =
        ap (λ (h : Bool). h && alike_under f next_kinds (next_kinds t a) ps qs)
        (same_second t a b none.0)
        ∙ where_true (g t a b) (alike_under f next_kinds (next_kinds t a) ps qs)
        (alike_under g next_kinds (next_kinds t a) ps qs)
        (λ h.
        alike_second (next_kinds t a) ps qs
        (subst (λ (u : CurrentKinds). NoneHas is u qs)
        (sym (after t a b (same_second t a b none.0 ∙ h))) none.1))
    alike_second t ((Ok a) ∷ ps) ((Err n) ∷ qs) none = refl
    alike_second t ((Err n) ∷ ps) (q ∷ qs) none = refl

  -- the first difference
  module _ (f g : CurrentKinds → PlacedNla → PlacedNla → Option Difference)
      (same : (t : CurrentKinds) (p q : PlacedNla) → is (role_at t p.nla) ≡ false →
      f t p q ≡ g t p q) where
    pub difference_same : (n : ℕ) (t : CurrentKinds) (ps : List (Result Attribute ℕ))
        (qs : List PlacedNla) → NoneHas is t ps →
        pairs_difference family.LinkInfo f next_kinds t (placed_from n ps) qs
        ≡ pairs_difference family.LinkInfo g next_kinds t (placed_from n ps) qs
    difference_same n t [] [] none = refl
    difference_same n t [] (q ∷ qs) none = refl
    difference_same n t ((Err seen) ∷ ps) [] none = refl
    difference_same n t ((Err seen) ∷ ps) (q ∷ qs) none = refl
    difference_same n t ((Ok a) ∷ ps) [] none = refl
    difference_same n t ((Ok a) ∷ ps) (q ∷ qs) none =
        let p : PlacedNla = record { offset = n; nla = a } in
        let after = n + aligned (4 + length a.value) in
        ap (λ (o : Option Difference).
        first_or o
        (pairs_difference family.LinkInfo f next_kinds (next_kinds t a) (placed_from after ps) qs))
        (same t p q none.0)
        ∙ ap (λ (o : Option Difference). first_or (g t p q) o)
        (difference_same after (next_kinds t a) ps qs none.1)

  -- .. and attributes without a difference leave the same current kinds
  module _ (f g : CurrentKinds → PlacedNla → PlacedNla → Option Difference)
      (same : (t : CurrentKinds) (p q : PlacedNla) → is (role_at t q.nla) ≡ false →
      f t p q ≡ g t p q)
      (after : (t : CurrentKinds) (p q : PlacedNla) → f t p q ≡ None →
      next_kinds t p.nla ≡ next_kinds t q.nla) where
    pub difference_second : (n : ℕ) (t : CurrentKinds) (ps : List PlacedNla)
        (qs : List (Result Attribute ℕ)) → NoneHas is t qs →
        pairs_difference family.LinkInfo f next_kinds t ps (placed_from n qs)
        ≡ pairs_difference family.LinkInfo g next_kinds t ps (placed_from n qs)
    difference_second n t [] [] none = refl
    difference_second n t [] ((Ok a) ∷ qs) none = refl
    difference_second n t [] ((Err seen) ∷ qs) none = refl
    difference_second n t (p ∷ ps) [] none = refl
    difference_second n t (p ∷ ps) ((Err seen) ∷ qs) none = refl
    difference_second n t (p ∷ ps) ((Ok a) ∷ qs) none =
        let q : PlacedNla = record { offset = n; nla = a } in
        let next = n + aligned (4 + length a.value) in
        let here = same t p q none.0 in
        ap (λ (o : Option Difference).
        first_or o
        (pairs_difference family.LinkInfo f next_kinds (next_kinds t p.nla) ps
        (placed_from next qs))) here
        ∙ rest_same (g t p q)
        (pairs_difference family.LinkInfo f next_kinds (next_kinds t p.nla) ps
        (placed_from next qs))
        (pairs_difference family.LinkInfo g next_kinds (next_kinds t p.nla) ps
        (placed_from next qs))
        (λ e.
        difference_second next (next_kinds t p.nla) ps qs
        (subst (λ (u : CurrentKinds). NoneHas is u qs) (sym (after t p q (here ∙ e))) none.1))

-- ---- where a list is rejected, by its layer

module _ {N : DataTypes} (layer : DataFamilies N) where
  abbrev link_error_in : CurrentKinds → Attribute → ℕ
  link_error_in t a = error_in layer (role_at t a) a

  abbrev link_stop : CurrentKinds → List (Result Attribute ℕ) → Stop
  link_stop t ps = stop (link_meaning layer) link_error_in t ps

  stop_is : (s : List ℕ) (e : DecodeError) (rejected : IsRejected layer s e) →
      link_stop no_kinds (nla_items s)
      ≡ record {
        front = before_error layer s e rejected;
        within = error_in_rejected layer s e rejected;
      }
  stop_is s e (inl item) =
      ap (λ (ps : List (Result Attribute ℕ)). link_stop no_kinds ps)
      (nla_items_only s (item.front ++ (item.item ∷ item.more)) item.left item.splits)
      ∙ stop_item (link_meaning layer) link_error_in no_kinds item.front item.item item.more
      item.left item.values e item.mean item.error
  stop_is s e (inr rest) =
      ap (λ (ps : List (Result Attribute ℕ)). link_stop no_kinds ps)
      (nla_items_only s rest.front rest.rest
      (broken_splits s rest.front rest.rest rest.broken))
      ∙ stop_rest (link_meaning layer) link_error_in no_kinds rest.front rest.rest rest.values
      rest.mean

-- ---- two layers with equal answers but for the families that one of them supplies

module _ {L M : DataTypes} (one : DataFamilies L) (other : DataFamilies M)
    (links : (f : DataFamily) → is_supplied f ≡ false → AreEqual (one.data_of f) (other.data_of f))
    (ports : (f : PortFamily) → is_port_supplied f ≡ false →
    AreEqual (one.port_data_of f) (other.port_data_of f))
    (known : (f : DataFamily) → IsKnown (one.data_of f) × IsKnown (other.data_of f))
    (ports_known : (f : PortFamily) →
    IsKnown (one.port_data_of f) × IsKnown (other.port_data_of f))
    (lawful : AreLawful one) (other_lawful : AreLawful other) where
  -- a variant and the list that it is in change no verdict
  labelled_verdict : {A B X Y : Type 0} (n : ℕ) (r : Result A DecodeError)
      (u : Result B DecodeError) (x : A → X) (y : B → Y) → verdict r ≡ verdict u →
      verdict (labelled family.LinkInfo n x (inside r))
      ≡ verdict (labelled family.LinkInfo n y (inside u))
  labelled_verdict n (Ok a) (Ok b) x y e = refl
  labelled_verdict n (Ok a) (Err d) x y e = absurd cc
  labelled_verdict n (Err d) (Ok b) x y e = absurd cc
  labelled_verdict {X = X} {Y = Y} n (Err d) (Err e) x y h = h

  payload_verdict : {A B : Type 0} (fine : Payload A) (coarse : Payload B) → IsKnown fine →
      IsKnown coarse → AreEqual fine coarse → (p : List ℕ) →
      verdict (fine.means p) ≡ verdict (coarse.means p)
  payload_verdict fine coarse known same equal p = known p ∙ equal.verdicts p ∙ sym (same p)

  own_verdict : {A X Y : Type 0} (n : ℕ) (r : Result A PayloadError) (x : A → X) (y : A → Y) →
      verdict (labelled family.LinkInfo n x r) ≡ verdict (labelled family.LinkInfo n y r)
  own_verdict n (Ok a) x y = refl
  own_verdict n (Err e) x y = refl

  role_verdict : (r : Role) (a : Attribute) → is_supplied_data r ≡ false →
      verdict (meant one r a) ≡ verdict (meant other r a)
  role_verdict (role.Data tag) a none =
      let f = family_of tag in
      labelled_verdict (masked a.kind) ((one.data_of f).means a.value)
      ((other.data_of f).means a.value) _ _
      (payload_verdict (one.data_of f) (other.data_of f) (known f).0 (known f).1 (links f none)
      a.value)
  role_verdict (role.PortData tag) a none =
      let f = port_family_of tag in
      labelled_verdict (masked a.kind) ((one.port_data_of f).means a.value)
      ((other.port_data_of f).means a.value) _ _
      (payload_verdict (one.port_data_of f) (other.port_data_of f) (ports_known f).0
      (ports_known f).1 (ports f none) a.value)
  role_verdict role.Kind a none =
      own_verdict {X = LinkOf L} {Y = LinkOf M} (masked a.kind) ((shape_codec Name).means a.value)
      (λ name. info.Kind (kind_of_name name)) (λ name. info.Kind (kind_of_name name))
  role_verdict role.PortKind a none =
      own_verdict {X = LinkOf L} {Y = LinkOf M} (masked a.kind) ((shape_codec Name).means a.value)
      (λ name. info.PortKind (port_kind_of_name name))
      (λ name. info.PortKind (port_kind_of_name name))
  role_verdict role.Xstats a none =
      own_verdict {X = LinkOf L} {Y = LinkOf M} (masked a.kind) ((shape_codec Raw).means a.value)
      (λ bytes. info.Xstats (xstats.Other bytes)) (λ bytes. info.Xstats (xstats.Other bytes))
  role_verdict role.Misplaced a none = refl
  role_verdict role.Unknown a none = refl

  role_counted : (r : Role) (a : Attribute) → is_supplied_data r ≡ false →
      row_headers (link_row one r) a ≡ row_headers (link_row other r) a
  role_counted (role.Data tag) a none = (links (family_of tag) none).headers a.value
  role_counted (role.PortData tag) a none = (ports (port_family_of tag) none).headers a.value
  role_counted role.Kind a none = refl
  role_counted role.PortKind a none = refl
  role_counted role.Xstats a none = refl
  role_counted role.Misplaced a none = refl
  role_counted role.Unknown a none = refl

  role_needs : (r : Role) (a : Attribute) → is_supplied_data r ≡ false →
      row_needs_memory (link_row one r) a ≡ row_needs_memory (link_row other r) a
  role_needs (role.Data tag) a none = (links (family_of tag) none).needs_memory a.value
  role_needs (role.PortData tag) a none =
      (ports (port_family_of tag) none).needs_memory a.value
  role_needs role.Kind a none = refl
  role_needs role.PortKind a none = refl
  role_needs role.Xstats a none = refl
  role_needs role.Misplaced a none = refl
  role_needs role.Unknown a none = refl

  role_alike : (r : Role) (a b : Attribute) → is_supplied_data r ≡ false →
      row_alike (link_row one r) a b ≡ row_alike (link_row other r) a b
  role_alike (role.Data tag) a b none =
      ap (λ (h : Bool). (masked b.kind == masked a.kind) && h)
      ((links (family_of tag) none).alike a.value b.value)
  role_alike (role.PortData tag) a b none =
      ap (λ (h : Bool). (masked b.kind == masked a.kind) && h)
      ((ports (port_family_of tag) none).alike a.value b.value)
  role_alike role.Kind a b none = refl
  role_alike role.PortKind a b none = refl
  role_alike role.Xstats a b none = refl
  role_alike role.Misplaced a b none = refl
  role_alike role.Unknown a b none = refl

  payload_differs : {A B : Type 0} (fine : Payload A) (coarse : Payload B) →
      AreEqual fine coarse → (p q : PlacedNla) →
      data_difference fine p q ≡ data_difference coarse p q
  payload_differs fine coarse equal p q =
      ap (λ (h : Bool). payload_difference fine.contents family.LinkInfo h p q)
      (equal.alike p.nla.value q.nla.value)
      ∙ ap (λ (c : Contents).
      payload_difference c family.LinkInfo (coarse.alike p.nla.value q.nla.value) p q)
      equal.contents

  role_differs : (r : Role) (p q : PlacedNla) → is_supplied_data r ≡ false →
      role_difference one r p q ≡ role_difference other r p q
  role_differs (role.Data tag) p q none =
      let f = family_of tag in
      payload_differs (one.data_of f) (other.data_of f) (links f none) p q
  role_differs (role.PortData tag) p q none =
      let f = port_family_of tag in
      payload_differs (one.port_data_of f) (other.port_data_of f) (ports f none) p q
  role_differs role.Kind p q none = refl
  role_differs role.PortKind p q none = refl
  role_differs role.Xstats p q none = refl
  role_differs role.Misplaced p q none = refl
  role_differs role.Unknown p q none = refl

  payload_leaves : {A B : Type 0} (fine : Payload A) (coarse : Payload B) →
      AreEqual fine coarse → (h w : PlacedNla) → data_unmet fine h w ≡ data_unmet coarse h w
  payload_leaves fine coarse equal h w =
      ap (λ (b : Bool). contents_unmet fine.contents (bytes_eq h.nla.value w.nla.value || b) h w)
      (equal.alike h.nla.value w.nla.value)
      ∙ ap (λ (c : Contents).
      contents_unmet c (meets (λ a b. coarse.alike a.value b.value) h.nla w.nla) h w)
      equal.contents

  role_leaves : (r : Role) (h w : PlacedNla) → is_supplied_data r ≡ false →
      role_unmet one r h w ≡ role_unmet other r h w
  role_leaves (role.Data tag) h w none =
      let f = family_of tag in
      payload_leaves (one.data_of f) (other.data_of f) (links f none) h w
  role_leaves (role.PortData tag) h w none =
      let f = port_family_of tag in
      payload_leaves (one.port_data_of f) (other.port_data_of f) (ports f none) h w
  role_leaves role.Kind h w none = refl
  role_leaves role.PortKind h w none = refl
  role_leaves role.Xstats h w none = refl
  role_leaves role.Misplaced h w none = refl
  role_leaves role.Unknown h w none = refl

  role_writes : (r : Role) (a : Attribute) → is_supplied_data r ≡ false →
      written_attribute one r a ≡ written_attribute other r a
  role_writes (role.Data tag) a none =
      ap (λ (p : List ℕ). let w : Attribute = record { kind = 2; value = p } in w)
      ((links (family_of tag) none).canonical a.value)
  role_writes (role.PortData tag) a none =
      ap (λ (p : List ℕ). let w : Attribute = record { kind = 5; value = p } in w)
      ((ports (port_family_of tag) none).canonical a.value)
  role_writes role.Kind a none = refl
  role_writes role.PortKind a none = refl
  role_writes role.Xstats a none = refl
  role_writes role.Misplaced a none = refl
  role_writes role.Unknown a none = refl

  -- the canonical attribute is what is written for an accepted one
  role_written_same : (r : Role) (a : Attribute) → is_supplied_data r ≡ false →
      attribute_for (link_attribute one) (meant one r a)
      ≡ attribute_for (link_attribute other) (meant other r a)
  role_written_same r a none =
      go (meant one r a) (meant other r a) refl refl (role_verdict r a none)
    where
      go : (m : Result (LinkOf L) DecodeError) (n : Result (LinkOf M) DecodeError) →
          meant one r a ≡ m → meant other r a ≡ n → verdict m ≡ verdict n →
          attribute_for (link_attribute one) (meant one r a)
          ≡ attribute_for (link_attribute other) (meant other r a)
      go (Ok x) (Ok y) e f same =
          role_written one lawful r a (ap (λ (q : Result (LinkOf L) DecodeError). is_ok q) e)
          ∙ role_writes r a none
          ∙ sym (role_written other other_lawful r a
          (ap (λ (q : Result (LinkOf M) DecodeError). is_ok q) f))
      go (Ok x) (Err d) e f same = absurd cc
      go (Err d) (Ok y) e f same = absurd cc
      go (Err d) (Err c) e f same =
          ap (λ (q : Result (LinkOf L) DecodeError). attribute_for (link_attribute one) q) e
          ∙ sym (ap (λ (q : Result (LinkOf M) DecodeError).
          attribute_for (link_attribute other) q) f)

  role_error_in : (r : Role) (a : Attribute) → is_supplied_data r ≡ false →
      error_in one r a ≡ error_in other r a
  role_error_in (role.Data tag) a none =
      ap (λ (c : Contents). error_in_payload c a.value) (links (family_of tag) none).contents
  role_error_in (role.PortData tag) a none =
      ap (λ (c : Contents). error_in_payload c a.value)
      (ports (port_family_of tag) none).contents
  role_error_in role.Kind a none = refl
  role_error_in role.PortKind a none = refl
  role_error_in role.Xstats a none = refl
  role_error_in role.Misplaced a none = refl
  role_error_in role.Unknown a none = refl

  -- ---- an attribute, under the current kinds before it

  link_writes : (t : CurrentKinds) (a : Attribute) → is_supplied_data (role_at t a) ≡ false →
      attribute_for (link_attribute one) (link_meaning one t a)
      ≡ attribute_for (link_attribute other) (link_meaning other t a)
  link_writes t a none =
      ap (λ (q : Result (LinkOf L) DecodeError). attribute_for (link_attribute one) q)
      (meaning_is one t a (role_at t a) refl)
      ∙ role_written_same (role_at t a) a none
      ∙ sym (ap (λ (q : Result (LinkOf M) DecodeError). attribute_for (link_attribute other) q)
      (meaning_is other t a (role_at t a) refl))

  link_verdict : (t : CurrentKinds) (a : Attribute) → is_supplied_data (role_at t a) ≡ false →
      verdict (link_meaning one t a) ≡ verdict (link_meaning other t a)
  link_verdict t a none =
      ap verdict (meaning_is one t a (role_at t a) refl)
      ∙ role_verdict (role_at t a) a none
      ∙ sym (ap verdict (meaning_is other t a (role_at t a) refl))

  link_counted : (t : CurrentKinds) (a : Attribute) → is_supplied_data (role_at t a) ≡ false →
      link_headers one t a ≡ link_headers other t a
  link_counted t a none =
      headers_is one t a (role_at t a) refl
      ∙ role_counted (role_at t a) a none
      ∙ sym (headers_is other t a (role_at t a) refl)

  link_needs : (t : CurrentKinds) (a : Attribute) → is_supplied_data (role_at t a) ≡ false →
      link_needs_memory one t a ≡ link_needs_memory other t a
  link_needs t a none =
      memory_is one t a (role_at t a) refl
      ∙ role_needs (role_at t a) a none
      ∙ sym (memory_is other t a (role_at t a) refl)

  alike_by_role : {N : DataTypes} (layer : DataFamilies N) (t : CurrentKinds) (a b : Attribute) →
      link_alike layer t a b ≡ row_alike (link_row layer (role_at t a)) a b
  unfolding alike_in
  alike_by_role layer t a b = refl

  links_alike : (t : CurrentKinds) (a b : Attribute) → is_supplied_data (role_at t a) ≡ false →
      link_alike one t a b ≡ link_alike other t a b
  links_alike t a b none =
      alike_by_role one t a b
      ∙ role_alike (role_at t a) a b none
      ∙ sym (alike_by_role other t a b)

  alike_typed : {N : DataTypes} (layer : DataFamilies N) (t : CurrentKinds) (a b : Attribute) →
      link_alike layer t a b ≡ true → masked b.kind ≡ masked a.kind
  alike_typed layer t a b h =
      (role_alike_after layer (role_at t a) t a b (sym (alike_by_role layer t a b) ∙ h)).0

  links_differ : (t : CurrentKinds) (p q : PlacedNla) →
      is_supplied_data (role_at t p.nla) ≡ false →
      link_difference one t p q ≡ link_difference other t p q
  links_differ t p q none =
      ap (λ (o : Option Difference).
      if masked q.nla.kind == masked p.nla.kind then o else Some (differ family.LinkInfo p q))
      (role_differs (role_at t p.nla) p q none)

  -- attributes of one type have one role
  typed_role : (t : CurrentKinds) (p q : PlacedNla) →
      (masked q.nla.kind == masked p.nla.kind) ≡ true → role_at t q.nla ≡ role_at t p.nla
  typed_role t p q e =
      same_role one t p.nla q.nla (eqb-true (masked q.nla.kind) (masked p.nla.kind) e)

  links_differ_second : (t : CurrentKinds) (p q : PlacedNla) →
      is_supplied_data (role_at t q.nla) ≡ false →
      link_difference one t p q ≡ link_difference other t p q
  links_differ_second t p q none =
      chosen_same (masked q.nla.kind == masked p.nla.kind)
      (role_difference one (role_at t p.nla) p q) (role_difference other (role_at t p.nla) p q)
      (Some (differ family.LinkInfo p q))
      (λ e.
      role_differs (role_at t p.nla) p q
      (ap (λ (r : Role). is_supplied_data r) (sym (typed_role t p q e)) ∙ none))

  -- names without a difference are equal, and no other attribute's payload is a kind
  role_stays : (r : Role) (t : CurrentKinds) (p q : PlacedNla) → role_difference one r p q ≡ None →
      or_stay t (kinds_after_role r t p.nla) ≡ or_stay t (kinds_after_role r t q.nla)
  role_stays role.Kind t p q e =
      (role_alike_after one role.Kind t p.nla q.nla
      (passes_if_none (row_alike (link_row one role.Kind) p.nla q.nla)
      (differ family.LinkInfo p q) e)).1
  role_stays role.PortKind t p q e =
      (role_alike_after one role.PortKind t p.nla q.nla
      (passes_if_none (row_alike (link_row one role.PortKind) p.nla q.nla)
      (differ family.LinkInfo p q) e)).1
  role_stays (role.Data tag) t p q e = refl
  role_stays (role.PortData tag) t p q e = refl
  role_stays role.Xstats t p q e = refl
  role_stays role.Misplaced t p q e = refl
  role_stays role.Unknown t p q e = refl

  links_stay : (t : CurrentKinds) (p q : PlacedNla) → link_difference one t p q ≡ None →
      next_kinds t p.nla ≡ next_kinds t q.nla
  unfolding next_kinds
  links_stay t p q e =
      let both = first_is_none (masked q.nla.kind == masked p.nla.kind)
      (role_difference one (role_at t p.nla) p q) (differ family.LinkInfo p q) e in
      role_stays (role_at t p.nla) t p q both.1
      ∙ ap (λ (r : Role). or_stay t (kinds_after_role r t q.nla)) (sym (typed_role t p q both.0))

  -- ---- lists of attributes

  pub list_verdict : (t : CurrentKinds) (ps : List (Result Attribute ℕ)) →
      NoneHas is_supplied_data t ps →
      verdict (values_from one t ps) ≡ verdict (values_from other t ps)
  list_verdict t ps none =
      verdicts_same is_supplied_data (link_meaning one) (link_meaning other) link_verdict t ps none

  pub list_headers : (t : CurrentKinds) (ps : List (Result Attribute ℕ)) →
      NoneHas is_supplied_data t ps → headers_from one t ps ≡ headers_from other t ps
  list_headers t ps none =
      headers_same is_supplied_data (link_meaning one) (link_meaning other) link_verdict
      (link_headers one) (link_headers other) link_counted t ps none

  pub list_memory : (t : CurrentKinds) (ps : List (Result Attribute ℕ)) →
      NoneHas is_supplied_data t ps → memory_from one t ps ≡ memory_from other t ps
  list_memory t ps none =
      memory_same is_supplied_data (link_meaning one) (link_meaning other) link_verdict
      (link_needs_memory one) (link_needs_memory other) link_needs t ps none

  pub list_alike_first : (t : CurrentKinds) (ps qs : List (Result Attribute ℕ)) →
      NoneHas is_supplied_data t ps → alike_from one t ps qs ≡ alike_from other t ps qs
  list_alike_first t ps qs none =
      alike_first is_supplied_data (link_alike one) (link_alike other) links_alike t ps qs none

  pub list_alike_second : (t : CurrentKinds) (ps qs : List (Result Attribute ℕ)) →
      NoneHas is_supplied_data t qs → alike_from one t ps qs ≡ alike_from other t ps qs
  list_alike_second t ps qs none =
      alike_second is_supplied_data (link_alike one) (link_alike other) links_alike
      (alike_typed one) (alike_typed other) (same_role one) (link_alike_after one) t ps qs none

  pub list_difference : (t : CurrentKinds) (s u : List ℕ) →
      NoneHas is_supplied_data t (nla_items s) →
      pairs_difference family.LinkInfo (link_difference one) next_kinds t (attributes_of s)
      (attributes_of u)
      ≡ pairs_difference family.LinkInfo (link_difference other) next_kinds t (attributes_of s)
      (attributes_of u)
  unfolding attributes_of
  list_difference t s u none =
      difference_same is_supplied_data (link_difference one) (link_difference other) links_differ
      0 t (nla_items s) (placed_from 0 (nla_items u)) none

  pub list_difference_to : (t : CurrentKinds) (s u : List ℕ) →
      NoneHas is_supplied_data t (nla_items u) →
      pairs_difference family.LinkInfo (link_difference one) next_kinds t (attributes_of s)
      (attributes_of u)
      ≡ pairs_difference family.LinkInfo (link_difference other) next_kinds t (attributes_of s)
      (attributes_of u)
  unfolding attributes_of
  list_difference_to t s u none =
      difference_second is_supplied_data (link_difference one) (link_difference other)
      links_differ_second links_stay 0 t (placed_from 0 (nla_items s)) (nla_items u) none

  pub list_written : (t : CurrentKinds) (ps : List (Result Attribute ℕ)) →
      NoneHas is_supplied_data t ps →
      attributes_for (link_attribute one) (values_from one t ps)
      ≡ attributes_for (link_attribute other) (values_from other t ps)
  list_written t ps none =
      written_same is_supplied_data (link_meaning one) (link_meaning other) link_verdict
      (link_attribute one) (link_attribute other) link_writes t ps none

  -- ---- the offsets of an error

  list_stop : (t : CurrentKinds) (ps : List (Result Attribute ℕ)) →
      NoneHas is_supplied_data t ps → link_stop one t ps ≡ link_stop other t ps
  list_stop t ps none =
      stop_same is_supplied_data (link_meaning one) (link_meaning other) link_verdict
      (link_error_in one) (link_error_in other) (λ u a e. role_error_in (role_at u a) a e) t ps none

  offsets_same : (s : List ℕ) → NoneHas is_supplied_data no_kinds (nla_items s) →
      (d e : DecodeError) (place at inner within : ℕ) → IsErrorAt one s d place inner →
      IsErrorAt other s e at within → (place ≡ at) × (inner ≡ within)
  offsets_same s none d e place at inner within here there =
      let same =
      sym (stop_is one s d here.0)
      ∙ list_stop no_kinds (nla_items s) none
      ∙ stop_is other s e there.0 in
      let places : place ≡ at =
      here.1 ∙ ap (λ (u : Stop). place_after s u.front) same ∙ sym there.1 in (
        places,
        here.2
            ∙ ap (λ (n : ℕ). n + error_in_rejected one s d here.0) places
            ∙ ap (λ (u : Stop). at + u.within) same
            ∙ sym there.2,
      )

  -- ---- what is unmet of an accepted list: each attribute has its role by the names before it

  abbrev IsElsewhere : Item → Type 0
  IsElsewhere item = is_supplied_data (role_of_item item) ≡ false

  ok_first : {X : Type 0} (m : Result X DecodeError) (v : Result (List X) DecodeError) →
      IsOk (with_more m v) → IsOk m
  ok_first (Ok x) v h = refl
  ok_first (Err e) v h = absurd cc

  ok_rest : {X : Type 0} (m : Result X DecodeError) (v : Result (List X) DecodeError) →
      IsOk (with_more m v) → IsOk v
  ok_rest (Ok x) (Ok xs) h = refl
  ok_rest (Ok x) (Err e) h = absurd cc
  ok_rest (Err e) v h = absurd cc

  items_elsewhere : (n : ℕ) (names : Named) (ps : List (Result Attribute ℕ)) →
      IsOk (values_from one (kinds_named names) ps) →
      NoneHas is_supplied_data (kinds_named names) ps →
      AllByRecursion IsElsewhere (items_under names (map (λ p. p.nla) (placed_from n ps)))
  items_elsewhere n names [] ok none = tt
  items_elsewhere n names ((Err seen) ∷ more) ok none = tt
  items_elsewhere n names ((Ok a) ∷ more) ok none =
      let t = kinds_named names in
      let here = link_meaning one t a in
      let rest = values_from one (next_kinds t a) more in
      let first = ok_first here rest ok in
      let both = under_next one
      (λ (u : CurrentKinds).
      IsOk (values_from one u more) × NoneHas is_supplied_data u more) names a first
      (ok_rest here rest ok, none.1) in (
        none.0,
        items_elsewhere (n + aligned (4 + length a.value)) (names_after names a) more both.0
            both.1,
      )

  each_elsewhere : (s : List ℕ) → IsOk (values_from one no_kinds (nla_items s)) →
      NoneHas is_supplied_data no_kinds (nla_items s) →
      AllByRecursion IsElsewhere (items_of s)
  unfolding attributes_of
  each_elsewhere s ok none = items_elsewhere 0 no_names (nla_items s) ok none

  link_leaves : (have want : List ℕ) (found : Option PlacedNla) (p : PlacedNla) →
      IsElsewhere (item_at want p) →
      linked_unmet one have want found p ≡ linked_unmet other have want found p
  link_leaves have want None p e = refl
  link_leaves have want (Some h) p e =
      let item = item_at want p in
      let r = role_of_item item in
      let whole : Option Unmet = Some (whole_unmet family.LinkInfo p (Some h)) in
      ap (λ (o : Option Unmet).
      if same_kind r (item_at have h).named item.named then o else whole)
      (role_leaves r h p e)

  first_same : (f g : PlacedNla → Option Unmet) (at : PlacedNla → Item) →
      ((p : PlacedNla) → IsElsewhere (at p) → f p ≡ g p) → (list : List PlacedNla) →
      AllByRecursion IsElsewhere (map at list) → first_of f list ≡ first_of g list
  first_same f g at each [] all = refl
  first_same f g at each (p ∷ more) all =
      ap (λ (o : Option Unmet). first_or o (first_of f more)) (each p all.0)
      ∙ ap (λ (o : Option Unmet). first_or (g p) o) (first_same f g at each more all.1)

  counted_same : (have want : List ℕ) (p : PlacedNla) → IsElsewhere (item_at want p) →
      counted_unmet (linked_unmet one have want) (attributes_of have) (attributes_of want) p
      ≡ counted_unmet (linked_unmet other have want) (attributes_of have) (attributes_of want) p
  counted_same have want p e =
      ap (λ (o : Option Unmet). if counts (attributes_of want) p then o else None)
      (link_leaves have want (last_like (attributes_of have) p) p e)

  pub list_unmet_same : (have want : List ℕ) → IsOk (values_from one no_kinds (nla_items want)) →
      NoneHas is_supplied_data no_kinds (nla_items want) →
      strings_unmet one have want ≡ strings_unmet other have want
  list_unmet_same have want ok none =
      first_same
      (counted_unmet (linked_unmet one have want) (attributes_of have) (attributes_of want))
      (counted_unmet (linked_unmet other have want) (attributes_of have) (attributes_of want))
      (item_at want) (counted_same have want) (attributes_of want)
      (subst (λ (items : List Item). AllByRecursion IsElsewhere items) (sym (items_placed want))
      (each_elsewhere want ok none))

  -- ---- what an accepted list leaves unmet: an attribute of another list is compared by its own
  -- role with one that has this role too

  one_supplied : (m n : Named) (k : ℕ) → is_supplied_data (role_of (kinds_named m) k) ≡ false →
      same_kind (role_of (kinds_named n) k) m n ≡ true →
      is_supplied_data (role_of (kinds_named n) k) ≡ false
  one_supplied m n k none same = go (is_supplied_data (role_of (kinds_named n) k)) refl
    where
      go : (b : Bool) → is_supplied_data (role_of (kinds_named n) k) ≡ b →
          is_supplied_data (role_of (kinds_named n) k) ≡ false
      go false e = e
      go true e =
          ap (λ (r : Role). is_supplied_data r)
          (sym (one_role m n k
          (λ misplaced.
          absurd (false_true (sym (ap (λ (r : Role). is_supplied_data r) misplaced) ∙ e))) same))
          ∙ none

  link_left : (have want : List ℕ) (found : Option PlacedNla) (p : PlacedNla) →
      IfSome found (λ h. IsElsewhere (item_at have h)) →
      IfSome found (λ h. has_type (masked p.nla.kind) h ≡ true) →
      linked_unmet one have want found p ≡ linked_unmet other have want found p
  link_left have want None p none typed = refl
  link_left have want (Some h) p none typed =
      let there = item_at have h in
      let item = item_at want p in
      let r = role_of_item item in
      let number = eqb-true (masked h.nla.kind) (masked p.nla.kind) typed in
      chosen_same (same_kind r there.named item.named) (role_unmet one r h p)
      (role_unmet other r h p) (Some (whole_unmet family.LinkInfo p (Some h)))
      (λ same.
      role_leaves r h p
      (one_supplied there.named item.named (masked p.nla.kind)
      (ap (λ (k : ℕ). is_supplied_data (role_of (kinds_named there.named) k)) (sym number) ∙ none)
      same))

  all_at : (at : PlacedNla → Item) (list : List PlacedNla) →
      AllByRecursion IsElsewhere (map at list) → AllByRecursion (λ p. IsElsewhere (at p)) list
  all_at at [] all = tt
  all_at at (p ∷ more) all = (all.0, all_at at more all.1)

  first_each : (f g : PlacedNla → Option Unmet) → ((p : PlacedNla) → f p ≡ g p) →
      (list : List PlacedNla) → first_of f list ≡ first_of g list
  first_each f g each [] = refl
  first_each f g each (p ∷ more) =
      ap (λ (o : Option Unmet). first_or o (first_of f more)) (each p)
      ∙ ap (λ (o : Option Unmet). first_or (g p) o) (first_each f g each more)

  counted_left : (have want : List ℕ) →
      AllByRecursion (λ h. IsElsewhere (item_at have h)) (attributes_of have) → (p : PlacedNla) →
      counted_unmet (linked_unmet one have want) (attributes_of have) (attributes_of want) p
      ≡ counted_unmet (linked_unmet other have want) (attributes_of have) (attributes_of want) p
  counted_left have want all p =
      let k = masked p.nla.kind in
      ap (λ (o : Option Unmet). if counts (attributes_of want) p then o else None)
      (link_left have want (last_like (attributes_of have) p) p
      (last_holds (λ h. IsElsewhere (item_at have h)) (has_type k) None (attributes_of have) all tt)
      (last_passes (has_type k) None (attributes_of have) tt))

  pub list_left_same : (have want : List ℕ) → IsOk (values_from one no_kinds (nla_items have)) →
      NoneHas is_supplied_data no_kinds (nla_items have) →
      strings_unmet one have want ≡ strings_unmet other have want
  list_left_same have want ok none =
      first_each
      (counted_unmet (linked_unmet one have want) (attributes_of have) (attributes_of want))
      (counted_unmet (linked_unmet other have want) (attributes_of have) (attributes_of want))
      (counted_left have want
      (all_at (item_at have) (attributes_of have)
      (subst (λ (items : List Item). AllByRecursion IsElsewhere items) (sym (items_placed have))
      (each_elsewhere have ok none)))) (attributes_of want)

  -- ---- every answer

  pub answers : (s : List ℕ) → HasNoSuppliedData s → AnswerAlike one other s
  unfolding HasNoSuppliedData reading headers_of_string reading_needs_memory alike_strings
  answers s none = record {
    accepted = list_verdict no_kinds (nla_items s) none;
    placed = offsets_same s none;
    canonical = λ t. (
      written_canonical (link_attribute one) (link_attribute other)
          (values_from one no_kinds (nla_items s)) (values_from other no_kinds (nla_items s))
          (list_verdict no_kinds (nla_items s) none) (list_written no_kinds (nla_items s) none) t,
      written_canonical (link_attribute other) (link_attribute one)
          (values_from other no_kinds (nla_items s)) (values_from one no_kinds (nla_items s))
          (sym (list_verdict no_kinds (nla_items s) none))
          (sym (list_written no_kinds (nla_items s) none)) t,
    );
    unfit = (
      written_unfit (link_attribute one) (link_attribute other)
          (values_from one no_kinds (nla_items s)) (values_from other no_kinds (nla_items s))
          (list_verdict no_kinds (nla_items s) none) (list_written no_kinds (nla_items s) none),
      written_unfit (link_attribute other) (link_attribute one)
          (values_from other no_kinds (nla_items s)) (values_from one no_kinds (nla_items s))
          (sym (list_verdict no_kinds (nla_items s) none))
          (sym (list_written no_kinds (nla_items s) none)),
    );
    headers = list_headers no_kinds (nla_items s) none;
    needs_memory = list_memory no_kinds (nla_items s) none;
    alike = λ t. list_alike_first no_kinds (nla_items s) (nla_items t) none;
    alike_to = λ t. list_alike_second no_kinds (nla_items t) (nla_items s) none;
    difference = λ t. list_difference no_kinds s t none;
    difference_to = λ t. list_difference_to no_kinds t s none;
    unmet = λ ok have. list_unmet_same have s ok none;
    unmet_by = λ ok want. list_left_same s want ok none;
  }

-- a layer and the layer of the same peer
pub layer_answers : {T : Types} (families : Families T) → AreLawful (data_families families) →
    AreLawful (data_families (peer_families families.peer)) → (s : List ℕ) →
    HasNoSuppliedData s →
    AnswerAlike (data_families families) (data_families (peer_families families.peer)) s
layer_answers families lawful verbatim_lawful s none =
    let verbatim = peer_families families.peer in
    answers (data_families families) (data_families verbatim) (data_equal families)
    (port_equal families) (λ f. (data_known families f, data_known verbatim f))
    (λ f. (port_known families f, port_known verbatim f)) lawful verbatim_lawful s none
