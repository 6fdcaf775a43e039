-- From the results of the calls of shapes to what a row means.
use Rattle.std.proofs.Common.{
  ◌≡◌,
  ℕ,
  Bool,
  true,
  false,
  ◌&&◌,
  eqb,
  List,
  refl,
  sym,
  ap,
  subst,
  ◌∙◌,
  Result,
  Ok,
  Err,
  inl,
  inr,
}
use Rattle.std.specs.Prelude.{IsOk, is_ok}
use Rattle.std.specs.Str.{bytes_eq, is_utf8}
use Rattle.std.proofs.lemmas.Bool.{cases_Bool, cond-false}
use Rattle.nla_frame.specs.Answers.{verdict}
use Rattle.nla_frame.specs.Attribute.{Attribute, masked}
use Rattle.nla_frame.specs.Kept.{kept}
use Rattle.nla_frame.specs.declared.error.Family.{Family}
use Rattle.nla_frame.specs.declared.error.Cause.{Cause}
use Rattle.nla_frame.specs.declared.error.Cause.TheVariants as cause
use Rattle.nla_frame.specs.declared.error.DecodeError.{DecodeError}
use Rattle.nla_frame.specs.declared.default_nla.DefaultNla.{DefaultNla}
use Rattle.linkinfo_shapes.specs.declared.shape.Shape.{Shape}
use Rattle.linkinfo_shapes.specs.declared.shape.Shape.TheVariants.{Name, Raw}
use Rattle.linkinfo_shapes.specs.declared.datum.Datum.{Datum}
use Rattle.nla_frame.specs.Payload.{stripped}
use Rattle.linkinfo_shapes.specs.Shapes.{
  IsPlain,
  IsAccepted,
  Carrier,
  means,
  payload_alike,
  needs_memory,
  verdict as shape_verdict,
}
use Rattle.linkinfo_shapes.specs.ShapeLaws.{accepted}
use Rattle.linkinfo_shapes.specs.Data.{value_of, unwrap, ReadsAs}
use Rattle.linkinfo_shapes.specs.DataLaws.{read_means, read_suits}
use Rattle.linkinfo_table.specs.declared.lookup.Lookup.TheVariants as lookup
use Rattle.linkinfo_table.specs.Codecs.{Own}
use Rattle.linkinfo_table.specs.Lists.{◌>>=◌, store_memory}
use Rattle.linkinfo_table.specs.Rows.{
  error_at,
  labelled,
  row_meaning,
  meaning_in,
  row_alike,
  alike_in,
  row_needs_memory,
  memory_in,
}
use Rattle.linkinfo_table.specs.FamilyRows.{
  own,
  FamilyRow,
  Plain,
  Custom,
  Refuses,
  Absent,
  row_of,
  lookup_of,
  IsFlat,
  SuitsRow,
  IsLabelled,
  StoresLabelled,
  owns_memory,
  is_copied,
}
use Rattle.linkinfo_table.specs.FamilyRowLaws.{copied_of}

abbrev done : {A E : Type 0} → A → Result A E
done x = Ok x

shape_same : (s t : Shape) → lookup.Is s ≡ lookup.Is t → s ≡ t
shape_same s t e = cc

cause_same : (c d : Cause) → lookup.Refused c ≡ lookup.Refused d → c ≡ d
cause_same c d e = cc

-- a result for one shape and payload holds for the row's shape and the attribute's payload
along : (s t : Shape) (p q : List ℕ) (r : Result Datum Cause) → s ≡ t → p ≡ q → ReadsAs t p r →
    ReadsAs s q r
along s t p q r e h k = subst (λ z. ReadsAs z q r) (sym e) (subst (λ z. ReadsAs t z r) h k)

pub flat_plain : {F : Type 0} (r : FamilyRow F) (shape : Shape) → IsFlat r →
    lookup_of r ≡ lookup.Is shape → IsPlain shape
flat_plain (Plain s label) shape flat e = subst IsPlain (shape_same s shape e) flat
flat_plain (Custom s nested codec label) shape flat e = absurd flat
flat_plain (Refuses cause) shape flat e = absurd cc
flat_plain Absent shape flat e = absurd cc

pub suits_row : {F : Type 0} (r : FamilyRow F) (shape : Shape) (p : List ℕ) (d : Datum) → IsFlat r →
    lookup_of r ≡ lookup.Is shape → ReadsAs shape p (Ok d) → SuitsRow r (value_of d)
suits_row (Plain s label) shape p d flat e k =
    read_suits s p d (along s shape p p (Ok d) (shape_same s shape e) refl k)
suits_row (Custom s nested codec label) shape p d flat e k = absurd flat
suits_row (Refuses cause) shape p d flat e k = absurd cc
suits_row Absent shape p d flat e k = absurd cc

pub flat_at : {F : Type 0} (rows : ℕ → FamilyRow F) (k n : ℕ) → k ≡ n → IsFlat (rows n) →
    IsFlat (rows k)
flat_at rows k n e flat = subst (λ m. IsFlat (rows m)) (sym e) flat

abbrev no_text : Result (List ℕ) Cause
no_text = Err cause.Utf8

not_read : (x : List ℕ) → no_text ≡ Ok x → ⊥
not_read x h = cc

-- a decoded text or byte datum owns memory
owned_shape_needs : (s : Shape) (p : List ℕ) (x : Carrier s) → owns_memory s ≡ true →
    means s p ≡ Ok x → needs_memory s p ≡ true
owned_shape_needs Name p x e h =
    elim (cases_Bool (is_utf8 (stripped p))) [
      | inl text ↦ text
      | inr other ↦ absurd (not_read x (sym (cond-false (is_utf8 (stripped p)) _ _ other) ∙ h))
    ]
owned_shape_needs Raw p x e h = refl
owned_shape_needs _ p x e h = absurd cc

pub no_error : false ≡ true → ⊥
no_error h = absurd cc

pub not_both : (b : Bool) → b ≡ true → b ≡ false → ⊥
not_both true h k = absurd cc
not_both false h k = absurd cc

abbrev read_kept : DefaultNla → Result DefaultNla DecodeError
read_kept d = Ok d

pub kept_same : (a : Attribute) (d : DefaultNla) → read_kept (kept a) ≡ Ok d → d ≡ kept a
kept_same a d h = kept_back (kept a) d h
  where
    kept_back : (e d : DefaultNla) → read_kept e ≡ read_kept d → d ≡ e
    kept_back e d h = cc

-- a fact about the row at the code's number is one about the attribute
module _ {F : Type 0} (f : Family) (other : DefaultNla → F) where
  pub meaning_at : (rows : ℕ → FamilyRow F) (a : Attribute) (k : ℕ) (m : Result F DecodeError) →
      k ≡ masked a.kind → row_meaning f other (row_of (rows k)) a ≡ m →
      meaning_in f other (λ n. row_of (rows n)) a ≡ m
  unfolding meaning_in
  meaning_at rows a k m e h = ap (λ (n : ℕ). row_meaning f other (row_of (rows n)) a) (sym e) ∙ h

  pub read_row : (r : FamilyRow F) (a : Attribute) (shape : Shape) (p : List ℕ) (d : Datum)
      (x : F) → IsFlat r → lookup_of r ≡ lookup.Is shape → p ≡ a.value →
      ReadsAs shape p (Ok d) → IsLabelled r (value_of d) x → row_meaning f other (row_of r) a ≡ Ok x
  read_row (Plain s label) a shape p d x flat e q k l =
      ap (λ (m : Result (Carrier s) Cause). labelled f (masked a.kind) label (own m))
      (read_means s a.value d (along s shape p a.value (Ok d) (shape_same s shape e) q k))
      ∙ ap done (sym l)
  read_row (Custom s nested codec label) a shape p d x flat e q k l = absurd flat
  read_row (Refuses cause) a shape p d x flat e q k l = absurd l
  read_row Absent a shape p d x flat e q k l = absurd l

  error_is : (a : Attribute) (c : Cause) (g : Family) (k : ℕ) (error : DecodeError) →
      error ≡ record { family = g; kind = k; cause = c } → g ≡ f → k ≡ masked a.kind →
      error_at f (masked a.kind) (Own c) ≡ error
  error_is a c g k error e h i = cc

  abbrev bad : DecodeError → Result F DecodeError
  bad error = Err error

  pub refuse_row : (r : FamilyRow F) (a : Attribute) (shape : Shape) (p : List ℕ) (c : Cause)
      (g : Family) (k : ℕ) (error : DecodeError) → IsFlat r →
      lookup_of r ≡ lookup.Is shape → p ≡ a.value → means shape p ≡ Err c →
      error ≡ record { family = g; kind = k; cause = c } → g ≡ f → k ≡ masked a.kind →
      row_meaning f other (row_of r) a ≡ Err error
  refuse_row (Plain s label) a shape p c g k error flat e q m d h i =
      let there : means shape a.value ≡ Err c = subst (λ (z : List ℕ). means shape z ≡ Err c) q m in
      let failed : means s a.value ≡ Err c =
      subst (λ (z : Shape). means z a.value ≡ Err c) (sym (shape_same s shape e)) there in
      ap (λ (t : Result (Carrier s) Cause). labelled f (masked a.kind) label (own t)) failed
      ∙ ap bad (error_is a c g k error d h i)
  refuse_row (Custom s nested codec label) a shape p c g k error flat e q m d h i = absurd flat
  refuse_row (Refuses cause) a shape p c g k error flat e q m d h i = absurd cc
  refuse_row Absent a shape p c g k error flat e q m d h i = absurd cc

  pub refused_row : (r : FamilyRow F) (a : Attribute) (c : Cause) (g : Family) (k : ℕ)
      (error : DecodeError) → lookup_of r ≡ lookup.Refused c →
      error ≡ record { family = g; kind = k; cause = c } → g ≡ f → k ≡ masked a.kind →
      row_meaning f other (row_of r) a ≡ Err error
  refused_row (Plain s label) a c g k error e d h i = absurd cc
  refused_row (Custom s nested codec label) a c g k error e d h i = absurd cc
  refused_row (Refuses cause) a c g k error e d h i =
      ap (λ (z : Cause). bad (error_at f (masked a.kind) (Own z))) (cause_same cause c e)
      ∙ ap bad (error_is a c g k error d h i)
  refused_row Absent a c g k error e d h i = absurd cc

  pub kept_row : (r : FamilyRow F) (a : Attribute) (d : DefaultNla) (x : F) →
      lookup_of r ≡ lookup.Unknown → d ≡ kept a → x ≡ other d →
      row_meaning f other (row_of r) a ≡ Ok x
  kept_row (Plain s label) a d x e h i = absurd cc
  kept_row (Custom s nested codec label) a d x e h i = absurd cc
  kept_row (Refuses cause) a d x e h i = absurd cc
  kept_row Absent a d x e h i = ap done (ap other (sym h) ∙ sym i)

  -- ---- storing

  abbrev sound : {H : Type 0} → H → Result H DecodeError
  sound h = Ok h

  pub store_row : {H : Type 0} (with : F → H) (r : FamilyRow F) (a : Attribute) (shape : Shape)
      (p : List ℕ) (d : Datum) (held : H) → IsFlat r → lookup_of r ≡ lookup.Is shape →
      p ≡ a.value → ReadsAs shape p (Ok d) → StoresLabelled with r (value_of d) held →
      (row_meaning f other (row_of r) a >>= λ x. sound (with x)) ≡ Ok held
  store_row with (Plain s label) a shape p d held flat e q k l =
      ap (λ (m : Result F DecodeError). m >>= λ x. sound (with x))
      (read_row (Plain s label) a shape p d (label (unwrap s (value_of d))) flat e q k refl)
      ∙ ap sound (sym l)
  store_row with (Custom s nested codec label) a shape p d held flat e q k l = absurd flat
  store_row with (Refuses cause) a shape p d held flat e q k l = absurd l
  store_row with Absent a shape p d held flat e q k l = absurd l

  pub store_kept_row : {H : Type 0} (with : F → H) (r : FamilyRow F) (a : Attribute)
      (d : DefaultNla)
      (held : H) → lookup_of r ≡ lookup.Unknown → d ≡ kept a →
      held ≡ with (other d) → (row_meaning f other (row_of r) a >>= λ x. sound (with x)) ≡ Ok held
  store_kept_row with r a d held e h i =
      ap (λ (m : Result F DecodeError). m >>= λ x. sound (with x))
      (kept_row r a d (other d) e h refl) ∙ ap sound (sym i)

  pub write_at : {H : Type 0} (with : F → H) (m n : Result F DecodeError) (held : H) → m ≡ n →
      (n >>= λ x. sound (with x)) ≡ Ok held → (m >>= λ x. sound (with x)) ≡ Ok held
  write_at with m n held e h = ap (λ (r : Result F DecodeError). r >>= λ x. sound (with x)) e ∙ h

  pub store_verdict : {H : Type 0} (with : F → H) (m : Result F DecodeError) (held : H) →
      (m >>= λ x. sound (with x)) ≡ Ok held → Ok tt ≡ verdict m
  store_verdict with (Ok x) held e = refl
  store_verdict with (Err d) held e = absurd cc

  pub row_ok : (r : FamilyRow F) (a : Attribute) (shape : Shape) (p : List ℕ) (d : Datum) →
      IsFlat r → lookup_of r ≡ lookup.Is shape → p ≡ a.value →
      ReadsAs shape p (Ok d) → is_ok (row_meaning f other (row_of r) a) ≡ true
  row_ok (Plain s label) a shape p d flat e q k =
      ap (λ (m : Result F DecodeError). is_ok m)
      (read_row (Plain s label) a shape p d (label (unwrap s (value_of d))) flat e q k refl)
  row_ok (Custom s nested codec label) a shape p d flat e q k = absurd flat
  row_ok (Refuses cause) a shape p d flat e q k = absurd cc
  row_ok Absent a shape p d flat e q k = absurd cc

  -- storing a decoded datum needs memory, unless neither slot nor datum needs any
  pub read_stores : (certain needs : Bool) (m : Result F DecodeError) →
      (certain ≡ true → needs ≡ true) → is_ok m ≡ true → store_memory certain needs m ≡ false → ⊥
  read_stores certain true m own ok h = absurd cc
  read_stores true false m own ok h = absurd (no_error (own refl))
  read_stores false false m own ok h = absurd (not_both (is_ok m) ok h)

  pub needs_stores : (certain needs : Bool) (m : Result F DecodeError) → needs ≡ true →
      store_memory certain needs m ≡ false → ⊥
  needs_stores certain true m e h = absurd cc
  needs_stores certain false m e h = absurd cc

  -- ---- checking

  pub check_row : (r : FamilyRow F) (a : Attribute) (shape : Shape) (p : List ℕ) → IsFlat r →
      lookup_of r ≡ lookup.Is shape → p ≡ a.value →
      Ok tt ≡ shape_verdict (means shape p) → Ok tt ≡ verdict (row_meaning f other (row_of r) a)
  check_row (Plain s label) a shape p flat e q h =
      let there : Ok tt ≡ shape_verdict (means shape a.value) =
      subst (λ (z : List ℕ). Ok tt ≡ shape_verdict (means shape z)) q h in
      let here : Ok tt ≡ shape_verdict (means s a.value) =
      subst (λ (z : Shape). Ok tt ≡ shape_verdict (means z a.value)) (sym (shape_same s shape e))
      there in
      go (means s a.value) here
    where
      go : (m : Result (Carrier s) Cause) → Ok tt ≡ shape_verdict m →
          Ok tt ≡ verdict (labelled f (masked a.kind) label (own m))
      go (Ok u) h = refl
      go (Err c) h = absurd cc
  check_row (Custom s nested codec label) a shape p flat e q h = absurd flat
  check_row (Refuses cause) a shape p flat e q h = absurd cc
  check_row Absent a shape p flat e q h = absurd cc

  pub means_error : (shape : Shape) (p : List ℕ) (c : Cause) →
      Err c ≡ shape_verdict (means shape p) → means shape p ≡ Err c
  means_error shape p c h = go (means shape p) h
    where
      go : (m : Result (Carrier shape) Cause) → Err c ≡ shape_verdict m → m ≡ Err c
      go (Ok u) h = absurd cc
      go (Err d) h = let same : d ≡ c = cc in ap (λ (z : Cause). Err z) same

  pub verdict_err : (m : Result F DecodeError) (error : DecodeError) → m ≡ Err error →
      Err error ≡ verdict m
  verdict_err m error e = sym (ap verdict e)

  pub verdict_ok : (m : Result F DecodeError) (x : F) → m ≡ Ok x → Ok tt ≡ verdict m
  verdict_ok m x e = sym (ap verdict e)

  pub verdict_at : (rows : ℕ → FamilyRow F) (a : Attribute) (k : ℕ)
      (v : Result (Unit {0}) DecodeError) → k ≡ masked a.kind →
      v ≡ verdict (row_meaning f other (row_of (rows k)) a) →
      v ≡ verdict (meaning_in f other (λ n. row_of (rows n)) a)
  verdict_at rows a k v e h =
      h ∙ ap verdict (sym (meaning_at rows a k (row_meaning f other (row_of (rows k)) a) e refl))

  -- ---- comparing

  accepted_row : (r : FamilyRow F) (a : Attribute) (shape : Shape) → IsFlat r →
      lookup_of r ≡ lookup.Is shape → IsOk (row_meaning f other (row_of r) a) →
      IsAccepted shape a.value
  accepted_row (Plain s label) a shape flat e h =
      subst (λ (z : Shape). IsAccepted z a.value) (shape_same s shape e)
      (go (means s a.value) refl h)
    where
      go : (m : Result (Carrier s) Cause) → means s a.value ≡ m →
          IsOk (labelled f (masked a.kind) label (own m)) → IsAccepted s a.value
      go (Ok u) k h = accepted s a.value u k
      go (Err c) k h = absurd cc
  accepted_row (Custom s nested codec label) a shape flat e h = absurd flat
  accepted_row (Refuses cause) a shape flat e h = absurd cc
  accepted_row Absent a shape flat e h = absurd cc

  pub accepted_at : (rows : ℕ → FamilyRow F) (a : Attribute) (k : ℕ) (shape : Shape) →
      k ≡ masked a.kind → IsFlat (rows k) → lookup_of (rows k) ≡ lookup.Is shape →
      IsOk (meaning_in f other (λ n. row_of (rows n)) a) → IsAccepted shape a.value
  accepted_at rows a k shape e flat l h =
      accepted_row (rows k) a shape flat l
      (subst (λ (m : Result F DecodeError). IsOk m)
      (meaning_at rows a k (row_meaning f other (row_of (rows k)) a) e refl) h)

-- ---- whether memory is needed

module _ {F : Type 0} where
  pub needs_at : (rows : ℕ → FamilyRow F) (a : Attribute) (k : ℕ) → k ≡ masked a.kind →
      row_needs_memory (row_of (rows k)) a ≡ true → memory_in (λ n. row_of (rows n)) a ≡ true
  unfolding memory_in
  needs_at rows a k e h = ap (λ (n : ℕ). row_needs_memory (row_of (rows n)) a) (sym e) ∙ h

  pub needs_kept : (r : FamilyRow F) (a : Attribute) → lookup_of r ≡ lookup.Unknown →
      row_needs_memory (row_of r) a ≡ true
  needs_kept (Plain s label) a e = absurd cc
  needs_kept (Custom s nested codec label) a e = absurd cc
  needs_kept (Refuses cause) a e = absurd cc
  needs_kept Absent a e = refl

  -- a datum that is copied is read from a payload that needs memory
  pub needs_row : (r : FamilyRow F) (a : Attribute) (shape : Shape) (p : List ℕ) (d : Datum) →
      IsFlat r → lookup_of r ≡ lookup.Is shape → p ≡ a.value → ReadsAs shape p (Ok d) →
      (is_copied (value_of d) ≡ false → ⊥) → row_needs_memory (row_of r) a ≡ true
  needs_row (Plain s label) a shape p d flat e q k never =
      let read = along s shape p a.value (Ok d) (shape_same s shape e) q k in
      elim (cases_Bool (owns_memory s)) [
        | inl owns ↦
            owned_shape_needs s a.value (unwrap s (value_of d)) owns (read_means s a.value d read)
        | inr none ↦ absurd (never (copied_of s (value_of d) (read_suits s a.value d read) ∙ none))
      ]
  needs_row (Custom s nested codec label) a shape p d flat e q k never = absurd flat
  needs_row (Refuses cause) a shape p d flat e q k never = absurd cc
  needs_row Absent a shape p d flat e q k never = absurd cc

  -- ---- two attributes

  pub alike_at : (rows : ℕ → FamilyRow F) (a b : Attribute) (k : ℕ) (t : Bool) → k ≡ masked a.kind →
      t ≡ row_alike (row_of (rows k)) a b → t ≡ alike_in (λ n. row_of (rows n)) a b
  unfolding alike_in
  alike_at rows a b k t e h = h ∙ ap (λ (n : ℕ). row_alike (row_of (rows n)) a b) e

  pub alike_typed : (r : FamilyRow F) (a b : Attribute) (shape : Shape) → IsFlat r →
      lookup_of r ≡ lookup.Is shape →
      (eqb (masked b.kind) (masked a.kind) && payload_alike shape a.value b.value)
      ≡ row_alike (row_of r) a b
  alike_typed (Plain s label) a b shape flat e =
      ap (λ z. eqb (masked b.kind) (masked a.kind) && payload_alike z a.value b.value)
      (sym (shape_same s shape e))
  alike_typed (Custom s nested codec label) a b shape flat e = absurd flat
  alike_typed (Refuses cause) a b shape flat e = absurd cc
  alike_typed Absent a b shape flat e = absurd cc

  pub alike_refused : (r : FamilyRow F) (a b : Attribute) (c : Cause) →
      lookup_of r ≡ lookup.Refused c → false ≡ row_alike (row_of r) a b
  alike_refused (Plain s label) a b c e = absurd cc
  alike_refused (Custom s nested codec label) a b c e = absurd cc
  alike_refused (Refuses cause) a b c e = refl
  alike_refused Absent a b c e = absurd cc

  pub alike_kept : (r : FamilyRow F) (a b : Attribute) → lookup_of r ≡ lookup.Unknown →
      (eqb b.kind a.kind && bytes_eq a.value b.value) ≡ row_alike (row_of r) a b
  alike_kept (Plain s label) a b e = absurd cc
  alike_kept (Custom s nested codec label) a b e = absurd cc
  alike_kept (Refuses cause) a b e = absurd cc
  alike_kept Absent a b e = refl
