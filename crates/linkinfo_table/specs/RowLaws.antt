-- The laws of a family defined by rows, whatever the codecs of its rows.
use Rattle.std.specs.Prelude.{
  ◌≡◌,
  ◌↔◌,
  ℕ,
  ◌*◌,
  ◌<◌,
  ◌≤◌,
  ◌==◌,
  Bool,
  true,
  false,
  List,
  length,
  Result,
  Ok,
  Err,
  refl,
}
use Rattle.std.specs.Str.{bytes_eq}
use Rattle.std.proofs.Common.{sym, ap, subst, ◌∙◌, arith}
use Rattle.std.proofs.lemmas.Bool.{eqb-true, eq-eqb, and_parts, and_from}
use Rattle.std.proofs.lemmas.Slice.Eq.{bytes_eq-Decides}
use Rattle.nla_frame.specs.Attribute.{Attribute, IsAttribute, IsBytes, Fits, masked}
use Rattle.nla_frame.specs.Kept.{kept}
use Rattle.nla_frame.specs.declared.error.Family.{Family}
use Rattle.nla_frame.specs.declared.error.DecodeError.{DecodeError}
use Rattle.nla_frame.specs.declared.default_nla.DefaultNla.{DefaultNla}
use Rattle.linkinfo_table.specs.Codecs.{PayloadError}
use Rattle.linkinfo_table.specs.Rows.{
  Entry,
  Row,
  Is,
  Refused,
  Unknown,
  labelled,
  row_meaning,
  meaning_in,
  row_alike,
  alike_in,
  row_headers,
  headers_inside,
  WellAt,
  WellFormed,
  IsRow,
  written_kind,
}

abbrev good : {A : Type 0} → A → Result A DecodeError
good x = Ok x

good_same : {A : Type 0} (x y : A) → good x ≡ good y → x ≡ y
good_same x y e = cc

-- the type that is written for a row has the row's number, and 16 bits
pub masked_written : (nested : Bool) (n : ℕ) → n < 16384 → masked (written_kind nested n) ≡ n
masked_written true n low = omega (arith, low)
masked_written false n low = omega (arith, low)

pub written_below : (nested : Bool) (n : ℕ) → n < 16384 → written_kind nested n < 65536
written_below true n low = omega (arith, low)
written_below false n low = omega (arith, low)

-- equivalent attributes have equal masked types
pub alike_masked : {F : Type 0} (r : Row F) (a b : Attribute) → row_alike r a b ≡ true →
    masked b.kind ≡ masked a.kind
alike_masked (Is e) a b t =
    eqb-true _ _ (and_parts (masked b.kind == masked a.kind) (e.codec.alike a.value b.value) t).0
alike_masked (Refused cause) a b t = absurd cc
alike_masked Unknown a b t =
    ap masked (eqb-true _ _ (and_parts (b.kind == a.kind) (bytes_eq a.value b.value) t).0)

module _ {F : Type 0} (f : Family) (other : DefaultNla → F) (attribute : F → Attribute)
    (rows : ℕ → Row F)
    (is_row : (n : ℕ) (e : Entry F) → rows n ≡ Is e → IsRow attribute n e)
    (keeps_other : (d : DefaultNla) →
    attribute (other d) ≡ record { kind = d.kind; value = d.value }) where
  -- the value of an attribute, under a row
  ReadAs : Row F → Attribute → F → Type 0
  ReadAs (Is e) a x = (u : e.codec.Carrier) × (e.codec.means a.value ≡ Ok u) × (e.label u ≡ x)
  ReadAs (Refused cause) a x = ⊥
  ReadAs Unknown a x = other (kept a) ≡ x

  read_as : (r : Row F) (a : Attribute) (x : F) → row_meaning f other r a ≡ Ok x → ReadAs r a x
  unfolding ReadAs
  read_as (Is e) a x h = go (e.codec.means a.value) refl h
    where
      go : (t : Result e.codec.Carrier PayloadError) → e.codec.means a.value ≡ t →
          labelled f (masked a.kind) e.label t ≡ Ok x →
          (u : e.codec.Carrier) × (e.codec.means a.value ≡ Ok u) × (e.label u ≡ x)
      go (Ok u) k h = (u, k, good_same _ _ h)
      go (Err error) k h = absurd cc
  read_as (Refused cause) a x h = absurd cc
  read_as Unknown a x h = good_same _ _ h

  -- a value has the type that its row is written with, and keeps the whole type if there is no row
  abbrev KindOf : Row F → Attribute → F → Type 0
  KindOf (Is e) a x = (attribute x).kind ≡ written_kind e.nested (masked a.kind)
  KindOf (Refused cause) a x = ⊥
  KindOf Unknown a x = (attribute x).kind ≡ a.kind

  kind_of : (r : Row F) (a : Attribute) (x : F) → rows (masked a.kind) ≡ r → ReadAs r a x →
      KindOf r a x
  unfolding ReadAs
  kind_of (Is e) a x h p =
      ap (λ (y : F). (attribute y).kind) (sym p.2)
      ∙ ap (λ (y : Attribute). y.kind) ((is_row (masked a.kind) e h).keeps p.0)
  kind_of (Refused cause) a x h p = p
  kind_of Unknown a x h p =
      ap (λ (y : F). (attribute y).kind) (sym p)
      ∙ ap (λ (y : Attribute). y.kind) (keeps_other (kept a))

  masked_of : (r : Row F) (a : Attribute) (x : F) → rows (masked a.kind) ≡ r → ReadAs r a x →
      masked (attribute x).kind ≡ masked a.kind
  masked_of (Is e) a x h p =
      ap masked (kind_of (Is e) a x h p)
      ∙ masked_written e.nested (masked a.kind) (is_row (masked a.kind) e h).low
  masked_of (Refused cause) a x h p = absurd (kind_of (Refused cause) a x h p)
  masked_of Unknown a x h p = ap masked (kind_of Unknown a x h p)

  -- under one row, attributes are equivalent if and only if they have equal meanings
  alike_row : (r : Row F) (a b : Attribute) (x y : F) → rows (masked a.kind) ≡ r →
      masked b.kind ≡ masked a.kind → IsAttribute a → IsAttribute b →
      ReadAs r a x → ReadAs r b y → (row_alike r a b ≡ true) ↔ (x ≡ y)
  unfolding ReadAs
  alike_row (Is e) a b x y h same is_a is_b p q =
      let row = is_row (masked a.kind) e h in
      let law = row.codec.alike_is a.value b.value p.0 q.0 is_a.bytes is_b.bytes p.1 q.1 in
      let holds_a = row.codec.holds a.value p.0 is_a.bytes p.1 in
      let holds_b = row.codec.holds b.value q.0 is_b.bytes q.1 in (
        λ t.
            let parts =
            and_parts (masked b.kind == masked a.kind) (e.codec.alike a.value b.value) t in
            sym p.2 ∙ ap e.label (law.0 parts.1) ∙ q.2,
        λ t.
            let equal = row.same p.0 q.0 holds_a holds_b (p.2 ∙ t ∙ sym q.2) in
            and_from (masked b.kind == masked a.kind) (e.codec.alike a.value b.value)
            (eq-eqb _ _ same) (law.1 equal),
      )
  alike_row (Refused cause) a b x y h same is_a is_b p q = absurd p
  alike_row Unknown a b x y h same is_a is_b p q = (
    λ t.
        let parts = and_parts (b.kind == a.kind) (bytes_eq a.value b.value) t in
        let kinds : a.kind ≡ b.kind = sym (eqb-true _ _ parts.0) in
        let values : a.value ≡ b.value = (bytes_eq-Decides a.value b.value).0 parts.1 in
        sym p ∙ (λ i. other (record { kind = kinds i; value = values i })) ∙ q,
    λ t.
        let whole : attribute (other (kept a)) ≡ attribute (other (kept b)) =
        ap attribute (p ∙ t ∙ sym q) in
        let equal = sym (keeps_other (kept a)) ∙ whole ∙ keeps_other (kept b) in
        and_from (b.kind == a.kind) (bytes_eq a.value b.value)
        (eq-eqb _ _ (ap (λ (z : Attribute). z.kind) (sym equal)))
        ((bytes_eq-Decides a.value b.value).1 (ap (λ (z : Attribute). z.value) equal)),
  )

  pub rows_alike_is : (a b : Attribute) (x y : F) → IsAttribute a → IsAttribute b →
      meaning_in f other rows a ≡ Ok x → meaning_in f other rows b ≡ Ok y →
      (alike_in rows a b ≡ true) ↔ (x ≡ y)
  unfolding meaning_in alike_in
  rows_alike_is a b x y is_a is_b h k =
      let p = read_as (rows (masked a.kind)) a x h in
      let q = read_as (rows (masked b.kind)) b y k in
      let under : (same : masked b.kind ≡ masked a.kind) → ReadAs (rows (masked a.kind)) b y =
      λ same. subst (λ (n : ℕ). ReadAs (rows n) b y) same q in (
        λ t. let same = alike_masked (rows (masked a.kind)) a b t in
            (alike_row (rows (masked a.kind)) a b x y refl same is_a is_b p (under same)).0 t,
        λ t.
            let same : masked b.kind ≡ masked a.kind =
            sym (masked_of (rows (masked b.kind)) b y refl q)
            ∙ ap (λ (z : F). masked (attribute z).kind) (sym t)
            ∙ masked_of (rows (masked a.kind)) a x refl p in
            (alike_row (rows (masked a.kind)) a b x y refl same is_a is_b p (under same)).1 t,
      )

  -- what is read is well formed
  well_row : (r : Row F) (a : Attribute) (x : F) → rows (masked a.kind) ≡ r → IsAttribute a →
      ReadAs r a x → WellAt other r x
  unfolding ReadAs
  well_row (Is e) a x h is_a p = (
    p.0,
    (is_row (masked a.kind) e h).codec.holds a.value p.0 is_a.bytes p.1,
    p.2,
  )
  well_row (Refused cause) a x h is_a p = p
  well_row Unknown a x h is_a p = (kept a, is_a.kind, is_a.bytes, p)

  pub rows_read_well : (a : Attribute) (x : F) → IsAttribute a → meaning_in f other rows a ≡ Ok x →
      WellFormed other attribute rows x
  unfolding meaning_in WellFormed
  rows_read_well a x is_a h =
      let p = read_as (rows (masked a.kind)) a x h in
      subst (λ (n : ℕ). WellAt other (rows n) x) (sym (masked_of (rows (masked a.kind)) a x refl p))
      (well_row (rows (masked a.kind)) a x refl is_a p)

  -- a well formed value reads back from its canonical attribute, if that fits
  reads_row : (r : Row F) (x : F) → rows (masked (attribute x).kind) ≡ r → WellAt other r x →
      Fits (attribute x) → row_meaning f other r (attribute x) ≡ Ok x
  reads_row (Is e) x h w fits =
      let row = is_row (masked (attribute x).kind) e h in
      let spelled = ap attribute (sym w.2) ∙ row.keeps w.0 in
      let value : (attribute x).value ≡ e.codec.canon w.0 =
      ap (λ (z : Attribute). z.value) spelled in
      let small : length (e.codec.canon w.0) ≤ 65531 =
      subst (λ (p : List ℕ). length p ≤ 65531) value fits in
      ap (λ (p : List ℕ). labelled f (masked (attribute x).kind) e.label (e.codec.means p)) value
      ∙ ap
      (λ (t : Result e.codec.Carrier PayloadError). labelled f
      (masked (attribute x).kind) e.label t)
      (row.codec.again w.0 w.1 small)
      ∙ ap (λ (z : F). good z) w.2
  reads_row (Refused cause) x h w fits = absurd w
  reads_row Unknown x h w fits =
      let spelled : attribute x ≡ record { kind = w.0.kind; value = w.0.value } =
      ap attribute (sym w.3) ∙ keeps_other w.0 in
      ap (λ (z : Attribute). good (other (kept z))) spelled ∙ ap (λ (z : F). good z) w.3

  pub rows_well_reads : (x : F) → WellFormed other attribute rows x → Fits (attribute x) →
      meaning_in f other rows (attribute x) ≡ Ok x
  unfolding meaning_in WellFormed
  rows_well_reads x w fits = reads_row (rows (masked (attribute x).kind)) x refl w fits

  -- the canonical attribute is one that bytes can frame
  attribute_row : (r : Row F) (x : F) → rows (masked (attribute x).kind) ≡ r → WellAt other r x →
      Fits (attribute x) → IsAttribute (attribute x)
  attribute_row (Is e) x h w fits =
      let row = is_row (masked (attribute x).kind) e h in
      let spelled = ap attribute (sym w.2) ∙ row.keeps w.0 in
      let value : (attribute x).value ≡ e.codec.canon w.0 =
      ap (λ (z : Attribute). z.value) spelled in
      let small : length (e.codec.canon w.0) ≤ 65531 =
      subst (λ (p : List ℕ). length p ≤ 65531) value fits in
      let kind : (attribute x).kind ≡ written_kind e.nested (masked (attribute x).kind) =
      ap (λ (z : Attribute). z.kind) spelled in
      record {
        kind =
            subst (λ (n : ℕ). n < 65536) (sym kind)
            (written_below e.nested (masked (attribute x).kind) row.low);
        short = fits;
        bytes = subst IsBytes (sym value) (row.codec.bytes w.0 w.1 small);
      }
  attribute_row (Refused cause) x h w fits = absurd w
  attribute_row Unknown x h w fits =
      let spelled : attribute x ≡ record { kind = w.0.kind; value = w.0.value } =
      ap attribute (sym w.3) ∙ keeps_other w.0 in
      record {
        kind = subst (λ (z : Attribute). z.kind < 65536) (sym spelled) w.1;
        short = fits;
        bytes = subst (λ (z : Attribute). IsBytes z.value) (sym spelled) w.2;
      }

  pub rows_well_attribute : (x : F) → WellFormed other attribute rows x → Fits (attribute x) →
      IsAttribute (attribute x)
  unfolding WellFormed
  rows_well_attribute x w fits = attribute_row (rows (masked (attribute x).kind)) x refl w fits

  -- at most a quarter of a payload's bytes are headers
  quarter_row : (r : Row F) (a : Attribute) → rows (masked a.kind) ≡ r →
      4 * row_headers r a ≤ length a.value
  quarter_row (Is e) a h = (is_row (masked a.kind) e h).codec.quarter a.value
  quarter_row (Refused cause) a h = omega arith
  quarter_row Unknown a h = omega arith

  pub rows_quarter : (a : Attribute) → 4 * headers_inside rows a ≤ length a.value
  unfolding headers_inside
  rows_quarter a = quarter_row (rows (masked a.kind)) a refl
