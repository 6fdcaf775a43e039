-- Tables of plain rows are lawful: shapes are codecs, and what the rows of a table keep is what
-- each row owes.
use Rattle.std.specs.Prelude.{
  ◌≡◌,
  ◌≢◌,
  ℕ,
  ◌==◌,
  Bool,
  true,
  false,
  List,
  [],
  ◌∷◌,
  Option,
  Some,
  None,
  Result,
  Ok,
  Err,
  IsOk,
  OnErr,
  OnOk,
  refl,
}
use Rattle.std.proofs.Common.{sym, ap, subst, ◌∙◌, arith, inl, inr}
use Rattle.std.proofs.lemmas.Bool.{eqb-true, cases_Bool, cond-true, cond-false}
use Rattle.nla_frame.specs.Attribute.{Attribute}
use Rattle.nla_frame.specs.Error.{memory_error}
use Rattle.nla_frame.specs.declared.error.Cause.{Cause}
use Rattle.nla_frame.specs.declared.error.Cause.TheVariants as cause
use Rattle.linkinfo_shapes.specs.declared.shape.Shape.{Shape}
use Rattle.linkinfo_shapes.specs.declared.shape.Shape.TheVariants.{Ip, EmptyOrByte}
use Rattle.std.specs.declared.net.ip_addr.IpAddr.TheVariants as ip
use Rattle.nla_frame.specs.declared.default_nla.DefaultNla.{DefaultNla}
use Rattle.linkinfo_shapes.specs.Shapes.{Carrier, means, canon}
use Rattle.linkinfo_shapes.specs.ShapeLaws.{
  means_holds,
  means-canon,
  IsBytes-canon,
  means_alike,
  means_memory,
}
use Rattle.linkinfo_shapes.specs.declared.datum.Datum.{Datum}
use Rattle.linkinfo_shapes.specs.Data.{Value, value_of, wrap, unwrap, Suits}
use Rattle.linkinfo_shapes.specs.DataLaws.{wrap-unwrap}
use Rattle.linkinfo_shapes.specs.Table.{found}
use Rattle.linkinfo_table.specs.declared.decoded.Decoded.{Decoded}
use Rattle.linkinfo_table.specs.declared.decoded.Decoded.TheVariants.{Typed}
use Rattle.linkinfo_table.specs.Codecs.{Own, Inside, IsCodec}
use Rattle.linkinfo_table.specs.Rows.{Entry, Row, Is, IsRow}
use Rattle.linkinfo_table.specs.FamilyRows.{
  own,
  shape_codec,
  FamilyRow,
  Plain,
  row_of,
  row_if,
  lookup_of,
  RowOwes,
  PlainRow,
  plain_or_absent,
  table_row,
  without_labels,
  lookup_in,
  Keeps,
  EachKeeps,
  IsFlat,
  IsNoRow,
  SuitsDecoded,
  SuitsRow,
  Stores,
  StoresLabelled,
  owns_memory,
  is_copied,
  decoded_needs_memory,
}

abbrev done : {A E : Type 0} → A → Result A E
done x = Ok x

owned : {X : Type 0} (r : Result X Cause) (x : X) → own r ≡ Ok x → r ≡ Ok x
owned (Ok y) x h = cc
owned (Err c) x h = absurd cc

not_memory : {X : Type 0} (r : Result X Cause) → r ≢ Err cause.Memory →
    own r ≢ Err (Own cause.Memory)
not_memory (Ok x) never h = absurd cc
not_memory (Err c) never h =
    let same : c ≡ cause.Memory = cc in never (ap (λ (d : Cause). Err d) same)

not_inside : {X : Type 0} (r : Result X Cause) → own r ≢ Err (Inside memory_error)
not_inside (Ok x) h = absurd cc
not_inside (Err c) h = absurd cc

pub shape_is_codec : (shape : Shape) → IsCodec (shape_codec shape)
shape_is_codec shape = record {
  holds = λ p x bytes e. means_holds shape p x bytes (owned (means shape p) x e);
  again = λ x h fits. ap own (means-canon shape x h);
  bytes = λ x h fits. IsBytes-canon shape x h;
  alike_is = λ p q x y bp bq e g.
      means_alike shape p q x y bp bq (owned (means shape p) x e) (owned (means shape q) y g);
  quarter = λ p. omega arith;
  no_own_memory = λ p. not_memory (means shape p) (means_memory shape p);
  no_inner_memory = λ p. not_inside (means shape p);
}

-- a row of a shape is lawful if its label keeps type and datum
pub plain_is_row : {F : Type 0} (attribute : F → Attribute) (r : PlainRow F) → Keeps attribute r →
    IsRow attribute r.number
    (record { nested = false; codec = shape_codec r.shape; label = r.label })
plain_is_row {F = F} attribute r k = record {
  low = k.low;
  codec = shape_is_codec r.shape;
  keeps = k.keeps;
  same = λ x y h g e.
      let values : canon r.shape x ≡ canon r.shape y =
      ap (λ (a : Attribute). a.value) (sym (k.keeps x) ∙ ap attribute e ∙ k.keeps y) in
      let read : done x ≡ done y =
      sym (means-canon r.shape x h) ∙ ap (means r.shape) values ∙ means-canon r.shape y g in
      done_same x y read;
}
  where
    done_same : (x y : Carrier r.shape) → done {E = Cause} x ≡ done y → x ≡ y
    done_same x y e = cc

-- the rows of a table owe what they keep
pub table_owes : {F : Type 0} (attribute : F → Attribute) (rows : List (PlainRow F)) →
    EachKeeps attribute rows → (n : ℕ) → RowOwes attribute n (row_of (table_row rows n))
table_owes attribute [] k n = tt
table_owes {F = F} attribute (r ∷ rows) k n =
    elim (cases_Bool (n == r.number)) [
      | inl same ↦
          subst (λ (x : Option (PlainRow F)). RowOwes attribute n (row_of (plain_or_absent x)))
          (sym (cond-true (n == r.number) _ _ same))
          (subst (λ (m : ℕ).
          IsRow attribute m
          (record { nested = false; codec = shape_codec r.shape; label = r.label }))
          (sym (eqb-true n r.number same)) (plain_is_row attribute r k.0))
      | inr other ↦
          subst (λ (x : Option (PlainRow F)). RowOwes attribute n (row_of (plain_or_absent x)))
          (sym (cond-false (n == r.number) _ _ other)) (table_owes attribute rows k.1 n)
    ]

pub table_flat : {F : Type 0} (attribute : F → Attribute) (rows : List (PlainRow F)) →
    EachKeeps attribute rows → (n : ℕ) → IsFlat (table_row rows n)
table_flat attribute [] k n = tt
table_flat {F = F} attribute (r ∷ rows) k n =
    elim (cases_Bool (n == r.number)) [
      | inl same ↦
          subst (λ (x : Option (PlainRow F)). IsFlat (plain_or_absent x))
          (sym (cond-true (n == r.number) _ _ same)) k.0.plain
      | inr other ↦
          subst (λ (x : Option (PlainRow F)). IsFlat (plain_or_absent x))
          (sym (cond-false (n == r.number) _ _ other)) (table_flat attribute rows k.1 n)
    ]

-- what is owed at a type that has this row, and at another type
pub row_if_owes : {F : Type 0} (attribute : F → Attribute) (number n : ℕ) (row rest : FamilyRow F) →
    RowOwes attribute number (row_of row) → RowOwes attribute n (row_of rest) →
    RowOwes attribute n (row_of (row_if (n == number) row rest))
row_if_owes {F = F} attribute number n row rest owes others = go (n == number) refl
  where
    go : (b : Bool) → n == number ≡ b → RowOwes attribute n (row_of (row_if b row rest))
    go true e = subst (λ (m : ℕ). RowOwes attribute m (row_of row)) (sym (eqb-true n number e)) owes
    go false e = others

-- the lookup of a table agrees with the table of all families if their rows without labels are
-- equal
pub table_lookup : {F : Type 0} (rows : List (PlainRow F)) (n : ℕ) →
    lookup_of (table_row rows n) ≡ lookup_in (found (without_labels rows) n)
table_lookup [] n = refl
table_lookup {F = F} (r ∷ rows) n =
    elim (cases_Bool (n == r.number)) [
      | inl same ↦
          ap (λ (x : Option (PlainRow F)). lookup_of (plain_or_absent x))
          (cond-true (n == r.number) _ _ same)
          ∙ ap lookup_in
          (sym (cond-true (n == r.number) (Some r.shape) (found (without_labels rows) n) same))
      | inr other ↦
          ap (λ (x : Option (PlainRow F)). lookup_of (plain_or_absent x))
          (cond-false (n == r.number) _ _ other)
          ∙ table_lookup rows n
          ∙ ap lookup_in
          (sym (cond-false (n == r.number) (Some r.shape) (found (without_labels rows) n) other))
    ]

-- no datum belongs to the row of a type that no row has
pub no_row_suits : {F : Type 0} (rows : List (PlainRow F)) (n : ℕ) (value : Value) →
    IsNoRow rows n → SuitsRow (table_row rows n) value → ⊥
no_row_suits [] n value none suits = suits
no_row_suits {F = F} (r ∷ rows) n value none suits =
    elim (cases_Bool (n == r.number)) [
      | inl same ↦ absurd (none.0 (eqb-true n r.number same))
      | inr other ↦
          no_row_suits rows n value none.1
          (subst (λ (x : Option (PlainRow F)). SuitsRow (plain_or_absent x) value)
          (cond-false (n == r.number) _ _ other) suits)
    ]

-- so the decoded content of an attribute has a type that some row has
pub no_row_read : {F : Type 0} (rows : List (PlainRow F)) (read : Decoded) (n : ℕ) (datum : Datum) →
    read ≡ Typed n datum → IsNoRow rows n →
    SuitsDecoded (λ m. table_row rows m) read → ⊥
no_row_read {F = F} rows read n datum e none suits =
    no_row_suits rows n (value_of datum) none
    (subst (λ (x : Decoded). SuitsDecoded (λ m. table_row rows m) x) e suits)

-- the decoded datum belongs to the shape of the row of its type
pub suits_decoded : {F : Type 0} {read : Decoded} {n k : ℕ} {datum : Datum} {shape : Shape}
    {label : Carrier shape → F} (rows : ℕ → FamilyRow F) →
    rows k ≡ Plain shape label → read ≡ Typed n datum → n ≡ k → SuitsDecoded rows read →
    Suits shape (value_of datum)
suits_decoded {F = F} {datum = datum} rows row is number suits =
    subst (λ (r : FamilyRow F). SuitsRow r (value_of datum)) (ap rows number ∙ row)
    (subst (λ (x : Decoded). SuitsDecoded rows x) is suits)

on_ok : {T E : Type 0} (r : Result T E) (P Q : Type 0) → (P → Q) → OnOk r P → OnOk r Q
on_ok (Ok x) P Q f h = f h
on_ok (Err e) P Q f h = h

-- the value stored for that datum is the label of its row
stores_decoded : {F H T E : Type 0} {read : Decoded} {n k : ℕ} {datum : Datum} {shape : Shape}
    {label : Carrier shape → F} {u : Carrier shape}
    (with : F → H) (other : DefaultNla → F) (ended : Result T E) (held : H)
    (rows : ℕ → FamilyRow F) → rows k ≡ Plain shape label →
    read ≡ Typed n datum → n ≡ k → SuitsDecoded rows read →
    (Suits shape (value_of datum) → u ≡ unwrap shape (value_of datum)) →
    OnOk ended (held ≡ with (label u)) → OnOk ended (Stores with other rows read held)
stores_decoded {F = F} {read = read} {datum = datum} {shape = shape} {label = label}
    {u = u} with other
    ended held rows row is number suits datum_is stores =
    on_ok ended (held ≡ with (label u)) (Stores with other rows read held) labelled_so stores
  where
    labelled_so : held ≡ with (label u) → Stores with other rows read held
    labelled_so e =
        subst (λ (x : Decoded). Stores with other rows x held) (sym is)
        (subst (λ (r : FamilyRow F). StoresLabelled with r (value_of datum) held)
        (sym (ap rows number ∙ row))
        (e
        ∙ ap (λ (x : Carrier shape). with (label x))
        (datum_is (suits_decoded rows row is number suits))))

-- storing that value is all that `store_decoded` owes in the arm of its row
pub row_stored : {F H T E : Type 0} {read : Decoded} {n k : ℕ} {datum : Datum} {shape : Shape}
    {label : Carrier shape → F} {u : Carrier shape} {stored : F} {is_certain : Bool}
    (with : F → H) (other : DefaultNla → F) (ended : Result T E) (before after : H)
    (rows : ℕ → FamilyRow F) → rows k ≡ Plain shape label →
    read ≡ Typed n datum → n ≡ k → SuitsDecoded rows read →
    (Suits shape (value_of datum) → u ≡ unwrap shape (value_of datum)) → stored ≡ label u →
    record {
      held : OnOk ended (after ≡ with stored);
      unchanged : OnErr ended (after ≡ before);
      certain : is_certain ≡ true → IsOk ended;
    } →
    record {
      value : OnOk ended (Stores with other rows read after);
      unchanged : OnErr ended (after ≡ before);
      certain : is_certain ≡ true → decoded_needs_memory read ≡ false → IsOk ended;
    }
row_stored with other ended before after rows row is number suits datum_is label_is s = record {
  value =
      stores_decoded with other ended after rows row is number suits datum_is
      (subst (λ x. OnOk ended (after ≡ with x)) label_is s.held);
  unchanged = s.unchanged;
  certain = λ certain _. s.certain certain;
}

-- a datum of a shape is copied if a value of the shape owns memory
copied_wrap : (shape : Shape) (x : Carrier shape) → is_copied (wrap shape x) ≡ owns_memory shape
copied_wrap Ip (ip.V4 a) = refl
copied_wrap Ip (ip.V6 a) = refl
copied_wrap EmptyOrByte None = refl
copied_wrap EmptyOrByte (Some b) = refl
copied_wrap _ x = refl

pub copied_of : (shape : Shape) (value : Value) → Suits shape value →
    is_copied value ≡ owns_memory shape
copied_of shape value suits =
    ap is_copied (sym (wrap-unwrap shape value suits)) ∙ copied_wrap shape (unwrap shape value)

not_both : (b : Bool) → b ≡ true → b ≡ false → ⊥
not_both true h k = absurd cc
not_both false h k = absurd cc

-- so building a value of a row that owns memory needs some
pub owner_needs : {F : Type 0} {read : Decoded} {n k : ℕ} {datum : Datum} {shape : Shape}
    {label : Carrier shape → F} (rows : ℕ → FamilyRow F) →
    rows k ≡ Plain shape label → read ≡ Typed n datum → n ≡ k → SuitsDecoded rows read →
    owns_memory shape ≡ true → decoded_needs_memory read ≡ false → ⊥
owner_needs {read = read} {datum = datum} {shape = shape} rows row is number suits owns none =
    not_both (decoded_needs_memory read)
    (ap decoded_needs_memory is
    ∙ copied_of shape (value_of datum) (suits_decoded rows row is number suits)
    ∙ owns) none

-- what the rows of a family owe, row by row
pub owed : {F : Type 0} (attribute : F → Attribute) (rows : ℕ → Row F) →
    ((n : ℕ) → RowOwes attribute n (rows n)) →
    (n : ℕ) (e : Entry F) → rows n ≡ Is e → IsRow attribute n e
owed {F = F} attribute rows owes n e h = subst (λ (r : Row F). RowOwes attribute n r) h (owes n)
