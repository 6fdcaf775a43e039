-- What each row of a table keeps, from what its labels keep: its types are masked types, and its
-- shapes plain, by one computation.
use Rattle.std.specs.Prelude.{◌≡◌, ◌&&◌, ltb, Bool, true, false, List, [], ◌∷◌}
use Rattle.std.specs.Cmp.{first_so, second_so}
use Rattle.std.specs.List.{list_all}
use Rattle.std.proofs.lemmas.Bool.{ltb-true}
use Rattle.nla_frame.specs.Attribute.{Attribute}
use Rattle.linkinfo_shapes.specs.Shapes.{Carrier, IsPlain}
use Rattle.linkinfo_shapes.specs.declared.shape.Shape.{Shape}
use Rattle.linkinfo_shapes.specs.declared.shape.Shape.TheVariants.{
  BridgeId,
  CanBitTimingConst,
  Le16s,
  Le32s,
  Le32x8,
  LePair16,
  Nested,
  Peer,
  SelfList,
  V4List,
  V6List,
}
use Rattle.linkinfo_table.specs.FamilyRows.{PlainRow, EachKeeps, typed}

-- whether payloads of the shape are read by the table
abbrev pub is_plain : Shape → Bool
is_plain SelfList = false
is_plain Peer = false
is_plain (Nested family) = false
is_plain BridgeId = false
is_plain LePair16 = false
is_plain Le32x8 = false
is_plain CanBitTimingConst = false
is_plain Le16s = false
is_plain Le32s = false
is_plain V4List = false
is_plain V6List = false
is_plain _ = true

-- whether the row has a masked type and a plain shape
abbrev pub is_plain_row : {F : Type 0} → PlainRow F → Bool
is_plain_row r = ltb r.number 16384 && is_plain r.shape

-- the canonical attribute of a label's value has the row's type, with the datum
abbrev pub LabelsKeep : {F : Type 0} → (F → Attribute) → List (PlainRow F) → Type 0
LabelsKeep attribute [] = Unit {0}
LabelsKeep attribute (r ∷ rows) =
    ((x : Carrier r.shape) → attribute (r.label x) ≡ typed r.number r.shape x)
    × LabelsKeep attribute rows

plain_shape : (shape : Shape) → is_plain shape ≡ true → IsPlain shape
plain_shape SelfList h = absurd cc
plain_shape Peer h = absurd cc
plain_shape (Nested family) h = absurd cc
plain_shape BridgeId h = absurd cc
plain_shape LePair16 h = absurd cc
plain_shape Le32x8 h = absurd cc
plain_shape CanBitTimingConst h = absurd cc
plain_shape Le16s h = absurd cc
plain_shape Le32s h = absurd cc
plain_shape V4List h = absurd cc
plain_shape V6List h = absurd cc
plain_shape _ h = tt

-- a table of plain rows with labels that keep type and datum keeps them in each row
pub each_keeps : {F : Type 0} (attribute : F → Attribute) (rows : List (PlainRow F)) →
    list_all (λ r. is_plain_row r) rows ≡ true →
    LabelsKeep attribute rows → EachKeeps attribute rows
each_keeps attribute [] plain keep = tt
each_keeps attribute (r ∷ rows) plain keep =
    let here : is_plain_row r ≡ true =
    first_so (is_plain_row r) (list_all (λ q. is_plain_row q) rows) plain in
    let rest : list_all (λ q. is_plain_row q) rows ≡ true =
    second_so (is_plain_row r) (list_all (λ q. is_plain_row q) rows) plain in (
      record {
        low = ltb-true r.number 16384 (first_so (ltb r.number 16384) (is_plain r.shape) here);
        plain = plain_shape r.shape (second_so (ltb r.number 16384) (is_plain r.shape) here);
        keeps = keep.0;
      },
      each_keeps attribute rows rest keep.1,
    )
