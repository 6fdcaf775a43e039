-- What finding unmet attributes of a list from an offset on rests on.
use Rattle.std.specs.Prelude.{
  ◌≡◌,
  ◌↔◌,
  ℕ,
  ◌+◌,
  ◌-◌,
  ◌<◌,
  ◌≤◌,
  nat_le,
  Bool,
  true,
  false,
  if◌then◌else◌,
  List,
  [],
  ◌∷◌,
  length,
  map,
  refl,
  Option,
  None,
  Some,
}
use Rattle.std.specs.Prelude.{Result, Ok, Err}
use Rattle.std.specs.Iterator.{MakesProgress, item_count}
use Rattle.std.specs.Option.{option_map}
use Rattle.std.proofs.Common.{arith, sym, ap, subst, ◌∙◌, inl, inr}
use Rattle.std.proofs.lemmas.Bool.{cases_Bool}
use Rattle.std.proofs.lemmas.Bool.Decides.{nat_tests}
use Rattle.nla_frame.specs.Answers.{verdict}
use Rattle.nla_frame.specs.Attribute.{Attribute, masked}
use Rattle.nla_frame.specs.declared.error.DecodeError.{DecodeError}
use Rattle.nla_frame.specs.declared.error.Family.{Family}
use Rattle.nla_frame.specs.declared.error.Family.TheVariants as family
use Rattle.linkinfo_table.specs.Contents.{Contents, ListOf, NoList}
use Rattle.linkinfo_table.specs.Difference.{end_of}
use Rattle.linkinfo_table.specs.Last.{attributes_of}
use Rattle.linkinfo_table.specs.Rows.{row_alike}
use Rattle.linkinfo_table.specs.Unmet.{inner_unmet, item_unmet, meets, whole_unmet}
use Rattle.linkinfo_table.specs.Unmets.{all_at, first_at, item_unmets, list_unmets}
use Rattle.linkinfo_table.specs.declared.last.PlacedNla.{PlacedNla}
use Rattle.linkinfo_table.specs.declared.unmet.Unmet.{Unmet}
use Rattle.linkinfo_table.proofs.AllUnmets.{
  AllBelow,
  below_inside,
  first_inside,
  item_below,
  item_first,
  lasts_below,
  lasts_first,
  list_below,
  list_first,
  none_at,
}
use Rattle.linkinfo_table.proofs.Lasts.{all_stand}
use Rattle.linkinfo_table.proofs.UnmetOrder.{
  AreFrom,
  earlier_start,
  inside_order,
  item_in,
  lasts_order,
  list_order,
  next_is,
}
use Rattle.linkinfo_data.specs.BytesLayer.{bytes_layer}
use Rattle.linkinfo_data.specs.Data.{family_of}
use Rattle.linkinfo_data.specs.DataFamilies.{DataFamilies, DataTypes}
use Rattle.linkinfo_data.specs.Lists.{family_in, unmets_in}
use Rattle.linkinfo_data.specs.Payloads.{Payload}
use Rattle.linkinfo_data.specs.PortData.{port_family_of}
use Rattle.linkinfo_data.specs.TypedLayer.{typed_layer}
use Rattle.linkinfo.specs.Items.{link_row}
use Rattle.linkinfo.specs.Strings.{reading}
use Rattle.linkinfo.specs.Unmet.{
  Linked,
  contents_unmet,
  data_unmet,
  link_at,
  link_unmet,
  linked_unmet,
  role_of_link,
  role_unmet,
  same_kind,
  strings_unmet,
  unmet_answer,
  whole_item_unmet,
}
use Rattle.linkinfo.specs.Met.{StringMeets}
use Rattle.linkinfo.specs.Unmets.{
  AreInOrder,
  contents_unmets,
  data_unmets,
  link_unmets,
  linked_unmets,
  role_unmets,
  UnmetWalk,
  strings_unmets,
  unmets_left,
  unmets_of,
  whole_item_unmets,
}
use Rattle.linkinfo.specs.declared.role.Role.TheVariants as role
use Rattle.linkinfo.specs.declared.role.Role.{Role}
use Rattle.linkinfo.proofs.Listing.{unmets_of_list}
use Rattle.linkinfo.proofs.Meeting.{equal_data, string_itself, string_met}

-- ---- what holds of the attributes of one attribute that are not met holds at each step

-- .. of the first of all: the one that is found first
-- .. of each: it is in the attribute
-- .. of all: they are in order
record Right (w : PlacedNla) (first : Option Unmet) (list : List Unmet) : Type 0 where
  first_is : first_at 0 list ≡ first
  below : AllBelow (end_of w) list
  order : AreFrom w.offset list

item_right : (met : Bool) (h w : PlacedNla) →
    Right w (item_unmet family.LinkInfo met h w) (item_unmets family.LinkInfo met h w)
item_right met h w = record {
  first_is = item_first family.LinkInfo met h w;
  below = item_below family.LinkInfo met h w;
  order = item_in family.LinkInfo met h w;
}

whole_right : (w : PlacedNla) (h : Option PlacedNla) →
    Right w (Some (whole_unmet family.LinkInfo w h)) (whole_unmet family.LinkInfo w h ∷ [])
whole_right w h =
    let at : nat_le 0 w.offset ≡ true = grind (arith, nat_tests) in
    record {
      first_is = rw at refl;
      below = (omega arith, tt);
      order = (omega arith, tt);
    }

contents_right : (c : Contents) (met : Bool) (h w : PlacedNla) →
    Right w (contents_unmet c met h w) (contents_unmets c met h w)
contents_right (NoList place count) met h w = item_right met h w
contents_right (ListOf l inside) met h w =
    let all = list_unmets l inside h.nla.value w.nla.value in
    record {
      first_is =
          first_inside 0 w h all
          ∙ ap (λ (n : ℕ). option_map (inner_unmet w h) (first_at n all)) (omega arith)
          ∙ ap (option_map (inner_unmet w h)) (list_first l inside h.nla.value w.nla.value);
      below = below_inside w h all (list_below l inside h.nla.value w.nla.value);
      order =
          earlier_start w.offset (w.offset + 4 + 0) (map (inner_unmet w h) all) (omega arith)
          (inside_order w h 0 all (list_order l inside h.nla.value w.nla.value));
    }

-- a list without a first one is empty
none_of_all : (list : List Unmet) → first_at 0 list ≡ None → list ≡ []
none_of_all [] e = refl
none_of_all (u ∷ more) e =
    let at : nat_le 0 u.want ≡ true = grind (arith, nat_tests) in
    absurd (let told = rw at at e in cc)

empty_is : (list : List Unmet) → (first_at 0 list ≡ None) ↔ (list ≡ [])
empty_is list = (none_of_all list, λ e. ap (first_at 0) e)

in_order : (n : ℕ) (list : List Unmet) → AreFrom n list → AreInOrder list
in_order n [] h = tt
in_order n (u ∷ []) h = tt
in_order n (u ∷ v ∷ more) h = (omega (arith, h.1.0), in_order (u.want + 1) (v ∷ more) h.1)

-- equal data leaves nothing unmet
pub none_of_equal : {X : Type 0} (from : ℕ) (payload : Payload X) (h w : PlacedNla) →
    h.nla.value ≡ w.nla.value → first_at from (data_unmets payload h w) ≡ None
none_of_equal from payload h w e =
    let met = meets (λ a b. payload.alike a.value b.value) h.nla w.nla in
    let none = (contents_right payload.contents met h w).first_is ∙ equal_data payload h w e in
    ap (first_at from) (none_of_all (data_unmets payload h w) none)

-- what is not met of data that is a list, by offsets in the list around it
pub data_inside : (c : Contents) (name : Family) (met : Bool) (from inner : ℕ)
    (want have : PlacedNla) (w h : List ℕ) (o : Option Unmet) → family_in c ≡ Some name →
    w ≡ want.nla.value → h ≡ have.nla.value → inner ≡ from - (want.offset + 4) →
    o ≡ first_at inner (unmets_in c h w) →
    option_map (inner_unmet want have) o ≡ first_at from (contents_unmets c met have want)
data_inside c name met from inner want have w h o listed wanted had is e =
    ap (option_map (inner_unmet want have))
    (e ∙ ap (λ (n : ℕ). first_at n (unmets_in c h w)) is
    ∙ ap (λ (s : List ℕ). first_at (from - (want.offset + 4)) (unmets_in c s w)) had
    ∙ ap (λ (s : List ℕ).
    first_at (from - (want.offset + 4)) (unmets_in c have.nla.value s)) wanted)
    ∙ sym (first_inside from want have (unmets_in c have.nla.value want.nla.value))
    ∙ ap (first_at from) (sym (unmets_of_list c have want name met listed))

-- .. where one is found in it
pub data_told : (c : Contents) (name : Family) (met : Bool) (from inner : ℕ)
    (want have : PlacedNla) (w h : List ℕ) (u outer : Unmet) → family_in c ≡ Some name →
    w ≡ want.nla.value → h ≡ have.nla.value → inner ≡ from - (want.offset + 4) →
    outer ≡ inner_unmet want have u → Some u ≡ first_at inner (unmets_in c h w) →
    Some outer ≡ first_at from (contents_unmets c met have want)
data_told c name met from inner want have w h u outer listed wanted had is placed e =
    ap (λ (x : Unmet). Some x) placed
    ∙ data_inside c name met from inner want have w h (Some u) listed wanted had is e

-- .. and where none is
pub data_untold : (c : Contents) (name : Family) (met : Bool) (from inner : ℕ)
    (want have : PlacedNla) (w h : List ℕ) → family_in c ≡ Some name →
    w ≡ want.nla.value → h ≡ have.nla.value → inner ≡ from - (want.offset + 4) →
    None ≡ first_at inner (unmets_in c h w) →
    None ≡ first_at from (contents_unmets c met have want)
data_untold c name met from inner want have w h listed wanted had is e =
    data_inside c name met from inner want have w h None listed wanted had is e

module _ {L : DataTypes} (layer : DataFamilies L) where
  role_right : (r : Role) (h w : PlacedNla) →
      Right w (role_unmet layer r h w) (role_unmets layer r h w)
  role_right (role.Data tag) h w =
      contents_right (layer.data_of (family_of tag)).contents _ h w
  role_right (role.PortData tag) h w =
      contents_right (layer.port_data_of (port_family_of tag)).contents _ h w
  role_right r h w = item_right _ h w

  link_right : (h : Option Linked) (w : Linked) →
      Right w.at (link_unmet layer h w) (link_unmets layer h w)
  link_right None w = whole_right w.at None
  link_right (Some h) w = by_kind (same_kind (role_of_link w) h.named w.named)
    where
      by_kind : (b : Bool) →
          Right w.at
          (if b then role_unmet layer (role_of_link w) h.at w.at
          else Some (whole_unmet family.LinkInfo w.at (Some h.at)))
          (if b then role_unmets layer (role_of_link w) h.at w.at
          else whole_unmet family.LinkInfo w.at (Some h.at) ∷ [])
      by_kind true = role_right (role_of_link w) h.at w.at
      by_kind false = whole_right w.at (Some h.at)

  module _ (have want : List ℕ) where
    linked_right : (found : Option PlacedNla) (p : PlacedNla) →
        Right p (linked_unmet layer have want found p) (linked_unmets layer have want found p)
    linked_right found p = link_right (option_map (link_at have) found) (link_at want p)

    -- the first of all is the first one
    pub strings_first : first_at 0 (strings_unmets layer have want) ≡ strings_unmet layer have want
    strings_first =
        lasts_first (linked_unmet layer have want) (linked_unmets layer have want)
        (attributes_of have) (attributes_of want)
        (λ found p. (linked_right found p).first_is)

    -- all of them are in the list
    strings_below : AllBelow (length want) (strings_unmets layer have want)
    strings_below =
        lasts_below want (linked_unmets layer have want)
        (λ found p. (linked_right found p).below) (attributes_of have) (attributes_of want)
        (attributes_of want) (all_stand want)

    -- they are in order
    strings_order : AreFrom 0 (strings_unmets layer have want)
    strings_order =
        lasts_order (linked_unmets layer have want) (λ found p. (linked_right found p).order)
        (λ found p. (linked_right found p).below) (attributes_of have) want

    pub all_in_order : AreInOrder (strings_unmets layer have want)
    all_in_order = in_order 0 (strings_unmets layer have want) strings_order

    pub no_unmets : (strings_unmets layer have want ≡ []) ↔ StringMeets layer have want
    no_unmets =
        let empty = empty_is (strings_unmets layer have want) in
        let met = string_met layer have want in (
          λ e. met.0 (sym strings_first ∙ empty.1 e),
          λ m. empty.0 (strings_first ∙ met.1 m),
        )

    -- nothing of an attribute is after its end
    pub none_of_ended : (from : ℕ) (found : Option PlacedNla) (p : PlacedNla) →
        end_of p ≤ from →
        first_at from (link_unmets layer (option_map (link_at have) found) (link_at want p)) ≡ None
    none_of_ended from found p le =
        none_at from (end_of p) _ le (linked_right found p).below

    -- ---- one after another

    first_in : (from n : ℕ) (list : List Unmet) (u : Unmet) → AllBelow n list →
        first_at from list ≡ Some u → u.want < n
    first_in from n [] u h e = absurd cc
    first_in from n (v ∷ more) u h e =
        elim (cases_Bool (nat_le from v.want)) [
          | inl at ↦
              let same : v ≡ u = (let told = rw at at e in cc) in
              subst (λ (x : Unmet). x.want < n) same h.0
          | inr before ↦ first_in from n more u h.1 (rw before at e)
        ]

    pub found_within : (from : ℕ) (u : Unmet) →
        first_at from (strings_unmets layer have want) ≡ Some u → u.want < length want
    found_within from u e =
        first_in from (length want) (strings_unmets layer have want) u strings_below e

    pub goes_on : (from : ℕ) (u : Unmet) →
        first_at from (strings_unmets layer have want) ≡ Some u →
        all_at from (strings_unmets layer have want)
        ≡ u ∷ all_at (u.want + 1) (strings_unmets layer have want)
    goes_on from u e = next_is from 0 (strings_unmets layer have want) u strings_order e

  -- ---- equal strings, the first of which is accepted

  all_met : (from : ℕ) (s : List ℕ) → first_at from (strings_unmets layer s s) ≡ None
  all_met from s =
      ap (first_at from)
      (none_of_all (strings_unmets layer s s) (strings_first s s ∙ string_itself layer s))

  itself_answer : {X : Type 0} (r : Result X DecodeError) (o : Option Unmet) → Ok tt ≡ verdict r →
      o ≡ None → Ok None ≡ unmet_answer r r o
  itself_answer (Ok x) o e none = rw none refl
  itself_answer (Err d) o e none = absurd cc

  pub equal_answer : (from : ℕ) (have want : List ℕ) → have ≡ want →
      Ok tt ≡ verdict (reading layer have) →
      Ok None ≡ unmet_answer (reading layer have) (reading layer want)
      (first_at from (strings_unmets layer have want))
  equal_answer from have want same accepted =
      subst (λ (s : List ℕ). Ok None
      ≡ unmet_answer (reading layer have) (reading layer s)
      (first_at from (strings_unmets layer have s)))
      same
      (itself_answer (reading layer have) (first_at from (strings_unmets layer have have)) accepted
      (all_met from have))

-- ---- by layers

pub found_by : (is_typed : Bool) (have want : List ℕ) (from : ℕ) (u : Unmet) →
    first_at from (unmets_of is_typed have want) ≡ Some u → u.want < length want
found_by true have want from u e = found_within typed_layer have want from u e
found_by false have want from u e = found_within bytes_layer have want from u e

pub goes_on_by : (is_typed : Bool) (have want : List ℕ) (from : ℕ) (u : Unmet) →
    first_at from (unmets_of is_typed have want) ≡ Some u →
    all_at from (unmets_of is_typed have want)
    ≡ u ∷ all_at (u.want + 1) (unmets_of is_typed have want)
goes_on_by true have want from u e = goes_on typed_layer have want from u e
goes_on_by false have want from u e = goes_on bytes_layer have want from u e

-- a step leaves fewer
pub progress : (s t : UnmetWalk) (u : Unmet) → unmets_left s ≡ u ∷ unmets_left t →
    MakesProgress (λ _. Unit {0}) (item_count unmets_left) s (Some u) t
progress s t u h = record {
  on = λ _. (tt, tt, omega (arith, ap length h));
  keeps = tt;
  rests = λ _. tt;
}
