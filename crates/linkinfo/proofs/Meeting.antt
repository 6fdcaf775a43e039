-- What is met, without offsets. Each list is met by itself, and stays met if others are added.
use Rattle.std.specs.Prelude.{◌≡◌, ◌↔◌, ℕ, ◌==◌, ◌&&◌, ◌||◌, Bool, true, false, if◌then◌else◌}
use Rattle.std.specs.Prelude.{IsTrue}
use Rattle.std.specs.Prelude.{List, [], ◌∷◌, Option, None, Some, Result, Ok, Err, map, refl}
use Rattle.std.specs.List.{AllByRecursion, list_any}
use Rattle.std.specs.Option.{option_map}
use Rattle.std.specs.Str.{bytes_eq}
use Rattle.std.proofs.Common.{ap, subst, ◌∙◌}
use Rattle.std.proofs.lemmas.Bool.{and_from, eq-eqb}
use Rattle.std.proofs.lemmas.Slice.Eq.{bytes_eq-Decides}
use Rattle.nla_frame.specs.Answers.{verdict}
use Rattle.nla_frame.specs.Attribute.{Attribute}
use Rattle.nla_frame.specs.NlaItems.{nla_items}
use Rattle.nla_frame.specs.declared.error.DecodeError.{DecodeError}
use Rattle.nla_frame.specs.declared.error.Family.{Family}
use Rattle.nla_frame.specs.declared.error.Family.TheVariants as family
use Rattle.linkinfo_table.specs.Last.{StandsIn, attributes_of, last_of_type}
use Rattle.linkinfo_table.specs.Rows.{row_alike}
use Rattle.linkinfo_table.specs.declared.last.PlacedNla.{PlacedNla}
use Rattle.linkinfo_table.proofs.Lasts.{all_stand, same_at}
use Rattle.linkinfo_data.specs.Data.{family_of}
use Rattle.linkinfo_table.specs.Contents.{Contents, ListOf, Listed, NoList}
use Rattle.linkinfo_table.specs.Equal.{option_decides}
use Rattle.linkinfo_data.specs.DataFamilies.{DataFamilies, DataTypes}
use Rattle.linkinfo_table.specs.Unmet as table
use Rattle.linkinfo_table.specs.Unmet.{
  attribute_unmet,
  attributes_unmet,
  counts,
  found_unmet,
  inner_unmet,
  last_like,
  list_unmet,
  meets,
  payload_unmet,
}
use Rattle.linkinfo_table.specs.declared.unmet.Unmet.{Unmet}
use Rattle.linkinfo_data.specs.Payloads.{Payload}
use Rattle.linkinfo_data.specs.PortData.{port_family_of}
use Rattle.linkinfo.specs.Items.{link_row}
use Rattle.linkinfo.specs.Met.{AttributeMeets, AttributesMeet, Chosen, ContentsMeet, Item}
use Rattle.linkinfo.specs.Met.{ItemMeets, ListMeets, PayloadMeets, RoleMeets, StringMeets}
use Rattle.linkinfo.specs.Met.{items_of, last_of, nlas_of, role_of_item, type_of, type_of_item}
use Rattle.linkinfo.specs.Strings.{reading}
use Rattle.linkinfo.specs.Unmet.{
  Named,
  contents_unmet,
  data_unmet,
  link_at,
  link_unmet,
  linked_unmet,
  no_names,
  role_unmet,
  same_kind,
  strings_unmet,
  whole_item_unmet,
}
use Rattle.linkinfo.specs.declared.role.Role.TheVariants as role
use Rattle.linkinfo.specs.declared.role.Role.{Role}
use Rattle.linkinfo.proofs.MetLasts.{first_counted, in_order, item_in, items_are, last_mapped}
use Rattle.linkinfo.proofs.MetLasts.{lasts_meet, meets_itself, members_met}

both_ways : {A B C : Type 0} → A ↔ B → B ↔ C → A ↔ C
both_ways f g = (λ a. g.0 (f.0 a), λ c. f.1 (g.1 c))

-- ---- lists inside data

nlas_lasts : (s : List ℕ) (k : ℕ) →
    option_map (λ p. p.nla) (last_of_type k (attributes_of s)) ≡ last_of type_of k (nlas_of s)
nlas_lasts s k = last_mapped (λ p. p.nla) (λ a. type_of a == k) None (attributes_of s)

chosen_met : (b : Bool) {P Q : Type 0} (o p : Option Unmet) → (o ≡ None) ↔ P →
    (p ≡ None) ↔ Q → ((if b then o else p) ≡ None) ↔ Chosen b P Q
chosen_met true o p one other = one
chosen_met false o p one other = other

mapped_met : {P : Type 0} (f : Unmet → Unmet) (o : Option Unmet) → (o ≡ None) ↔ P →
    (option_map f o ≡ None) ↔ P
mapped_met f None one = (λ e. one.0 refl, λ m. refl)
mapped_met f (Some u) one = (λ e. absurd cc, λ m. absurd (let e = one.1 m in cc))

-- the attributes of a list, given when one attribute of one type meets another one
attributes_met : (l : Listed) (unmet : PlacedNla → PlacedNla → Option Unmet)
    (Meets : Attribute → Attribute → Type 0) →
    ((h w : PlacedNla) → (unmet h w ≡ None) ↔ Meets h.nla w.nla) → (have want : List ℕ) →
    (attributes_unmet l unmet (attributes_of have) (attributes_of want) ≡ None)
    ↔ AttributesMeet l Meets (nlas_of have) (nlas_of want)
attributes_met l unmet Meets one have want =
    chosen_met l.is_set _ _
    (members_met l.family l.alike (attributes_of have) (attributes_of want))
    (both_ways
    (first_counted (counts (attributes_of want))
    (λ p. found_unmet l.family unmet (last_like (attributes_of have) p) p) (attributes_of want))
    (lasts_meet (λ p. p.nla) (λ p. p.nla) Meets
    (λ h w. found_unmet l.family unmet h w ≡ None) (λ w e. absurd cc) one
    (attributes_of have) (attributes_of want) (StandsIn want) (same_at want) (all_stand want)
    type_of (nlas_of have) (nlas_of want) (nlas_lasts have) (nlas_lasts want)))

if_met : (name : Family) (met : Bool) (h w : PlacedNla) →
    (table.item_unmet name met h w ≡ None) ↔ IsTrue met
if_met name true h w = (λ e. refl, λ m. refl)
if_met name false h w = (λ e. absurd cc, λ m. absurd cc)

-- an attribute, by what it contains
pub payload_met : (c : Contents) (name : Family) (met : Bool) (h w : PlacedNla) →
    (payload_unmet c name met h w ≡ None) ↔ PayloadMeets c met h.nla w.nla
payload_met (NoList place count) name met h w = if_met name met h w
payload_met (ListOf l inside) name met h w =
    chosen_met l.is_whole _ _ (if_met name met h w)
    (mapped_met (inner_unmet w h) _
    (attributes_met l _ _
    (λ x y. payload_met (inside (type_of y.nla)) l.family (meets l.alike x.nla y.nla) x y)
    h.nla.value w.nla.value))

pub list_met : (l : Listed) (inside : ℕ → Contents) (have want : List ℕ) →
    (list_unmet l inside have want ≡ None) ↔ ListMeets l inside have want
list_met l inside have want =
    attributes_met l (attribute_unmet inside l.family l.alike) (AttributeMeets inside l.alike)
    (λ x y. payload_met (inside (type_of y.nla)) l.family (meets l.alike x.nla y.nla) x y) have want

-- data
contents_met : (c : Contents) (met : Bool) (h w : PlacedNla) →
    (contents_unmet c met h w ≡ None) ↔ ContentsMeet c met h.nla w.nla
contents_met (NoList place count) met h w = if_met family.LinkInfo met h w
contents_met (ListOf l inside) met h w =
    mapped_met (inner_unmet w h) _ (list_met l inside h.nla.value w.nla.value)

-- ---- the list

if_both : (c : Bool) (o : Option Unmet) (u : Unmet) →
    (if c then o else Some u) ≡ None ↔ (c ≡ true) × (o ≡ None)
if_both true o u = (λ e. (refl, e), λ h. h.1)
if_both false o u = (λ e. absurd cc, λ h. absurd (let e = h.0 in cc))

item_met : (alike : Attribute → Attribute → Bool) (h w : PlacedNla) →
    whole_item_unmet alike h w ≡ None ↔ IsTrue (meets alike h.nla w.nla)
item_met alike h w = if_met family.LinkInfo (meets alike h.nla w.nla) h w

-- the attribute at an offset, with the names before it
abbrev pub item_at : List ℕ → PlacedNla → Item
item_at s p = item_in no_names (attributes_of s) p

pub items_placed : (s : List ℕ) → map (item_at s) (attributes_of s) ≡ items_of s
unfolding attributes_of
items_placed s = items_are no_names (attributes_of s) (in_order 0 (nla_items s))

items_lasts : (s : List ℕ) (k : ℕ) →
    option_map (item_at s) (last_of_type k (attributes_of s)) ≡ last_of type_of_item k (items_of s)
items_lasts s k =
    last_mapped (item_at s) (λ item. type_of_item item == k) None (attributes_of s)
    ∙ ap (last_of type_of_item k) (items_placed s)

module _ {L : DataTypes} (layer : DataFamilies L) where
  role_met : (r : Role) (h w : PlacedNla) →
      role_unmet layer r h w ≡ None ↔ RoleMeets layer r h.nla w.nla
  role_met (role.Data tag) h w =
      let payload = layer.data_of (family_of tag) in
      contents_met payload.contents (meets (λ a b. payload.alike a.value b.value) h.nla w.nla) h w
  role_met (role.PortData tag) h w =
      let payload = layer.port_data_of (port_family_of tag) in
      contents_met payload.contents (meets (λ a b. payload.alike a.value b.value) h.nla w.nla) h w
  role_met r h w = item_met (row_alike (link_row layer r)) h w

  link_met : (have want : List ℕ) (h w : PlacedNla) →
      link_unmet layer (Some (link_at have h)) (link_at want w) ≡ None
      ↔ ItemMeets layer (item_at have h) (item_at want w)
  link_met have want h w =
      let wanted = item_at want w in
      let r = role_of_item wanted in
      let both =
      if_both (same_kind r (item_at have h).named wanted.named) (role_unmet layer r h w) _ in
      let inner = role_met r h w in (
        λ e. let m = both.0 e in record { kind = m.0; payload = inner.0 m.1 },
        λ m. both.1 (m.kind, inner.1 m.payload),
      )

  pub string_met : (have want : List ℕ) →
      strings_unmet layer have want ≡ None ↔ StringMeets layer have want
  string_met have want =
      both_ways
      (first_counted (counts (attributes_of want))
      (λ p. linked_unmet layer have want (last_like (attributes_of have) p) p)
      (attributes_of want))
      (lasts_meet (item_at have) (item_at want) (ItemMeets layer)
      (λ h w. linked_unmet layer have want h w ≡ None)
      (λ w e. absurd cc) (link_met have want)
      (attributes_of have) (attributes_of want) (StandsIn want) (same_at want) (all_stand want)
      type_of_item (items_of have) (items_of want) (items_lasts have) (items_lasts want))

-- ---- each list is met by itself

pub or_first : (b c : Bool) → b ≡ true → (b || c) ≡ true
or_first b c e = rw e refl

pub or_second : (b c : Bool) → c ≡ true → (b || c) ≡ true
or_second true c e = refl
or_second false c e = e

pub meets_equal : (alike : Attribute → Attribute → Bool) (h w : Attribute) → h.value ≡ w.value →
    IsTrue (meets alike h w)
meets_equal alike h w e =
    or_first (bytes_eq h.value w.value) (alike h w) ((bytes_eq-Decides h.value w.value).1 e)

-- a test that each element passes with itself
any_itself : (like : Attribute → Attribute → Bool) → ((a : Attribute) → like a a ≡ true) →
    (list : List Attribute) →
    AllByRecursion (λ w. IsTrue (list_any (λ h. like h w) list)) list
any_itself like each list = go list (λ w h. h)
  where
    go : (rest : List Attribute) →
        ((w : Attribute) → IsTrue (list_any (λ h. like h w) rest) →
        IsTrue (list_any (λ h. like h w) list)) →
        AllByRecursion (λ w. IsTrue (list_any (λ h. like h w) list)) rest
    go [] f = tt
    go (a ∷ more) f = (
      f a (or_first (like a a) _ (each a)),
      go more (λ w h. f w (or_second (like a w) _ h)),
    )

pub chosen : (b : Bool) {P Q : Type 0} → P → Q → Chosen b P Q
chosen true p q = p
chosen false p q = q

-- the attributes of a list meet themselves if each attribute meets itself
attributes_itself : (l : Listed) (Meets : Attribute → Attribute → Type 0) →
    ((a : Attribute) → Meets a a) → (list : List Attribute) → AttributesMeet l Meets list list
attributes_itself l Meets each list =
    chosen l.is_set
    (any_itself (λ h w. (type_of h == type_of w) && meets l.alike h w)
    (λ a.
    and_from (type_of a == type_of a) (meets l.alike a a) (eq-eqb (type_of a) (type_of a) refl)
    (meets_equal l.alike a a refl)) list)
    (meets_itself type_of Meets each list)

payload_itself : (c : Contents) (met : Bool) (a : Attribute) → IsTrue met → PayloadMeets c met a a
payload_itself (NoList place count) met a e = e
payload_itself (ListOf l inside) met a e =
    chosen l.is_whole e
    (attributes_itself l
    (λ h w. PayloadMeets (inside (type_of w)) (meets l.alike h w) h w)
    (λ x. payload_itself (inside (type_of x)) (meets l.alike x x) x (meets_equal l.alike x x refl))
    (nlas_of a.value))

list_itself : (l : Listed) (inside : ℕ → Contents) (s : List ℕ) → ListMeets l inside s s
list_itself l inside s =
    attributes_itself l (AttributeMeets inside l.alike)
    (λ x. payload_itself (inside (type_of x)) (meets l.alike x x) x (meets_equal l.alike x x refl))
    (nlas_of s)

-- what is met depends on the payloads alone
by_value : (c : Contents) (met : Bool) (h w v : Attribute) → w.value ≡ v.value →
    PayloadMeets c met h w → PayloadMeets c met h v
by_value (NoList place count) met h w v e m = m
by_value (ListOf l inside) met h w v e m =
    subst (λ (s : List ℕ).
    Chosen l.is_whole (IsTrue met)
    (AttributesMeet l (λ x y. PayloadMeets (inside (type_of y)) (meets l.alike x y) x y)
    (nlas_of h.value) (nlas_of s))) e m

-- equal payloads
pub payload_equal : (c : Contents) (met : Bool) (h w : Attribute) → IsTrue met →
    h.value ≡ w.value → PayloadMeets c met h w
payload_equal c met h w is e = by_value c met h h w e (payload_itself c met h is)

contents_equal : (c : Contents) (met : Bool) (h w : Attribute) → IsTrue met →
    h.value ≡ w.value → ContentsMeet c met h w
contents_equal (NoList place count) met h w is e = is
contents_equal (ListOf l inside) met h w is e =
    subst (ListMeets l inside h.value) e (list_itself l inside h.value)

pub same_names : (r : Role) (m n : Named) → m.kind ≡ n.kind → m.port ≡ n.port →
    IsTrue (same_kind r m n)
same_names (role.Data tag) m n e f = (option_decides bytes_eq-Decides m.kind n.kind).1 e
same_names role.Xstats m n e f = (option_decides bytes_eq-Decides m.kind n.kind).1 e
same_names (role.PortData tag) m n e f = (option_decides bytes_eq-Decides m.port n.port).1 f
same_names _ m n e f = refl

module _ {L : DataTypes} (layer : DataFamilies L) where
  -- equal payloads
  pub role_equal : (r : Role) (h w : Attribute) → h.value ≡ w.value → RoleMeets layer r h w
  role_equal (role.Data tag) h w e =
      let payload = layer.data_of (family_of tag) in
      let alike = λ (a b : Attribute). payload.alike a.value b.value in
      contents_equal payload.contents (meets alike h w) h w (meets_equal alike h w e) e
  role_equal (role.PortData tag) h w e =
      let payload = layer.port_data_of (port_family_of tag) in
      let alike = λ (a b : Attribute). payload.alike a.value b.value in
      contents_equal payload.contents (meets alike h w) h w (meets_equal alike h w e) e
  role_equal r h w e = meets_equal (row_alike (link_row layer r)) h w e

  item_itself : (item : Item) → ItemMeets layer item item
  item_itself item =
      let r = role_of_item item in
      record {
        kind = same_names r item.named item.named refl refl;
        payload = role_equal r item.nla item.nla refl;
      }

  pub string_itself : (s : List ℕ) → strings_unmet layer s s ≡ None
  string_itself s =
      (string_met layer s s).1
      (meets_itself type_of_item (ItemMeets layer) item_itself (items_of s))

pub data_itself : (l : Listed) (inside : ℕ → Contents) (s : List ℕ) →
    list_unmet l inside s s ≡ None
data_itself l inside s = (list_met l inside s s).1 (list_itself l inside s)

-- equal data leaves nothing unmet
pub equal_data : {X : Type 0} (payload : Payload X) (h w : PlacedNla) →
    h.nla.value ≡ w.nla.value → data_unmet payload h w ≡ None
equal_data payload h w e =
    let alike = λ (a b : Attribute). payload.alike a.value b.value in
    let met = meets alike h.nla w.nla in
    (contents_met payload.contents met h w).1
    (contents_equal payload.contents met h.nla w.nla (meets_equal alike h.nla w.nla e) e)
