-- The offset of a walk after attributes that each mean a value.
use Rattle.std.proofs.Common.{
  ◌≡◌,
  ℕ,
  ◌+◌,
  min,
  List,
  [],
  ◌∷◌,
  ◌++◌,
  length,
  refl,
  sym,
  ap,
  subst,
  ◌∙◌,
  zero-add,
  arith,
  inl,
  inr,
  Result,
  Ok,
  Err,
}
use Rattle.std.specs.Prelude.{IsOk, is_ok, sum_by}
use Rattle.std.proofs.lemmas.List.Sums.{sum_by-append}
use Rattle.nla_frame.specs.Answers.{verdict}
use Rattle.nla_frame.specs.Attribute.{Attribute, IsBytes, aligned}
use Rattle.nla_frame.specs.Error.{header_error}
use Rattle.nla_frame.specs.Framing.{Splits}
use Rattle.nla_frame.specs.NlaItems.{nla_items, nla_items_of, split}
use Rattle.nla_frame.specs.declared.error.DecodeError.{DecodeError}
use Rattle.nla_frame.proofs.Framing.{split_is}
use Rattle.nla_frame.proofs.Stepping.{nla_items_split}
use Rattle.linkinfo_data.specs.DataFamilies.{DataFamilies, DataTypes}
use Rattle.linkinfo_table.specs.Lists.{◌>>=◌}
use Rattle.linkinfo_table.specs.ReadingLaws.{list_has_error}
use Rattle.linkinfo.specs.Layered.{LinkOf}
use Rattle.linkinfo.specs.declared.role.CurrentKinds.{CurrentKinds}
use Rattle.linkinfo.specs.declared.role.Role.TheVariants as role
use Rattle.linkinfo.specs.declared.role.Role.{Role}
use Rattle.linkinfo.specs.Items.{link_meaning}
use Rattle.linkinfo.specs.Placed.{IsErrorAt, IsRejectedAt, error_in, place_after}
use Rattle.linkinfo.specs.Roles.{kinds_after_role, no_kinds, role_at}
use Rattle.linkinfo.specs.Strings.{
  IsRejected,
  MeansEach,
  kinds_after_all,
  next_kinds,
  reading,
  values_from,
}
use Rattle.linkinfo.specs.Walks.{LinkWalk, left, link_walk, place_of, Enters, ErrorOf, Stops}
use Rattle.linkinfo.proofs.Steps.{after_is, meant, meaning_is, own_error_is}

-- ---- attributes before the rest of a byte string

abbrev pub in_front : List Attribute → List (Result Attribute ℕ) → List (Result Attribute ℕ)
in_front [] ps = ps
in_front (a ∷ front) ps = Ok a ∷ in_front front ps

in_front-push : (front : List Attribute) (a : Attribute) (ps : List (Result Attribute ℕ)) →
    in_front (front ++ a ∷ []) ps ≡ in_front front (Ok a ∷ ps)
in_front-push [] a ps = refl
in_front-push (b ∷ front) a ps =
    ap (λ (qs : List (Result Attribute ℕ)). Ok b ∷ qs) (in_front-push front a ps)

kinds_after_all-push : (t : CurrentKinds) (front : List Attribute) (a : Attribute) →
    kinds_after_all t (front ++ a ∷ []) ≡ next_kinds (kinds_after_all t front) a
kinds_after_all-push t [] a = refl
kinds_after_all-push t (b ∷ front) a = kinds_after_all-push (next_kinds t b) front a

least_again : (l n m : ℕ) → min l (min l n + m) ≡ min l (n + m)
least_again l n m = omega arith

-- the offset after one more attribute
pub place_after-push : (s : List ℕ) (front : List Attribute) (a : Attribute) →
    min (length s) (place_after s front + aligned (4 + length a.value))
    ≡ place_after s (front ++ a ∷ [])
place_after-push s front a =
    least_again (length s) (sum_by (λ b. aligned (4 + length b.value)) front)
    (aligned (4 + length a.value))
    ∙ ap (λ (n : ℕ). min (length s) (sum_by (λ b. aligned (4 + length b.value)) front + n))
    (sym (zero-add (aligned (4 + length a.value))))
    ∙ ap (λ (n : ℕ). min (length s) n)
    (sym (sum_by-append (λ b. aligned (4 + length b.value)) front (a ∷ [])))

-- the attribute after those before it is one of the byte string
found_item : (front all : List Attribute) (rest : List ℕ) (a : Attribute)
    (ps : List (Result Attribute ℕ)) → nla_items_of all rest ≡ in_front front (Ok a ∷ ps) →
    (more : List Attribute) × (all ≡ front ++ (a ∷ more))
found_item [] [] [] a ps e = absurd cc
found_item [] [] (b ∷ r) a ps e = absurd cc
found_item [] (c ∷ all) rest a ps e =
    let same : c ≡ a = cc in (all, ap (λ (x : Attribute). x ∷ all) same)
found_item (b ∷ front) [] [] a ps e = absurd cc
found_item (b ∷ front) [] (x ∷ r) a ps e = absurd cc
found_item (b ∷ front) (c ∷ all) rest a ps e =
    let same : c ≡ b = cc in
    let others : nla_items_of all rest ≡ in_front front (Ok a ∷ ps) = cc in
    let found = found_item front all rest a ps others in
    (found.0, ap (λ (x : Attribute). x ∷ all) same ∙ ap (λ (xs : List Attribute). b ∷ xs) found.1)

-- what follows those attributes and has no header is the rest
found_rest : (front all : List Attribute) (rest : List ℕ) (k : ℕ) (ps : List (Result Attribute ℕ)) →
    nla_items_of all rest ≡ in_front front (Err k ∷ ps) →
    (all ≡ front) × ((byte : ℕ) × (bytes : List ℕ) × (rest ≡ byte ∷ bytes))
found_rest [] [] [] k ps e = absurd cc
found_rest [] [] (b ∷ r) k ps e = (refl, (b, r, refl))
found_rest [] (c ∷ all) rest k ps e = absurd cc
found_rest (b ∷ front) [] [] k ps e = absurd cc
found_rest (b ∷ front) [] (x ∷ r) k ps e = absurd cc
found_rest (b ∷ front) (c ∷ all) rest k ps e =
    let same : c ≡ b = cc in
    let others : nla_items_of all rest ≡ in_front front (Err k ∷ ps) = cc in
    let found = found_rest front all rest k ps others in
    (ap (λ (x : Attribute). x ∷ all) same ∙ ap (λ (xs : List Attribute). b ∷ xs) found.0, found.1)

accepted : {X : Type 0} (m : Result X DecodeError) → Ok tt ≡ verdict m → (x : X) × (m ≡ Ok x)
accepted (Ok x) e = (x, refl)
accepted (Err d) e = absurd cc

refused : {X : Type 0} (m : Result X DecodeError) (e : DecodeError) → Err e ≡ verdict m → m ≡ Err e
refused (Ok x) e h = absurd cc
refused (Err d) e h = cc

module _ {L : DataTypes} (layer : DataFamilies L) where
  means_each-push : (t : CurrentKinds) (front : List Attribute) (xs : List (LinkOf L))
      (a : Attribute) (x : LinkOf L) → MeansEach layer t front xs →
      link_meaning layer (kinds_after_all t front) a ≡ Ok x →
      MeansEach layer t (front ++ a ∷ []) (xs ++ x ∷ [])
  means_each-push t [] [] a x h e = (e, tt)
  means_each-push t [] (y ∷ ys) a x h e = absurd h
  means_each-push t (b ∷ front) [] a x h e = absurd h
  means_each-push t (b ∷ front) (y ∷ ys) a x h e = (
    h.0,
    means_each-push (next_kinds t b) front ys a x h.1 e,
  )

  -- ---- a walk that has visited attributes which mean values

  pub record Went (s : List ℕ) (w : LinkWalk) : Type 0 where
    pub front : List Attribute
    pub values : List (LinkOf L)
    pub mean : MeansEach layer no_kinds front values
    pub kinds : kinds_after_all no_kinds front ≡ w.kinds
    pub nla_items_are : nla_items s ≡ in_front front (nla_items (left w))
    pub place : place_of w ≡ place_after s front
    pub source : w.attributes.source ≡ s

  pub begins : (s : List ℕ) → Went s (link_walk s)
  begins s = record {
    front = [];
    values = [];
    mean = tt;
    kinds = refl;
    nla_items_are = refl;
    place = omega arith;
    source = refl;
  }

  pub goes_on : (s : List ℕ) (w : LinkWalk) (a : Attribute) (r : Role) (t : LinkWalk) → Went s w →
      Enters w a r t → t.attributes.source ≡ w.attributes.source →
      Ok tt ≡ verdict (meant layer r a) → Went s t
  goes_on s w a r t went enters source means =
      let value = accepted (meant layer r a) means in
      let x = value.0 in
      let here : link_meaning layer w.kinds a ≡ Ok x =
      meaning_is layer w.kinds a r enters.role ∙ value.1 in
      record {
        front = went.front ++ a ∷ [];
        values = went.values ++ x ∷ [];
        mean =
            means_each-push no_kinds went.front went.values a x went.mean
            (ap (λ (u : CurrentKinds). link_meaning layer u a) went.kinds ∙ here);
        kinds =
            kinds_after_all-push no_kinds went.front a
            ∙ ap (λ (u : CurrentKinds). next_kinds u a) went.kinds
            ∙ after_is w.kinds t.kinds a enters.kinds_after;
        nla_items_are =
            went.nla_items_are
            ∙ ap (λ (ps : List (Result Attribute ℕ)). in_front went.front ps) enters.nla_items_are
            ∙ sym (in_front-push went.front a (nla_items (left t)));
        place =
            enters.place
            ∙ ap (λ (z : List ℕ). min (length z) (place_of w + aligned (4 + length a.value)))
            went.source
            ∙ ap (λ (n : ℕ). min (length s) (n + aligned (4 + length a.value))) went.place
            ∙ place_after-push s went.front a;
        source = source ∙ went.source;
      }

  -- the error of the attribute at the walk's offset
  item_at : (s : List ℕ) (w : LinkWalk) (a : Attribute) (ps : List (Result Attribute ℕ))
      (e : DecodeError) → IsBytes s → Went s w → nla_items (left w) ≡ Ok a ∷ ps →
      link_meaning layer w.kinds a ≡ Err e →
      IsErrorAt layer s e (place_of w) (place_of w + error_in layer (role_at w.kinds a) a)
  item_at s w a ps e bytes went here error =
      let found =
      found_item went.front (split s).front (split s).left a ps
      (sym (nla_items_split s)
      ∙ went.nla_items_are
      ∙ ap (λ (qs : List (Result Attribute ℕ)). in_front went.front qs) here) in (
        inl (record {
          front = went.front;
          item = a;
          more = found.0;
          left = (split s).left;
          splits =
              subst (λ (z : List Attribute). Splits s z (split s).left) found.1 (split_is s bytes);
          values = went.values;
          mean = went.mean;
          error = ap (λ (u : CurrentKinds). link_meaning layer u a) went.kinds ∙ error;
        }),
        went.place,
        ap (λ (u : CurrentKinds). place_of w + error_in layer (role_at u a) a) (sym went.kinds),
      )

  -- an error of data, or of a list in it
  pub inside_at : (s : List ℕ) (w : LinkWalk) (a : Attribute) (r : Role) (t : LinkWalk)
      (e : DecodeError) → IsBytes s → Went s w → Enters w a r t →
      Err e ≡ verdict (meant layer r a) →
      IsErrorAt layer s e (place_of w) (place_of w + error_in layer (role_at w.kinds a) a)
  inside_at s w a r t e bytes went enters error =
      item_at s w a (nla_items (left t)) e bytes went enters.nla_items_are
      (meaning_is layer w.kinds a r enters.role ∙ refused (meant layer r a) e error)

  rest_at : (s : List ℕ) (w : LinkWalk) (k : ℕ) (ps : List (Result Attribute ℕ)) → IsBytes s →
      Went s w → nla_items (left w) ≡ Err k ∷ ps →
      IsErrorAt layer s header_error (place_of w) (place_of w)
  rest_at s w k ps bytes went here =
      let found =
      found_rest went.front (split s).front (split s).left k ps
      (sym (nla_items_split s)
      ∙ went.nla_items_are
      ∙ ap (λ (qs : List (Result Attribute ℕ)). in_front went.front qs) here) in (
        inr (record {
          front = went.front;
          rest = found.1.0 ∷ found.1.1;
          broken =
              subst (λ (z : List ℕ). Splits s went.front z) found.1.2
              (subst (λ (z : List Attribute). Splits s z (split s).left) found.0
              (split_is s bytes));
          values = went.values;
          mean = went.mean;
          error = refl;
        }),
        went.place,
        (let none : place_of w ≡ place_of w + 0 = omega arith in none),
      )

  -- an error of an attribute of the list itself is at its header
  own_error_at : (r : Role) (t : CurrentKinds) (a : Attribute) (e : DecodeError) →
      kinds_after_role r t a ≡ Err e → error_in layer r a ≡ 0
  own_error_at (role.Data tag) t a e h = absurd cc
  own_error_at (role.PortData tag) t a e h = absurd cc
  own_error_at role.Kind t a e h = refl
  own_error_at role.Xstats t a e h = refl
  own_error_at role.PortKind t a e h = refl
  own_error_at role.Misplaced t a e h = refl
  own_error_at role.Unknown t a e h = refl

  -- the error of a walk: a rest without a header, or an error of an attribute itself
  stops_by : (s : List ℕ) (w : LinkWalk) (ps : List (Result Attribute ℕ)) (e : DecodeError)
      (n : ℕ) → IsBytes s → Went s w → nla_items (left w) ≡ ps → ErrorOf w.kinds ps e n →
      IsErrorAt layer s e (place_of w) (place_of w)
  stops_by s w [] e n bytes went here h = absurd h
  stops_by s w ((Err k) ∷ ps) e n bytes went here h =
      subst (λ (d : DecodeError). IsErrorAt layer s d (place_of w) (place_of w)) (sym h.0)
      (rest_at s w k ps bytes went here)
  stops_by s w ((Ok a) ∷ ps) e n bytes went here h =
      let own = own_error_at (role_at w.kinds a) w.kinds a e h.0 in
      let same : place_of w + error_in layer (role_at w.kinds a) a ≡ place_of w =
      omega (arith, own) in
      subst (λ (inner : ℕ). IsErrorAt layer s e (place_of w) inner) same
      (item_at s w a ps e bytes went here
      (meaning_is layer w.kinds a (role_at w.kinds a) refl
      ∙ (own_error_is layer (role_at w.kinds a) w.kinds a e h.0).0))

  pub stops_at : (s : List ℕ) (w : LinkWalk) (e : DecodeError) (t : LinkWalk) → IsBytes s →
      Went s w → Stops w e t →
      IsErrorAt layer s e (place_of w) (place_of w)
  stops_at s w e t bytes went h = stops_by s w (nla_items (left w)) e h.seen bytes went refl h.error

  -- the attribute of the list that has the error
  pub rejected_at : (s : List ℕ) (e : DecodeError) (place inner : ℕ) →
      IsErrorAt layer s e place inner → IsRejectedAt layer s e place
  rejected_at s e place inner at = (at.0, at.1)

  -- ---- a walk that has visited all attributes

  each_read : (t : CurrentKinds) (front : List Attribute) (xs : List (LinkOf L)) →
      MeansEach layer t front xs → values_from layer t (in_front front []) ≡ Ok xs
  each_read t [] [] h = refl
  each_read t [] (x ∷ xs) h = absurd h
  each_read t (a ∷ front) [] h = absurd h
  each_read t (a ∷ front) (x ∷ xs) h =
      ap (λ (r : Result (LinkOf L) DecodeError). r
      >>= λ y. values_from layer (next_kinds t a) (in_front front []) >>= λ ys. Ok (y ∷ ys)) h.0
      ∙ ap (λ (r : Result (List (LinkOf L)) DecodeError). r >>= λ ys. Ok (x ∷ ys))
      (each_read (next_kinds t a) front xs h.1)

  pub ends : (s : List ℕ) (w : LinkWalk) → Went s w → nla_items (left w) ≡ [] →
      IsOk (reading layer s)
  unfolding reading
  ends s w went none =
      ap (λ (r : Result (List (LinkOf L)) DecodeError). is_ok r) (
      ap (λ (ps : List (Result Attribute ℕ)). values_from layer no_kinds ps)
      (went.nla_items_are ∙ ap (λ (qs : List (Result Attribute ℕ)). in_front went.front qs) none)
      ∙ each_read no_kinds went.front went.values went.mean
      )

  -- the result of parsing a byte string that has an error
  pub reads_error : (s : List ℕ) (e : DecodeError) → IsBytes s → IsRejected layer s e →
      reading layer s ≡ Err e
  unfolding reading
  reads_error s e bytes rejected =
      (list_has_error (link_meaning layer) next_kinds no_kinds s e bytes).1 rejected
