-- One step of a walk, as the values, the headers and the memory of what it has not visited.
use Rattle.std.proofs.Common.{
  ◌≡◌,
  ℕ,
  ◌+◌,
  ◌*◌,
  ◌≤◌,
  Bool,
  true,
  false,
  ◌||◌,
  List,
  [],
  ◌∷◌,
  ◌++◌,
  length,
  append_assoc,
  refl,
  sym,
  ap,
  ◌∙◌,
  arith,
  Result,
  Ok,
  Err,
}
use Rattle.std.specs.Prelude.{◌≢◌, is_ok, IsOk}
use Rattle.nla_frame.specs.Answers.{verdict}
use Rattle.nla_frame.specs.Attribute.{Attribute, IsAttribute}
use Rattle.nla_frame.specs.Error.{memory_error}
use Rattle.nla_frame.specs.NlaItems.{nla_items, seen}
use Rattle.nla_frame.specs.declared.error.Family.TheVariants as family
use Rattle.nla_frame.specs.declared.error.DecodeError.{DecodeError}
use Rattle.linkinfo_numbers.specs.Kind.{kind_of_name}
use Rattle.linkinfo_numbers.specs.PortKind.{port_kind_of_name}
use Rattle.linkinfo_data.specs.DataFamilies.{DataFamilies, DataTypes}
use Rattle.linkinfo_table.specs.Lists.{◌>>=◌, if_read, append_to as front}
use Rattle.linkinfo_table.specs.Rows.{
  meaning_in,
  headers_inside,
  memory_in,
  row_meaning,
  row_headers,
  row_needs_memory,
}
use Rattle.linkinfo.specs.Layered.{LinkOf}
use Rattle.linkinfo.specs.declared.link_info.LinkInfoOf.TheVariants as info
use Rattle.linkinfo.specs.declared.role.CurrentKinds.{CurrentKinds}
use Rattle.linkinfo.specs.declared.role.Role.{Role}
use Rattle.linkinfo.specs.declared.role.Role.TheVariants as role
use Rattle.linkinfo.specs.Items.{
  link_other,
  link_row,
  link_meaning,
  link_headers,
  link_needs_memory,
}
use Rattle.linkinfo.specs.Roles.{
  kinds_after,
  kinds_after_role,
  name_meaning,
  no_kinds,
  role_at,
  with_name,
}
use Rattle.linkinfo.specs.Strings.{or_stay, next_kinds, values_from, headers_from, memory_from}
use Rattle.linkinfo.specs.Walks.{LinkWalk, left, Enters, ErrorOf, Stops}
use Rattle.linkinfo.proofs.Naming.{named_err, not_both}

-- the current kinds after an attribute without an error of its own
pub after_is : (t u : CurrentKinds) (a : Attribute) → kinds_after t a ≡ Ok u → next_kinds t a ≡ u
unfolding next_kinds
after_is t u a e = ap (λ (r : Result CurrentKinds DecodeError). or_stay t r) e

-- whether an attribute has an error of its own depends on its role alone
pub entered_any : (r : Role) (t u : CurrentKinds) (a : Attribute) → kinds_after_role r t a ≡ Ok u →
    IsOk (kinds_after_role r no_kinds a)
entered_any role.Kind t u a e = go (name_meaning a) _ _ e
  where
    go : (n : Result (List ℕ) DecodeError) (f g : List ℕ → CurrentKinds) → with_name n f ≡ Ok u →
        IsOk (with_name n g)
    go (Ok name) f g h = refl
    go (Err d) f g h = absurd cc
entered_any role.PortKind t u a e = go (name_meaning a) _ _ e
  where
    go : (n : Result (List ℕ) DecodeError) (f g : List ℕ → CurrentKinds) → with_name n f ≡ Ok u →
        IsOk (with_name n g)
    go (Ok name) f g h = refl
    go (Err d) f g h = absurd cc
entered_any role.Misplaced t u a e = absurd cc
entered_any _ t u a e = refl

module _ {L : DataTypes} (layer : DataFamilies L) where
  abbrev pub meant : Role → Attribute → Result (LinkOf L) DecodeError
  meant r a = row_meaning family.LinkInfo link_other (link_row layer r) a

  pub meaning_is : (t : CurrentKinds) (a : Attribute) (r : Role) → r ≡ role_at t a →
      link_meaning layer t a ≡ meant r a
  unfolding meaning_in
  meaning_is t a r e = ap (λ (s : Role). meant s a) (sym e)

  pub headers_is : (t : CurrentKinds) (a : Attribute) (r : Role) → r ≡ role_at t a →
      link_headers layer t a ≡ row_headers (link_row layer r) a
  unfolding headers_inside
  headers_is t a r e = ap (λ (s : Role). row_headers (link_row layer s) a) (sym e)

  pub memory_is : (t : CurrentKinds) (a : Attribute) (r : Role) → r ≡ role_at t a →
      link_needs_memory layer t a ≡ row_needs_memory (link_row layer r) a
  unfolding memory_in
  memory_is t a r e = ap (λ (s : Role). row_needs_memory (link_row layer s) a) (sym e)

  -- a step to an attribute
  pub record Entered (s : LinkWalk) (a : Attribute) (r : Role) (t : LinkWalk) : Type 0 where
    pub values : values_from layer s.kinds (nla_items (left s))
        ≡ (meant r a >>= λ x. values_from layer t.kinds (nla_items (left t)) >>= λ xs. Ok (x ∷ xs))
    pub headers : headers_from layer s.kinds (nla_items (left s))
        ≡ 1 + (row_headers (link_row layer r) a
        + if_read (meant r a) (headers_from layer t.kinds (nla_items (left t))))
    pub memory : memory_from layer s.kinds (nla_items (left s))
        ≡ (row_needs_memory (link_row layer r) a || is_ok (meant r a))
    pub clean : IsOk (kinds_after_role r no_kinds a)
    pub kinds_after : kinds_after_role r s.kinds a ≡ Ok t.kinds
    pub attribute : IsAttribute a
    pub examined : t.attributes.examined ≡ s.attributes.examined + 1
    pub room : length (left t) + (4 + length a.value) ≤ length (left s)

  pub entered : (s : LinkWalk) (a : Attribute) (r : Role) (t : LinkWalk) → Enters s a r t →
      Entered s a r t
  entered s a r t h =
      let after = after_is s.kinds t.kinds a h.kinds_after in
      let means = meaning_is s.kinds a r h.role in
      let more : List (Result Attribute ℕ) = nla_items (left t) in
      let kinds_after_is = ap (λ (q : Role). kinds_after_role q s.kinds a) h.role ∙ h.kinds_after in
      record {
        values =
            ap (λ (ps : List (Result Attribute ℕ)). values_from layer s.kinds ps) h.nla_items_are
            ∙ ap (λ (m : Result (LinkOf L) DecodeError). m
            >>= λ x. values_from layer (next_kinds s.kinds a) more >>= λ xs. Ok (x ∷ xs)) means
            ∙ ap
            (λ (u : CurrentKinds). meant r a >>= λ x. values_from layer u more >>= λ xs. Ok
            (x ∷ xs))
            after;
        headers =
            ap (λ (ps : List (Result Attribute ℕ)). headers_from layer s.kinds ps) h.nla_items_are
            ∙ ap (λ (m : Result (LinkOf L) DecodeError). 1
            + (link_headers layer s.kinds a
            + if_read m (headers_from layer (next_kinds s.kinds a) more))) means
            ∙ ap (λ (n : ℕ). 1
            + (n + if_read (meant r a) (headers_from layer (next_kinds s.kinds a) more)))
            (headers_is s.kinds a r h.role)
            ∙ ap (λ (u : CurrentKinds). 1
            + (row_headers (link_row layer r) a + if_read (meant r a) (headers_from layer u more)))
            after;
        memory =
            ap (λ (ps : List (Result Attribute ℕ)). memory_from layer s.kinds ps) h.nla_items_are
            ∙ ap (λ (m : Result (LinkOf L) DecodeError). link_needs_memory layer s.kinds a
            || is_ok m) means
            ∙ ap (λ (n : Bool). n || is_ok (meant r a)) (memory_is s.kinds a r h.role);
        clean = entered_any r s.kinds t.kinds a kinds_after_is;
        kinds_after = kinds_after_is;
        attribute = h.attribute;
        examined = h.examined;
        room = h.room;
      }

  -- an error of an attribute itself is what the attribute means
  pub own_error_is : (r : Role) (t : CurrentKinds) (a : Attribute) (e : DecodeError) →
      kinds_after_role r t a ≡ Err e → (meant r a ≡ Err e) × (row_headers (link_row layer r) a ≡ 0)
  own_error_is role.Kind t a e h = (
    named_err (λ name. info.Kind (kind_of_name name)) a e (go (name_meaning a) _ h),
    refl,
  )
    where
      go : (n : Result (List ℕ) DecodeError) (f : List ℕ → CurrentKinds) → with_name n f ≡ Err e →
          n ≡ Err e
      go (Ok name) f k = absurd cc
      go (Err d) f k = cc
  own_error_is role.PortKind t a e h = (
    named_err (λ name. info.PortKind (port_kind_of_name name)) a e (go (name_meaning a) _ h),
    refl,
  )
    where
      go : (n : Result (List ℕ) DecodeError) (f : List ℕ → CurrentKinds) → with_name n f ≡ Err e →
          n ≡ Err e
      go (Ok name) f k = absurd cc
      go (Err d) f k = cc
  own_error_is role.Misplaced t a e h = (cc, refl)
  own_error_is _ t a e h = absurd cc

  -- the error at which a walk stops
  pub record Stopped (s : LinkWalk) (e : DecodeError) (t : LinkWalk) : Type 0 where
    pub values : values_from layer s.kinds (nla_items (left s)) ≡ Err e
    pub headers : t.attributes.examined
        ≡ s.attributes.examined + headers_from layer s.kinds (nla_items (left s))
    pub room : 4 * t.attributes.examined ≤ 4 * s.attributes.examined + length (left s)

  error_is : (t : CurrentKinds) (ps : List (Result Attribute ℕ)) (e : DecodeError) (n : ℕ) →
      ErrorOf t ps e n → (values_from layer t ps ≡ Err e) × (headers_from layer t ps ≡ n)
  error_is t [] e n h = absurd h
  error_is t ((Err k) ∷ more) e n h = (
    ap (λ (d : DecodeError). let r : Result (List (LinkOf L)) DecodeError = Err d in r)
        (sym h.0),
    sym h.1,
  )
  error_is t ((Ok a) ∷ more) e n h =
      let own = own_error_is (role_at t a) t a e h.0 in
      let means = meaning_is t a (role_at t a) refl ∙ own.0 in
      let none = headers_is t a (role_at t a) refl ∙ own.1 in (
        ap (λ (m : Result (LinkOf L) DecodeError). m
            >>= λ x. values_from layer (next_kinds t a) more >>= λ xs. Ok (x ∷ xs)) means,
        ap (λ (m : Result (LinkOf L) DecodeError). 1
            + (link_headers layer t a + if_read m (headers_from layer (next_kinds t a) more))) means
            ∙ ap (λ (k : ℕ). 1 + (k + 0)) none
            ∙ sym h.1,
      )

  pub stopped : (s : LinkWalk) (e : DecodeError) (t : LinkWalk) → Stops s e t → Stopped s e t
  stopped s e t h =
      let f = error_is s.kinds (nla_items (left s)) e h.seen h.error in
      record {
        values = f.0;
        headers = omega (arith, f.1, h.examined);
        room = omega (arith, h.examined, h.room);
      }

-- ---- a list that is parsed, one value after another

or_true : (n : Bool) → (n || true) ≡ true
or_true true = refl
or_true false = refl

-- a first error that needs no memory
pub needs_off : (b n k : Bool) → b ≡ (n || k) → b ≡ false → n ≡ false
needs_off b true k e none = absurd (not_both b e none)
needs_off b false k e none = refl

module _ {X : Type 0} where
  abbrev with_more : Result X DecodeError → Result (List X) DecodeError →
      Result (List X) DecodeError
  with_more m V = m >>= λ x. V >>= λ xs. Ok (x ∷ xs)

  pushed : (zs : List X) (x : X) (V : Result (List X) DecodeError) →
      front zs (V >>= λ xs. Ok (x ∷ xs)) ≡ front (zs ++ x ∷ []) V
  pushed zs x (Ok xs) =
      ap (λ (ys : List X). let r : Result (List X) DecodeError = Ok ys in r)
      (sym (append_assoc zs (x ∷ []) xs))
  pushed zs x (Err e) = refl

  pub on_value : (F S V : Result (List X) DecodeError) (zs ys : List X) (x : X)
      (m : Result X DecodeError) → front zs S ≡ F → S ≡ with_more m V → m ≡ Ok x →
      ys ≡ zs ++ x ∷ [] → front ys V ≡ F
  on_value F S V zs ys x m inv step is e =
      ap (λ (l : List X). front l V) e
      ∙ sym (pushed zs x V)
      ∙ sym (ap (λ (r : Result (List X) DecodeError). front zs r)
      (step ∙ ap (λ (n : Result X DecodeError). with_more n V) is))
      ∙ inv

  pub on_error : (F S V : Result (List X) DecodeError) (zs : List X) (m : Result X DecodeError)
      (e : DecodeError) → front zs S ≡ F → S ≡ with_more m V → m ≡ Err e → F ≡ Err e
  on_error F S V zs m e inv step is =
      sym inv
      ∙ ap (λ (r : Result (List X) DecodeError). front zs r)
      (step ∙ ap (λ (n : Result X DecodeError). with_more n V) is)

  pub headers_on : (m : Result X DecodeError) (x : X) (n : ℕ) → m ≡ Ok x → if_read m n ≡ n
  headers_on m x n is = ap (λ (r : Result X DecodeError). if_read r n) is

  pub headers_off : (m : Result X DecodeError) (e : DecodeError) (n : ℕ) → m ≡ Err e →
      if_read m n ≡ 0
  headers_off m e n is = ap (λ (r : Result X DecodeError). if_read r n) is

  -- if a first value was parsed, memory was needed
  pub value_needs : (b n : Bool) (m : Result X DecodeError) (x : X) → b ≡ (n || is_ok m) →
      m ≡ Ok x → b ≡ false → ⊥
  value_needs b n m x e is none =
      not_both b (e ∙ ap (λ (r : Result X DecodeError). n || is_ok r) is ∙ or_true n) none

  pub on_error_unless : (F S V : Result (List X) DecodeError) (zs : List X)
      (m : Result X DecodeError) (e : DecodeError) → front zs S ≡ F → S ≡ with_more m V →
      (e ≢ memory_error → m ≡ Err e) → e ≢ memory_error → F ≡ Err e
  on_error_unless F S V zs m e inv step is ample = on_error F S V zs m e inv step (is ample)

  -- the headers up to an error
  pub counted_error : (m : Result X DecodeError) (e : DecodeError)
      (total S h H count new seen seen' : ℕ) → (count + seen) + S ≡ total →
      S ≡ 1 + (h + if_read m H) →
      seen' ≡ seen + 1 → (e ≢ memory_error → m ≡ Err e) → (e ≢ memory_error → new ≡ count + h) →
      e ≢ memory_error → new + seen' ≡ total
  counted_error m e total S h H count new seen seen' inv step one is counted ample = omega (
    arith,
    inv,
    step,
    one,
    headers_off m e H (is ample),
    counted ample,
  )

  -- after an accepted attribute, the verdict on the list is that on the rest
  pub checked_value : (F S V : Result (List X) DecodeError) (m : Result X DecodeError) →
      verdict S ≡ verdict F → S ≡ with_more m V → Ok tt ≡ verdict m → verdict V ≡ verdict F
  checked_value F S V m inv step is = go m (sym is) (sym (ap verdict step) ∙ inv)
    where
      go : (n : Result X DecodeError) → verdict n ≡ Ok tt → verdict (with_more n V) ≡ verdict F →
          verdict V ≡ verdict F
      go (Ok x) h k = without V k
        where
          without : (W : Result (List X) DecodeError) →
              verdict (W >>= λ xs. let r : Result (List X) DecodeError = Ok (x ∷ xs) in r)
              ≡ verdict F → verdict W ≡ verdict F
          without (Ok xs) l = l
          without (Err d) l = l
      go (Err d) h k = absurd cc

  pub checked_error : (F S V : Result (List X) DecodeError) (m : Result X DecodeError)
      (e : DecodeError) → verdict S ≡ verdict F → S ≡ with_more m V → Err e ≡ verdict m →
      Err e ≡ verdict F
  checked_error F S V m e inv step is = go m is (sym (ap verdict step) ∙ inv)
    where
      go : (n : Result X DecodeError) → Err e ≡ verdict n → verdict (with_more n V) ≡ verdict F →
          Err e ≡ verdict F
      go (Ok x) h k = absurd cc
      go (Err d) h k = h ∙ k

  pub checked_on : (m : Result X DecodeError) (n : ℕ) → Ok tt ≡ verdict m → if_read m n ≡ n
  checked_on (Ok x) n e = refl
  checked_on (Err d) n e = absurd cc

  pub checked_off : (m : Result X DecodeError) (e : DecodeError) (n : ℕ) → Err e ≡ verdict m →
      if_read m n ≡ 0
  checked_off (Ok x) e n h = absurd cc
  checked_off (Err d) e n h = refl
