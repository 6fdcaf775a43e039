-- One step over two accepted byte strings, under the current kinds in the first.
use Rattle.std.proofs.Common.{
  ◌≡◌,
  ℕ,
  ◌+◌,
  Bool,
  true,
  false,
  ◌&&◌,
  List,
  ◌∷◌,
  refl,
  sym,
  ap,
  subst,
  ◌∙◌,
  Result,
  Ok,
  Err,
}
use Rattle.std.specs.Prelude.{IsOk}
use Rattle.std.specs.Bool.{OnTrue}
use Rattle.nla_frame.specs.Attribute.{Attribute, masked}
use Rattle.nla_frame.specs.NlaItems.{nla_items}
use Rattle.nla_frame.specs.declared.error.DecodeError.{DecodeError}
use Rattle.linkinfo_data.specs.DataFamilies.{DataFamilies, DataTypes}
use Rattle.linkinfo_table.specs.Lists.{◌>>=◌, if_read}
use Rattle.linkinfo_table.specs.Rows.{row_alike, row_headers, alike_in}
use Rattle.linkinfo.specs.Layered.{LinkOf}
use Rattle.linkinfo.specs.declared.role.CurrentKinds.{CurrentKinds}
use Rattle.linkinfo.specs.declared.role.Role.{Role}
use Rattle.linkinfo.specs.Items.{link_row, link_alike, link_headers, link_meaning}
use Rattle.linkinfo.specs.Roles.{kinds_after_role, role_of, role_at}
use Rattle.linkinfo.specs.Strings.{next_kinds, values_from, headers_from, alike_from}
use Rattle.linkinfo.proofs.Items.{role_alike_after, link_alike_after, same_role}
use Rattle.linkinfo.proofs.Steps.{after_is, meant, meaning_is, headers_is, own_error_is}

module _ {L : DataTypes} (layer : DataFamilies L) where
  -- an accepted byte string that begins with an attribute
  pub record Front (t : CurrentKinds) (a : Attribute) (s rest : List ℕ) : Type 0 where
    pub first : IsOk (link_meaning layer t a)
    pub more : IsOk (values_from layer (next_kinds t a) (nla_items rest))
    pub headers : headers_from layer t (nla_items s)
        ≡ 1 + (link_headers layer t a + headers_from layer (next_kinds t a) (nla_items rest))

  pub front : (t : CurrentKinds) (a : Attribute) (s rest : List ℕ) → nla_items s
      ≡ Ok a ∷ nla_items rest →
      IsOk (values_from layer t (nla_items s)) → Front t a s rest
  front t a s rest e ok =
      go (link_meaning layer t a) (values_from layer (next_kinds t a) (nla_items rest)) refl refl
      (subst (λ (ps : List (Result Attribute ℕ)). IsOk (values_from layer t ps)) e ok)
    where
      go : (m : Result (LinkOf L) DecodeError) (v : Result (List (LinkOf L)) DecodeError) →
          link_meaning layer t a ≡ m → values_from layer (next_kinds t a) (nla_items rest) ≡ v →
          IsOk (m >>= λ x. v
          >>= λ xs. let r : Result (List (LinkOf L)) DecodeError = Ok (x ∷ xs) in r) →
          Front t a s rest
      go (Ok x) (Ok xs) h k i = record {
        first = subst (λ (m : Result (LinkOf L) DecodeError). IsOk m) (sym h) refl;
        more = subst (λ (v : Result (List (LinkOf L)) DecodeError). IsOk v) (sym k) refl;
        headers =
            ap (λ (ps : List (Result Attribute ℕ)). headers_from layer t ps) e
            ∙ ap (λ (m : Result (LinkOf L) DecodeError). 1
            + (link_headers layer t a
            + if_read m (headers_from layer (next_kinds t a) (nla_items rest)))) h;
      }
      go (Ok x) (Err d) h k i = absurd cc
      go (Err d) v h k i = absurd cc

  -- an accepted attribute has no error of its own
  clean_of : (r : Role) (t : CurrentKinds) (a : Attribute) → IsOk (meant layer r a) →
      IsOk (kinds_after_role r t a)
  clean_of r t a ok = go (kinds_after_role r t a) refl
    where
      none : (m : Result (LinkOf L) DecodeError) (e : DecodeError) → m ≡ Err e → IsOk m → ⊥
      none (Ok x) e h i = absurd cc
      none (Err d) e h i = absurd cc

      go : (b : Result CurrentKinds DecodeError) → kinds_after_role r t a ≡ b → IsOk b
      go (Ok u) h = refl
      go (Err e) h = absurd (none (meant layer r a) e (own_error_is layer r t a e h).0 ok)

  pub record Paired (t : CurrentKinds) (a b : Attribute) (r : Role)
      (x more_x y more_y : List ℕ) : Type
      0 where
    pub first : IsOk (meant layer r a)
    pub second : masked b.kind ≡ masked a.kind → IsOk (meant layer r b)
    pub clean : IsOk (kinds_after_role r t a)
    pub first_more : IsOk (values_from layer (next_kinds t a) (nla_items more_x))
    pub second_more : IsOk (values_from layer (next_kinds t b) (nla_items more_y))
    pub same : alike_from layer t (nla_items x) (nla_items y)
        ≡ (row_alike (link_row layer r) a b
        && alike_from layer (next_kinds t a) (nla_items more_x) (nla_items more_y))
    pub goes_on : row_alike (link_row layer r) a b ≡ true → next_kinds t a ≡ next_kinds t b
    pub headers_x : headers_from layer t (nla_items x)
        ≡ 1
        + (row_headers (link_row layer r) a + headers_from layer (next_kinds t a)
        (nla_items more_x))
    pub headers_y : row_alike (link_row layer r) a b ≡ true →
        headers_from layer t (nla_items y)
        ≡ 1
        + (row_headers (link_row layer r) b + headers_from layer (next_kinds t b)
        (nla_items more_y))

  pub alike_is : (t : CurrentKinds) (a b : Attribute) (r : Role) → r ≡ role_at t a →
      link_alike layer t a b ≡ row_alike (link_row layer r) a b
  unfolding alike_in
  alike_is t a b r e = ap (λ (s : Role). row_alike (link_row layer s) a b) (sym e)

  pub paired : (t : CurrentKinds) (a b : Attribute) (r : Role) (k : ℕ)
      (x more_x y more_y : List ℕ) →
      r ≡ role_of t k → k ≡ masked a.kind →
      nla_items x ≡ Ok a ∷ nla_items more_x → nla_items y ≡ Ok b ∷ nla_items more_y →
      IsOk (values_from layer t (nla_items x)) → IsOk (values_from layer t (nla_items y)) →
      Paired t a b r x more_x y more_y
  paired t a b r k x more_x y more_y is number gx gy ok_x ok_y =
      let role : r ≡ role_at t a = is ∙ ap (λ (n : ℕ). role_of t n) number in
      let fx = front t a x more_x gx ok_x in
      let fy = front t b y more_y gy ok_y in
      let first =
      subst (λ (m : Result (LinkOf L) DecodeError). IsOk m) (meaning_is layer t a r role)
      fx.first in
      let other : masked b.kind ≡ masked a.kind → r ≡ role_at t b = λ e.
      role ∙ sym (same_role layer t a b e) in
      record {
        first = first;
        second = λ e.
            subst (λ (m : Result (LinkOf L) DecodeError). IsOk m)
            (meaning_is layer t b r (other e)) fy.first;
        clean = clean_of r t a first;
        first_more = fx.more;
        second_more = fy.more;
        same =
            ap (λ (ps : List (Result Attribute ℕ)). alike_from layer t ps (nla_items y)) gx
            ∙ ap
            (λ (qs : List (Result Attribute ℕ)). alike_from layer t (Ok a ∷ nla_items more_x) qs)
            gy
            ∙ ap (λ (h : Bool). h
            && alike_from layer (next_kinds t a) (nla_items more_x) (nla_items more_y))
            (alike_is t a b r role);
        goes_on = λ h. link_alike_after layer t a b (alike_is t a b r role ∙ h);
        headers_x =
            fx.headers
            ∙ ap (λ (n : ℕ). 1 + (n + headers_from layer (next_kinds t a) (nla_items more_x)))
            (headers_is layer t a r role);
        headers_y = λ h.
            fy.headers
            ∙ ap (λ (n : ℕ). 1 + (n + headers_from layer (next_kinds t b) (nla_items more_y)))
            (headers_is layer t b r (other (role_alike_after layer r t a b h).0));
      }

  -- an unwrapped result
  pub entered_is : (t u : CurrentKinds) (a : Attribute) (r : Role) (k : ℕ) → r ≡ role_of t k →
      k ≡ masked a.kind → kinds_after_role r t a ≡ Ok u → next_kinds t a ≡ u
  entered_is t u a r k is number e =
      after_is t u a
      (ap (λ (s : Role). kinds_after_role s t a) (sym (is ∙ ap (λ (n : ℕ). role_of t n) number))
      ∙ e)

pub apart : (b c : Bool) → b ≡ false → (b && c) ≡ false
apart true c e = absurd cc
apart false c e = refl

pub along : (b c : Bool) → b ≡ true → (b && c) ≡ c
along true c e = refl
along false c e = absurd cc

pub on_true : (r : Bool) (Q : Type 0) → r ≡ true → OnTrue r Q → Q
on_true true Q e h = h
on_true false Q e h = absurd cc
