-- What one call of the iterator yields, and how many items it yields.
use Rattle.std.proofs.Common.{
  ◌≡◌,
  ℕ,
  suc,
  ◌+◌,
  ◌-◌,
  ◌*◌,
  ◌/◌,
  ◌≤◌,
  min,
  Bool,
  true,
  false,
  List,
  [],
  ◌∷◌,
  length,
  take,
  drop,
  refl,
  sym,
  ap,
  subst,
  ◌∙◌,
  arith,
  Result,
  Ok,
  Err,
  Some,
  None,
}
use Rattle.std.specs.Prelude.{slice_range}
use Rattle.std.proofs.lemmas.List.{length-drop, drop-drop, drop_min}
use Rattle.std.specs.Iterator.{MakesProgress, item_count}
use Rattle.nla_frame.specs.Attribute.{Attribute, aligned}
use Rattle.nla_frame.specs.declared.error.DecodeError.{DecodeError}
use Rattle.nla_frame.specs.NlaItems.{nla_items, items_of, headers_in, seen, GoesOn, Breaks, Ended}
use Rattle.nla_frame.specs.Walk.{Walk, unread, items_left, headers_left, Moves}
use Rattle.nla_frame.proofs.Stepping.{nla_items_nil, by_nla_items}

abbrev walk : List ℕ → ℕ → ℕ → Bool → Walk
walk s at n failed = record { source = s; place = at; examined = n; failed = failed }

pub progress : (s t : Walk) (x : Result Attribute DecodeError) → Moves s (Some x) t →
    MakesProgress (λ _. Unit {0}) (item_count items_left) s (Some x) t
progress s t x h = record {
  on = λ _. (tt, tt, omega (arith, ap length h.gives));
  keeps = tt;
  rests = λ _. tt;
}

-- after an error nothing is left
pub on_failed : (s : List ℕ) (at n : ℕ) (failed : Bool) → failed ≡ true →
    Moves (walk s at n failed) None (walk s at n failed)
on_failed s at n failed e =
    let none : nla_items (unread (walk s at n failed)) ≡ [] =
    ap (λ (f : Bool). nla_items (unread (walk s at n f))) e ∙ nla_items_nil in
    record {
      gives = (ap items_of none, ap items_of none);
      source = refl;
      counted = refl;
      steps = (refl, none);
    }

-- at the end
pub on_end : (s : List ℕ) (at n m : ℕ) (failed : Bool) → failed ≡ false → Ended (drop at s) n m →
    Moves (walk s at n failed) None (walk s at m failed)
on_end s at n m failed e h =
    let none : (k : ℕ) → nla_items (unread (walk s at k failed)) ≡ [] =
    λ k. ap (λ (f : Bool). nla_items (unread (walk s at k f))) e ∙ h.nla_items_are in
    record {
      gives = (ap items_of (none n), ap items_of (none m));
      source = refl;
      counted = ap (λ (k : ℕ). k + headers_left (walk s at n failed)) h.counted;
      steps = (ap (λ (k : ℕ). walk s at k failed) h.counted, none n);
    }

-- the offset of the next header
next_place : (s rest : List ℕ) (at k : ℕ) → at ≤ length s → rest ≡ drop k (drop at s) →
    length s - length rest ≡ min (length s) (at + k)
next_place s rest at k h e = omega (
  arith,
  ap length e,
  length-drop k (drop at s),
  length-drop at s,
  h,
)

rest_there : (s rest : List ℕ) (at k : ℕ) → at ≤ length s → rest ≡ drop k (drop at s) →
    drop (length s - length rest) s ≡ rest
rest_there s rest at k h e =
    let place : length s - length rest ≡ min (at + k) (length s) =
    omega (arith, next_place s rest at k h e) in
    ap (λ (n : ℕ). drop n s) place ∙ drop_min (at + k) s ∙ sym (drop-drop k at s) ∙ sym e

-- an attribute's value in the source
value_there : (s : List ℕ) (at n : ℕ) →
    slice_range (drop at s) 4 (4 + n) ≡ slice_range s (at + 4) (at + (4 + n))
value_there s at n =
    ap (λ (x : List ℕ). take (4 + n - 4) x) (drop-drop 4 at s)
    ∙ ap (λ (k : ℕ). take k (drop (at + 4) s)) (omega arith)

pub on_attribute : (s u : List ℕ) (at n m : ℕ) (failed : Bool) (a : Attribute) (rest : List ℕ) →
    u ≡ drop at s → at ≤ length s → failed ≡ false →
    GoesOn u n m a rest →
    Moves (walk s at n failed) (Some (Ok a)) (walk s (length s - length rest) m failed)
on_attribute s u at n m failed a rest from within e step =
    let h : GoesOn (drop at s) n m a rest = subst (λ (x : List ℕ). GoesOn x n m a rest) from step in
    let there : drop (length s - length rest) s ≡ rest =
    rest_there s rest at (aligned (4 + length a.value)) within h.rest_is in
    let unread_is : (k j : ℕ) → unread (walk s k j failed) ≡ drop k s = λ k j.
    ap (λ (f : Bool). unread (walk s k j f)) e in
    let after : unread (walk s (length s - length rest) m failed) ≡ rest =
    unread_is (length s - length rest) m ∙ there in
    let parts : nla_items (unread (walk s at n failed))
    ≡ Ok a ∷ nla_items (unread (walk s (length s - length rest) m failed)) =
    ap nla_items (unread_is at n) ∙ h.nla_items_are
    ∙ ap (λ (x : List ℕ). Ok a ∷ nla_items x) (sym after) in
    record {
      gives = ap items_of parts;
      source = refl;
      counted = omega (arith, ap headers_in parts, h.counted);
      steps = record {
        attribute = h.attribute;
        nla_items_are = parts;
        value_is = h.value_is ∙ value_there s at (length a.value);
        place = next_place s rest at (aligned (4 + length a.value)) within h.rest_is;
        examined = h.counted;
        room = omega (arith, ap length after, ap length (unread_is at n), h.room);
      };
    }

pub on_error : (s u : List ℕ) (at n m : ℕ) (failed : Bool) (e : DecodeError) → u ≡ drop at s →
    failed ≡ false → Breaks u n m e →
    Moves (walk s at n failed) (Some (Err e)) (walk s at m true)
on_error s u at n m failed e from f step =
    let h : Breaks (drop at s) n m e = subst (λ (x : List ℕ). Breaks x n m e) from step in
    let unread_is : unread (walk s at n failed) ≡ drop at s =
    ap (λ (b : Bool). unread (walk s at n b)) f in
    let parts : nla_items (unread (walk s at n failed)) ≡ Err (seen (drop at s)) ∷ [] =
    ap nla_items unread_is ∙ h.nla_items_are in
    let none : items_left (walk s at m true) ≡ [] = ap items_of nla_items_nil in
    record {
      gives =
          ap items_of parts
          ∙ ap (λ (x : DecodeError). Err x ∷ []) (sym h.error)
          ∙ ap (λ (x : List (Result Attribute DecodeError)). Err e ∷ x) (sym none);
      source = refl;
      counted = omega (arith, ap headers_in parts, ap headers_in nla_items_nil, h.counted);
      steps = record {
        failed = refl;
        nla_items_are = parts ∙ ap (λ (x : List ℕ). Err (seen x) ∷ []) (sym unread_is);
        place = refl;
        examined = h.counted ∙ ap (λ (x : List ℕ). n + seen x) (sym unread_is);
      };
    }

-- at most one item per four bytes, and one more
items-length : (ps : List (Result Attribute ℕ)) → length (items_of ps) ≡ length ps
items-length [] = refl
items-length ((Ok a) ∷ more) = ap suc (items-length more)
items-length ((Err n) ∷ more) = ap suc (items-length more)

pub nla_items-length : (s : List ℕ) → 4 * length (nla_items s) ≤ length s + 3
nla_items-length s =
    by_nla_items (λ z. 4 * length (nla_items z) ≤ length z + 3)
    (omega (arith, ap length nla_items_nil))
    (λ z some e. omega (arith, ap length e, some))
    (λ z a rest e room h. omega (arith, ap length e, room, h)) s

pub item_bound : (s : List ℕ) → length (items_of (nla_items s)) ≤ length s / 4 + 1
item_bound s = omega (arith, items-length (nla_items s), nla_items-length s)
