-- Slices of slices.
use Rattle.std.proofs.Common.{
  ◌≡◌,
  ℕ,
  ◌+◌,
  ◌-◌,
  ◌≤◌,
  Bool,
  true,
  false,
  cond,
  eqb,
  List,
  [],
  ◌++◌,
  length,
  take,
  drop,
  refl,
  sym,
  ap,
  subst,
  ◌∙◌,
  append_assoc,
  append-nil,
  arith,
  Option,
  Some,
  None,
}
use Rattle.std.specs.Prelude.{slice_index, slice_range, IfSome}
use Rattle.std.proofs.lemmas.List.{
  take_at,
  drop_at,
  take-append-drop,
  length-append,
  length-take,
  length-drop,
}
use Rattle.nla_frame.specs.Attribute.{Attribute}
use Rattle.nla_frame.specs.Payload.{stripped}
use Rattle.nla_frame.specs.Walk.{Walk, Passes}
use Rattle.linkinfo_messages.specs.Slices.{IsSlice, AreSlices}
use Rattle.linkinfo_messages.proofs.Items.{of_choice}
use Rattle.linkinfo_messages.proofs.Locating.{room}

of_parts : (front part rest s : List ℕ) (at : ℕ) → s ≡ front ++ (part ++ rest) →
    at ≡ length front → IsSlice part s at
of_parts front part rest s at e n =
    let size : length s ≡ length front + (length part + length rest) =
    ap length e ∙ simp length-append refl in
    record {
      bytes = sym (
          ap (λ x. take (at + length part - at) (drop at x)) e
          ∙ ap (λ x. take (at + length part - at) x) (drop_at front (part ++ rest) at (sym n))
          ∙ take_at part rest (at + length part - at) (omega arith)
          );
      within = omega (arith, size, n);
    }

to_parts : (part s : List ℕ) (at : ℕ) → IsSlice part s at →
    s ≡ take at s ++ (part ++ drop (length part) (drop at s))
to_parts part s at h =
    let same : part ≡ take (length part) (drop at s) =
    h.bytes ∙ ap (λ n. take n (drop at s)) (omega arith) in
    sym (take-append-drop at s)
    ∙ ap (λ x. take at s ++ x) (sym (take-append-drop (length part) (drop at s)))
    ∙ ap (λ x. take at s ++ (x ++ drop (length part) (drop at s))) (sym same)

-- a slice of a slice
pub slice_in : (part u s : List ℕ) (at base : ℕ) → IsSlice part u at → IsSlice u s base →
    IsSlice part s (base + at)
slice_in part u s at base h i =
    let inner = to_parts part u at h in
    let outer = to_parts u s base i in
    let front : ℕ = length (take base s ++ take at u) in
    of_parts (take base s ++ take at u) part
    (drop (length part) (drop at u) ++ drop (length u) (drop base s)) s (base + at)
    (outer
    ∙ ap (λ x. take base s ++ (x ++ drop (length u) (drop base s))) inner
    ∙ simp append_assoc refl)
    (omega (
      arith,
      length-append (take base s) (take at u),
      length-take base s,
      length-take at u,
      h.within,
      i.within,
    ))

-- what begins at an offset
pub rest_slice : (u s : List ℕ) (at : ℕ) → at ≤ length s → u ≡ drop at s → IsSlice u s at
rest_slice u s at h e =
    of_parts (take at s) u [] s at
    (sym (take-append-drop at s) ∙ ap (λ x. take at s ++ x) (sym e ∙ sym (append-nil u)))
    (omega (arith, length-take at s, h))

-- what is between two offsets
pub range_slice : (s : List ℕ) (i j : ℕ) → i ≤ j → j ≤ length s → IsSlice (slice_range s i j) s i
range_slice s i j h k =
    let size : length (slice_range s i j) ≡ j - i =
    omega (arith, length-take (j - i) (drop i s), length-drop i s, h, k) in
    record {
      bytes = ap (λ n. take n (drop i s)) (omega (arith, size));
      within = omega (arith, size, h, k);
    }

-- a name without its closing zero
stripped_slice : (payload : List ℕ) → IsSlice (stripped payload) payload 0
unfolding stripped
stripped_slice payload =
    let P : List ℕ → Type 0 = λ x. IsSlice x payload 0 in
    let n : ℕ = length payload - 1 in
    of_choice P (eqb (slice_index payload n) 0) (take n payload) payload
    (λ _. of_parts [] (take n payload) (drop n payload) payload 0
    (sym (take-append-drop n payload)) refl)
    (λ _. rest_slice payload payload 0 (omega arith) refl)

-- ---- names and contents

if_chosen : {A : Type 0} (P : A → Type 0) (b : Bool) (x : A) (old new : Option A) →
    new ≡ cond b (Some x) old → P x → IfSome old P → IfSome new P
if_chosen P b x old new e h i =
    subst (λ o. IfSome o P) (sym e)
    (of_choice (λ o. IfSome o P) b (Some x) old (λ _. h) (λ _. i))

-- what holds of two values that are chosen together
both_chosen : {A B : Type 0} (P : A → Option B → Type 0) (b : Bool) (x : A) (y : B)
    (old new : Option A) (old' new' : Option B) → new ≡ cond b (Some x) old →
    new' ≡ cond b (Some y) old' → P x (Some y) → IfSome old (λ a. P a old') →
    IfSome new (λ a. P a new')
both_chosen P true x y old new old' new' e f h i = rw (e, f) h
both_chosen P false x y old new old' new' e f h i = rw (e, f) i

-- with one more attribute
pub slices_with : (s t : Walk) (a : Attribute) (source : List ℕ) (start place : ℕ) (b c : Bool)
    (name name' : Option (List ℕ)) (at at' : Option ℕ) (info info' : Option (ℕ × List ℕ)) →
    Passes s a t → s.source ≡ source → place ≡ start + s.place →
    name' ≡ cond b (Some (stripped a.value)) name → at' ≡ cond b (Some (place + 4)) at →
    info' ≡ cond c (Some (place + 4, a.value)) info →
    AreSlices name at info source start → AreSlices name' at' info' source start
slices_with s t a source start place b c name name' o o' info info' h from at e d f old =
    let value : IsSlice a.value s.source (s.place + 4) = record {
      bytes = h.value_is ∙ ap (λ n. slice_range s.source (s.place + 4) n) (omega arith);
      within = omega (arith, room s t a h);
    } in
    let here : IsSlice a.value source (s.place + 4) =
    subst (λ x. IsSlice a.value x (s.place + 4)) from value in
    record {
      name_slice =
          both_chosen (λ n p. (at : ℕ) × (p ≡ Some (start + at)) × IsSlice n source at) b
          (stripped a.value) (place + 4) name name' o o' e d (
            s.place + 4 + 0,
            ap (λ n. Some n) (omega (arith, at)),
            slice_in _ _ _ _ _ (stripped_slice a.value) here,
          ) old.name_slice;
      info_slice =
          if_chosen (λ x. (at : ℕ) × (x.0 ≡ start + at) × IsSlice x.1 source at) c
          (place + 4, a.value) info info' f (s.place + 4, omega (arith, at), here) old.info_slice;
    }

if_mapped : {A : Type 0} (P Q : A → Type 0) → ((x : A) → P x → Q x) → (o : Option A) →
    IfSome o P → IfSome o Q
if_mapped P Q f None h = tt
if_mapped P Q f (Some x) h = f x h

-- in the byte string that has it as a slice
pub slices_in : (name : Option (List ℕ)) (o : Option ℕ) (info : Option (ℕ × List ℕ))
    (u s : List ℕ) (start base inner : ℕ) → inner ≡ start + base → AreSlices name o info u inner →
    IsSlice u s base → AreSlices name o info s start
slices_in name o info u s start base inner e h i =
    record {
      name_slice =
          if_mapped (λ n. (at : ℕ) × (o ≡ Some (inner + at)) × IsSlice n u at)
          (λ n. (at : ℕ) × (o ≡ Some (start + at)) × IsSlice n s at)
          (λ n part. (
            base + part.0,
            part.1 ∙ ap (λ n. Some n) (omega (arith, e)),
            slice_in _ _ _ _ _ part.2 i,
          )) name h.name_slice;
      info_slice =
          if_mapped (λ c. (at : ℕ) × (c.0 ≡ inner + at) × IsSlice c.1 u at)
          (λ c. (at : ℕ) × (c.0 ≡ start + at) × IsSlice c.1 s at)
          (λ c part. (
            base + part.0,
            omega (arith, part.1, e),
            slice_in _ _ _ _ _ part.2 i,
          )) info h.info_slice;
    }
