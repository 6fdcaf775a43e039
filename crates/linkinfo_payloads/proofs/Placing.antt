-- One text written after another.
use Rattle.std.proofs.Common.{
  ◌≡◌,
  ℕ,
  ◌+◌,
  ◌-◌,
  ◌<◌,
  ◌≤◌,
  List,
  [],
  ◌++◌,
  length,
  take,
  drop,
  get_or,
  refl,
  sym,
  ap,
  ◌∙◌,
  arith,
}
use Rattle.std.specs.List.{flat_map}
use Rattle.std.proofs.lemmas.List.{
  append-nil,
  at_drop_more,
  drop-take,
  drop_at,
  length-append,
  length-drop,
  take-take,
  take_at,
}
use borrow.Rule.Slice.PartMut.{put_mid}
use Rattle.nla_frame.proofs.Emitting.{Written, all_taken, all_written, write_text}
use Rattle.nla_frame.specs.Writing.{Writes}

-- `buffer` has the text `a` at its front, and `chunk` is the buffer after it with `b` at its front
pub two_written : (a b old buffer chunk : List ℕ) (at n k : ℕ) → Writes a old buffer at →
    n ≡ length b → k ≡ length buffer - at →
    length a + length b ≤ length old →
    chunk ≡ b ++ drop n (take k (drop at buffer)) →
    Writes (a ++ b) old (put_mid at k buffer chunk) (at + n)
two_written a b old buffer chunk at n k first size wide room new =
    let whole : List ℕ = a ++ b in
    let front : take at buffer ≡ a =
    ap (λ (y : List ℕ). take at y) first.written
    ∙ take_at a (drop (length a) old) at (sym first.taken) in
    let rear : drop at buffer ≡ drop at old =
    ap (λ (y : List ℕ). drop at y) first.written
    ∙ drop_at a (drop (length a) old) at (sym first.taken)
    ∙ ap (λ (m : ℕ). drop m old) (sym first.taken) in
    let so_far : Written whole b at old buffer =
    record {
      place = omega (arith, first.taken, length-append a b);
      kept = rear;
      written = ap (λ (y : List ℕ). y ++ b) front;
    } in
    let size_of : length whole ≤ length buffer =
    omega (
      arith,
      ap length first.written,
      length-append a (drop (length a) old),
      length-append a b,
      length-drop (length a) old,
      room,
    ) in
    let now =
    write_text whole b b [] at old buffer so_far (sym (append-nil b)) size_of n size k wide chunk
    new in
    record {
      taken = all_taken whole [] (at + n) old (put_mid at k buffer chunk) now refl;
      written = all_written whole [] (at + n) old (put_mid at k buffer chunk) now refl;
    }

-- the bytes of the values from one on begin with its own
pub one_value : {X : Type 0} (bytes : X → List ℕ) (xs : List X) (i : ℕ) (x : X) → i < length xs →
    x ≡ get_or xs i x → flat_map bytes (drop i xs) ≡ bytes x ++ flat_map bytes (drop (i + 1) xs)
one_value bytes xs i x h e =
    at_drop_more (λ ys. flat_map bytes ys) xs i x h
    ∙ ap (λ y. bytes y ++ flat_map bytes (drop (i + 1) xs)) (sym e)

-- the first bytes, and those after them
pub front_of : (n m : ℕ) (p : List ℕ) → take n (take (n + m) p) ≡ take n p
front_of n m p = take-take n (n + m) p (omega arith)

pub rear_of : (n m : ℕ) (p : List ℕ) → drop n (take (n + m) p) ≡ take m (drop n p)
rear_of n m p = drop-take n m p
