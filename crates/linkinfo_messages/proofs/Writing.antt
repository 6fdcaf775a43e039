-- A message that is written reads back.
use Rattle.std.proofs.Common.{
  ◌≡◌,
  ℕ,
  ◌+◌,
  ◌-◌,
  ◌≤◌,
  ◌<◌,
  ◌^◌,
  min,
  List,
  ◌∷◌,
  ◌++◌,
  length,
  take,
  drop,
  refl,
  ap,
  ◌∙◌,
  append_assoc,
  arith,
  Ok,
}
use Rattle.std.specs.Prelude.{slice_range}
use Rattle.std.specs.Int.{w16, w32, to_le_bytes}
use Rattle.std.proofs.lemmas.Bool.{le-ltb}
use Rattle.std.proofs.lemmas.List.{take_at, drop_at, length-append}
use Rattle.nla_frame.specs.Attribute.{pad, aligned}
use Rattle.linkinfo_messages.specs.Integers.{le16}
use Rattle.linkinfo_messages.specs.Messages.{
  length_of,
  message_at,
  message_string,
  message_in,
  messages,
}
use Rattle.linkinfo_messages.specs.Reading.{followed}
use Rattle.linkinfo_messages.proofs.Items.{items_first}
use Rattle.linkinfo_messages.proofs.Linking.{takes_some}

-- the message at the front, where its three fields are known
pub reads : (place kind : ℕ) (s payload : List ℕ) (n : ℕ) → length_of s ≡ n → le16 s 4 ≡ kind →
    slice_range s 16 n ≡ payload → 16 ≤ length s → 16 ≤ n → n ≤ length s → aligned n ≤ length s →
    message_at place s ≡ Ok (message_in place kind payload, aligned n)
unfolding message_at
reads place kind s payload n e k p whole low high room =
    let low' : 16 ≤ length_of s = omega (arith, e, low) in
    let high' : length_of s ≤ length s = omega (arith, e, high) in
    let same : slice_range s 16 (length_of s) ≡ payload = ap (λ j. slice_range s 16 j) e ∙ p in
    let size : min (length s) (aligned (length_of s)) ≡ aligned n =
    ap (λ j. min (length s) (aligned j)) e ∙ omega (arith, room) in
    rw (
      le-ltb (length s) 16 whole,
      le-ltb (length_of s) 16 low',
      le-ltb (length s) (length_of s) high',
    ) (cc)

length_is : (n : ℕ) (more : List ℕ) → n < 2 ^ 32 → length_of (to_le_bytes w32 n ++ more) ≡ n
length_is n more h = omega (arith, h)

kind_is : (n kind : ℕ) (more : List ℕ) → kind < 2 ^ 16 →
    le16 (to_le_bytes w32 n ++ (to_le_bytes w16 kind ++ more)) 4 ≡ kind
kind_is n kind more h = omega (arith, h)

pub reads_back : (place kind : ℕ) (middle payload padding rest : List ℕ) → kind < 2 ^ 16 →
    16 + length payload < 2 ^ 32 → length middle ≡ 10 → length padding ≡ pad (length payload) →
    messages place (message_string kind middle payload padding ++ rest)
    ≡ Ok (message_in place kind payload) ∷ messages (place + aligned (16 + length payload)) rest
reads_back place kind middle payload padding rest k l m p =
    let n : ℕ = 16 + length payload in
    let s : List ℕ = message_string kind middle payload padding ++ rest in
    let front : List ℕ = to_le_bytes w32 n ++ (to_le_bytes w16 kind ++ middle) in
    let parts : s ≡ front ++ (payload ++ (padding ++ rest)) = simp append_assoc refl in
    let ends : s ≡ (front ++ (payload ++ padding)) ++ rest = simp append_assoc refl in
    let size : length s ≡ 16 + (length payload + (length padding + length rest)) =
    simp length-append (omega (arith, m)) in
    let step : aligned n ≡ 16 + (length payload + length padding) = omega (arith, p) in
    let value : slice_range s 16 n ≡ payload =
    ap (λ x. take (n - 16) (drop 16 x)) parts
    ∙ ap (λ x. take (n - 16) x) (drop_at front (payload ++ (padding ++ rest)) 16 (omega (arith, m)))
    ∙ take_at payload (padding ++ rest) (n - 16) (omega arith) in
    let tail : List ℕ = (middle ++ (payload ++ padding)) ++ rest in
    let more : List ℕ = to_le_bytes w16 kind ++ tail in
    let first : message_at place s ≡ Ok (message_in place kind payload, aligned n) =
    reads place kind s payload n (length_is n more l) (kind_is n kind tail k) value
    (omega (arith, size)) (omega arith) (omega (arith, size)) (omega (arith, size, step)) in
    let after : drop (aligned n) s ≡ rest =
    ap (λ x. drop (aligned n) x) ends
    ∙ drop_at (front ++ (payload ++ padding)) rest (aligned n)
    (simp length-append (omega (arith, step, m))) in
    items_first message_at takes_some place s (omega (arith, size))
    ∙ ap (λ r. followed r (λ j. messages (place + j) (drop j s))) first
    ∙ ap (λ x. Ok (message_in place kind payload) ∷ messages (place + aligned n) x) after
