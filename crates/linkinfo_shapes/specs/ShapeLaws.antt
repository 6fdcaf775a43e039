-- Laws of every shape: a payload means a datum, the payload written for a datum means it, and
-- equivalent payloads have equal data.
use Rattle.std.proofs.Common.{
  ◌≡◌,
  ◌≢◌,
  ℕ,
  zero,
  suc,
  ◌+◌,
  ◌-◌,
  ◌*◌,
  ◌/◌,
  ◌%◌,
  ◌^◌,
  ◌<◌,
  ◌↔◌,
  ◌⊎◌,
  inl,
  inr,
  Bool,
  true,
  false,
  not,
  cond,
  eqb,
  List,
  [],
  ◌∷◌,
  ◌++◌,
  length,
  take,
  drop,
  refl,
  sym,
  ap,
  subst,
  ◌∙◌,
  arith,
  Option,
  Some,
  None,
  Result,
  Ok,
  Err,
}
use Rattle.std.specs.Prelude.{slice_index, IsOk, ◌==◌, if◌then◌else◌}
use Rattle.std.specs.Bool.{beq}
use Rattle.std.specs.Int.{
  w16,
  w32,
  w64,
  cast_signed,
  cast_unsigned,
  from_be_bytes,
  from_le_bytes,
  to_be_bytes,
  to_le_bytes,
}
use Rattle.std.specs.Net.Addr.{octets_of, segments_of}
use Rattle.std.specs.Str.{bytes_eq, is_utf8}
use Rattle.std.specs.declared.net.ip_addr.IpAddr.{IpAddr}
use Rattle.std.specs.declared.net.ip_addr.IpAddr.TheVariants as ip
use Rattle.std.specs.declared.net.ipv4_addr.Ipv4Addr.{Ipv4Addr}
use Rattle.std.specs.declared.net.ipv6_addr.Ipv6Addr.{Ipv6Addr}
use Rattle.std.proofs.Math.Facts.{sfits_to_z, Fits-of_z}
use Rattle.std.proofs.lemmas.Int.{to_z-of_z, of_z-to_z}
use Rattle.std.proofs.lemmas.Nat.{
  le_bytes_2,
  le_bytes_4,
  le_bytes_8,
  be_bytes_2,
  be_bytes_4,
  be_bytes_8,
  from_le_bytes-to_le_bytes_2,
  from_le_bytes-to_le_bytes_4,
  from_le_bytes-to_le_bytes_8,
  from_be_bytes-to_be_bytes_2,
  from_be_bytes-to_be_bytes_4,
  from_be_bytes-to_be_bytes_8,
}
use Rattle.std.proofs.lemmas.Bool.{
  eqb-true,
  eq-eqb,
  cases_Bool,
  cond-true,
  cond-false,
  ne_eqb,
  false≢true,
}
use Rattle.std.proofs.lemmas.Slice.Eq.{bytes_eq-Decides}
use Rattle.std.proofs.lemmas.List.{take-append-drop, length-take-le, length-drop}
use Rattle.nla_frame.specs.Attribute.{IsBytes}
use Rattle.nla_frame.specs.Payload.{of_length, ip_of, ipv4_of, ipv6_of, stripped, stripped-closed}
use Rattle.nla_frame.proofs.ByteLists.{
  IsBytes-drop,
  IsBytes-take,
  IsBytes-nil,
  IsBytes-cons,
  IsBytes-append,
}
use Rattle.nla_frame.specs.declared.error.Cause.{Cause}
use Rattle.nla_frame.specs.declared.error.Cause.TheVariants as cause
use Rattle.linkinfo_shapes.specs.Shapes.{
  Carrier,
  accepted_length,
  text_of,
  of_version,
  means,
  verdict,
  IsAccepted,
  truth_number,
  canon,
  IsIpv4,
  IsIpv6,
  IsIp,
  Holds,
  is_zero,
  payload_alike,
  needs_memory,
}
use Rattle.linkinfo_shapes.specs.declared.shape.Shape.{Shape}
use Rattle.linkinfo_shapes.specs.declared.shape.Shape.TheVariants.{
  U8,
  Le16,
  Le32,
  Le64,
  Be16,
  Be32,
  Be64,
  I32,
  Truth,
  TruthOne,
  Mark,
  Name,
  V4,
  V6,
  GeneveV4,
  GeneveV6,
  Ip,
  Mac,
  BePair,
  FlagPair,
  EmptyOrByte,
  Scrub,
  Raw,
}

-- ---- results

abbrev done : {X : Type 0} → X → Result X Cause
done x = Ok x

abbrev failed : {X : Type 0} → Cause → Result X Cause
failed {X} e = Err e

ok_same : {X : Type 0} (x y : X) → done x ≡ done y → x ≡ y
ok_same x y e = cc

err_ok : {X : Type 0} (e : Cause) (x : X) → failed {X = X} e ≡ done x → ⊥
err_ok e x h = cc

err_same : {X : Type 0} (e f : Cause) → failed {X = X} e ≡ failed {X = X} f → e ≡ f
err_same e f h = cc

-- ---- payloads of one length

-- the length, and the value for that length
record Exactly {X : Type 0} (size : ℕ) (payload : List ℕ) (value x : X) : Type 0 where
  long : length payload ≡ size
  is : value ≡ x

of_length_ok : {X : Type 0} (size : ℕ) (p : List ℕ) (v x : X) → of_length size p v ≡ Ok x →
    Exactly size p v x
of_length_ok size p v x e = elim (cases_Bool (eqb (length p) size)) [
  | inl h ↦ record {
    long = eqb-true _ _ h;
    is = ok_same v x (sym (cond-true (eqb (length p) size) _ _ h) ∙ e);
  }
  | inr h ↦ absurd (err_ok _ _ (sym (cond-false (eqb (length p) size) _ _ h) ∙ e))
]

of_length_made : {X : Type 0} (size : ℕ) (p : List ℕ) (v x : X) → length p ≡ size → v ≡ x →
    of_length size p v ≡ Ok x
of_length_made size p v x e h = cond-true (eqb (length p) size) _ _ (eq-eqb _ _ e) ∙ ap done h

length_memory : cause.Length ≡ cause.Memory → ⊥
length_memory e = cc

of_length_memory : {X : Type 0} (size : ℕ) (p : List ℕ) (v : X) →
    of_length size p v ≢ Err cause.Memory
of_length_memory size p v e = elim (cases_Bool (eqb (length p) size)) [
  | inl h ↦ err_ok _ _ (sym e ∙ cond-true (eqb (length p) size) _ _ h)
  | inr h ↦ length_memory (err_same _ _ (sym (cond-false (eqb (length p) size) _ _ h) ∙ e))
]

-- ---- payloads of two lengths

abbrev of_either : {X : Type 0} → ℕ → ℕ → List ℕ → X → X → Result X Cause
of_either size other p v w = cond (eqb (length p) size) (Ok v) (of_length other p w)

of_either_ok : {X : Type 0} (size other : ℕ) (p : List ℕ) (v w x : X) →
    of_either size other p v w ≡ Ok x → Exactly size p v x ⊎ Exactly other p w x
of_either_ok size other p v w x e = elim (cases_Bool (eqb (length p) size)) [
  | inl h ↦
      inl (record {
        long = eqb-true _ _ h;
        is = ok_same v x (sym (cond-true (eqb (length p) size) _ _ h) ∙ e);
      })
  | inr h ↦ inr (of_length_ok other p w x (sym (cond-false (eqb (length p) size) _ _ h) ∙ e))
]

of_either_memory : {X : Type 0} (size other : ℕ) (p : List ℕ) (v w : X) →
    of_either size other p v w ≢ Err cause.Memory
of_either_memory size other p v w e = elim (cases_Bool (eqb (length p) size)) [
  | inl h ↦ err_ok _ _ (sym e ∙ cond-true (eqb (length p) size) _ _ h)
  | inr h ↦ of_length_memory other p w (sym (cond-false (eqb (length p) size) _ _ h) ∙ e)
]

of_version_ok : {X : Type 0} (size other : ℕ) (p : List ℕ) (v x : X) →
    of_version size other p v ≡ Ok x → Exactly size p v x
of_version_ok size other p v x e = elim (cases_Bool (eqb (length p) other)) [
  | inl h ↦ absurd (err_ok _ _ (sym (cond-true (eqb (length p) other) _ _ h) ∙ e))
  | inr h ↦ of_length_ok size p v x (sym (cond-false (eqb (length p) other) _ _ h) ∙ e)
]

of_version_made : {X : Type 0} (size other : ℕ) (p : List ℕ) (v x : X) → length p ≡ size →
    size ≢ other → v ≡ x → of_version size other p v ≡ Ok x
of_version_made size other p v x e n h =
    cond-false (eqb (length p) other) _ _ (ne_eqb _ _ (λ k. n (sym e ∙ k)))
    ∙ of_length_made size p v x e h

kind_memory : cause.AddressKind ≡ cause.Memory → ⊥
kind_memory e = cc

of_version_memory : {X : Type 0} (size other : ℕ) (p : List ℕ) (v : X) →
    of_version size other p v ≢ Err cause.Memory
of_version_memory size other p v e = elim (cases_Bool (eqb (length p) other)) [
  | inl h ↦ kind_memory (err_same _ _ (sym (cond-true (eqb (length p) other) _ _ h) ∙ e))
  | inr h ↦ of_length_memory size p v (sym (cond-false (eqb (length p) other) _ _ h) ∙ e)
]

-- ---- texts

text_of_ok : (s x : List ℕ) → text_of s ≡ Ok x → (s ≡ x) × (is_utf8 x ≡ true)
text_of_ok s x e = elim (cases_Bool (is_utf8 s)) [
  | inl h ↦
      let same : s ≡ x = ok_same s x (sym (cond-true (is_utf8 s) _ _ h) ∙ e) in
      (same, ap is_utf8 (sym same) ∙ h)
  | inr h ↦ absurd (err_ok _ _ (sym (cond-false (is_utf8 s) _ _ h) ∙ e))
]

text_of_err : (s : List ℕ) (c : Cause) → text_of s ≡ Err c → (is_utf8 s ≡ false) × (cause.Utf8 ≡ c)
text_of_err s c e = elim (cases_Bool (is_utf8 s)) [
  | inl h ↦ absurd (err_ok _ _ (sym e ∙ cond-true (is_utf8 s) _ _ h))
  | inr h ↦ (h, err_same {X = List ℕ} _ _ (sym (cond-false (is_utf8 s) _ _ h) ∙ e))
]

utf8_memory : cause.Utf8 ≡ cause.Memory → ⊥
utf8_memory e = cc

IsBytes-stripped : (p : List ℕ) → IsBytes p → IsBytes (stripped p)
unfolding stripped
IsBytes-stripped p h = elim (cases_Bool (eqb (slice_index p (length p - 1)) 0)) [
  | inl t ↦
      subst IsBytes (sym (cond-true (eqb (slice_index p (length p - 1)) 0) _ _ t))
      (IsBytes-take (length p - 1) p h)
  | inr f ↦ subst IsBytes (sym (cond-false (eqb (slice_index p (length p - 1)) 0) _ _ f)) h
]

-- ---- addresses

segments-octets : (s : List ℕ) → segments_of (octets_of s) ≡ s
segments-octets [] = refl
segments-octets (x ∷ s) =
    let here : x / 256 * 256 + x % 256 ≡ x = omega arith in rw (here, segments-octets s) refl

octets-segments : (p : List ℕ) (n : ℕ) → length p ≡ 2 * n → IsBytes p →
    octets_of (segments_of p) ≡ p
octets-segments [] n e h = refl
octets-segments (a ∷ []) n e h = absurd (omega arith)
octets-segments (a ∷ b ∷ p) zero e h = absurd (omega arith)
octets-segments (a ∷ b ∷ p) (suc n) e h =
    let more = octets-segments p n (omega arith) (λ i. h (suc (suc i))) in
    let low : (a * 256 + b) % 256 ≡ b = omega (arith, h 1) in
    let high : (a * 256 + b) / 256 ≡ a = omega (arith, h 1) in
    rw (low, high, more) refl

length-octets : (s : List ℕ) → length (octets_of s) ≡ 2 * length s
length-octets [] = refl
length-octets (x ∷ s) = omega (arith, length-octets s)

length-segments : (p : List ℕ) (n : ℕ) → length p ≡ 2 * n → length (segments_of p) ≡ n
length-segments [] n e = omega arith
length-segments (a ∷ []) n e = absurd (omega arith)
length-segments (a ∷ b ∷ p) zero e = absurd (omega arith)
length-segments (a ∷ b ∷ p) (suc n) e = let more = length-segments p n (omega arith) in omega arith

abbrev IsSegments : List ℕ → Type 0
IsSegments s = (i : ℕ) → slice_index s i < 2 ^ 16

IsSegments-of_bytes : (p : List ℕ) → IsBytes p → IsSegments (segments_of p)
IsSegments-of_bytes [] h zero = omega arith
IsSegments-of_bytes [] h (suc i) = omega arith
IsSegments-of_bytes (a ∷ []) h zero = omega arith
IsSegments-of_bytes (a ∷ []) h (suc i) = omega arith
IsSegments-of_bytes (a ∷ b ∷ p) h zero = omega (arith, h 0, h 1)
IsSegments-of_bytes (a ∷ b ∷ p) h (suc i) = IsSegments-of_bytes p (λ j. h (suc (suc j))) i

IsBytes-octets : (s : List ℕ) → IsSegments s → IsBytes (octets_of s)
IsBytes-octets [] h = IsBytes-nil
IsBytes-octets (x ∷ s) h =
    IsBytes-cons (x / 256) (x % 256 ∷ octets_of s) (omega (arith, h 0))
    (IsBytes-cons (x % 256) (octets_of s) (omega arith) (IsBytes-octets s (λ i. h (suc i))))

ipv4_read : (p : List ℕ) (x : Ipv4Addr) → IsBytes p → Exactly 4 p (ipv4_of p) x → IsIpv4 x
ipv4_read p x h w = subst IsIpv4 w.is (w.long, h)

ipv6_read : (p : List ℕ) (x : Ipv6Addr) → IsBytes p → Exactly 16 p (ipv6_of p) x → IsIpv6 x
ipv6_read p x h w = subst IsIpv6 w.is (length-segments p 8 w.long, IsSegments-of_bytes p h)

ip_read : (p : List ℕ) (x : IpAddr) → IsBytes p →
    Exactly 4 p (ip.V4 (ipv4_of p)) x ⊎ Exactly 16 p (ip.V6 (ipv6_of p)) x → IsIp x
ip_read p x h (inl w) = subst IsIp w.is (w.long, h)
ip_read p x h (inr w) = subst IsIp w.is (length-segments p 8 w.long, IsSegments-of_bytes p h)

ipv6_again : (x : Ipv6Addr) → ipv6_of (octets_of x.segments) ≡ x
ipv6_again x =
    ap (λ (s : List ℕ). let a : Ipv6Addr = record { segments = s } in a)
    (segments-octets x.segments)

octets_long : (x : Ipv6Addr) → IsIpv6 x → length (octets_of x.segments) ≡ 16
octets_long x h = omega (arith, length-octets x.segments, h.0)

ip_again : (x : IpAddr) → IsIp x → ip_of (canon Ip x) ≡ Ok x
ip_again (ip.V4 a) h = cond-true (eqb (length a.octets) 4) _ _ (eq-eqb _ _ h.0)
ip_again (ip.V6 a) h =
    cond-false (eqb (length (octets_of a.segments)) 4) _ _
    (ne_eqb _ _ (λ k. omega (arith, octets_long a h, k)))
    ∙ of_length_made 16 (octets_of a.segments) _ (ip.V6 a) (octets_long a h)
    (ap (λ (b : Ipv6Addr). let c : IpAddr = ip.V6 b in c) (ipv6_again a))

ip_bytes : (x : IpAddr) → IsIp x → IsBytes (canon Ip x)
ip_bytes (ip.V4 a) h = h.1
ip_bytes (ip.V6 a) h = IsBytes-octets a.segments h.1

ip_back : (p : List ℕ) (x : IpAddr) → IsBytes p →
    Exactly 4 p (ip.V4 (ipv4_of p)) x ⊎ Exactly 16 p (ip.V6 (ipv6_of p)) x → p ≡ canon Ip x
ip_back p x h (inl w) = ap (canon Ip) w.is
ip_back p x h (inr w) = sym (octets-segments p 8 w.long h) ∙ ap (canon Ip) w.is

-- ---- numbers

le16_below : (p : List ℕ) → IsBytes p → from_le_bytes w16 p < 2 ^ 16
le16_below p h = omega (arith, h 0, h 1)

be16_below : (p : List ℕ) → IsBytes p → from_be_bytes w16 p < 2 ^ 16
be16_below p h = omega (arith, h 0, h 1)

le32_below : (p : List ℕ) → IsBytes p → from_le_bytes w32 p < 2 ^ 32
le32_below p h = omega (arith, h 0, h 1, h 2, h 3)

be32_below : (p : List ℕ) → IsBytes p → from_be_bytes w32 p < 2 ^ 32
be32_below p h = omega (arith, h 0, h 1, h 2, h 3)

le64_below : (p : List ℕ) → IsBytes p → from_le_bytes w64 p < 2 ^ 64
le64_below p h = omega (arith, h 0, h 1, h 2, h 3, h 4, h 5, h 6, h 7)

be64_below : (p : List ℕ) → IsBytes p → from_be_bytes w64 p < 2 ^ 64
be64_below p h = omega (arith, h 0, h 1, h 2, h 3, h 4, h 5, h 6, h 7)

rest_of_256 : (n : ℕ) → n % 256 < 256
rest_of_256 n = omega arith

two_bytes : (a b : ℕ) → IsBytes (a % 256 ∷ b % 256 ∷ [])
two_bytes a b =
    IsBytes-cons (a % 256) (b % 256 ∷ []) (rest_of_256 a)
    (IsBytes-cons (b % 256) [] (rest_of_256 b) IsBytes-nil)

four_bytes : (a b c d : ℕ) → IsBytes (a % 256 ∷ b % 256 ∷ c % 256 ∷ d % 256 ∷ [])
four_bytes a b c d =
    IsBytes-append (a % 256 ∷ b % 256 ∷ []) (c % 256 ∷ d % 256 ∷ []) (two_bytes a b) (two_bytes c d)

eight_bytes : (a b c d e f g h : ℕ) →
    IsBytes (a % 256 ∷ b % 256 ∷ c % 256 ∷ d % 256 ∷ e % 256 ∷ f % 256 ∷ g % 256 ∷ h % 256 ∷ [])
eight_bytes a b c d e f g h =
    IsBytes-append (a % 256 ∷ b % 256 ∷ c % 256 ∷ d % 256 ∷ [])
    (e % 256 ∷ f % 256 ∷ g % 256 ∷ h % 256 ∷ []) (four_bytes a b c d) (four_bytes e f g h)

le16_bytes : (n : ℕ) → IsBytes (to_le_bytes w16 n)
le16_bytes n = two_bytes _ _

be16_bytes : (n : ℕ) → IsBytes (to_be_bytes w16 n)
be16_bytes n = two_bytes _ _

le32_bytes : (n : ℕ) → IsBytes (to_le_bytes w32 n)
le32_bytes n = four_bytes _ _ _ _

be32_bytes : (n : ℕ) → IsBytes (to_be_bytes w32 n)
be32_bytes n = four_bytes _ _ _ _

le64_bytes : (n : ℕ) → IsBytes (to_le_bytes w64 n)
le64_bytes n = eight_bytes _ _ _ _ _ _ _ _

be64_bytes : (n : ℕ) → IsBytes (to_be_bytes w64 n)
be64_bytes n = eight_bytes _ _ _ _ _ _ _ _

one_byte : (p : List ℕ) → length p ≡ 1 → p ≡ slice_index p 0 ∷ []
one_byte [] e = absurd (omega arith)
one_byte (b ∷ []) e = refl
one_byte (b ∷ c ∷ p) e = absurd (omega arith)

no_byte : (p : List ℕ) → length p ≡ 0 → p ≡ []
no_byte [] e = refl
no_byte (b ∷ p) e = absurd (omega arith)

abbrev NoneOrByte : List ℕ → Option ℕ → Type 0
NoneOrByte p x = Exactly 0 p None x ⊎ Exactly 1 p (Some (slice_index p 0)) x

byte_holds : (p : List ℕ) (x : Option ℕ) → IsBytes p → NoneOrByte p x → Holds EmptyOrByte x
byte_holds p x h (inl w) = subst (Holds EmptyOrByte) w.is tt
byte_holds p x h (inr w) = subst (Holds EmptyOrByte) w.is (h 0)

byte_back : (p : List ℕ) (x : Option ℕ) → NoneOrByte p x → p ≡ canon EmptyOrByte x
byte_back p x (inl w) = no_byte p w.long ∙ ap (canon EmptyOrByte) w.is
byte_back p x (inr w) = one_byte p w.long ∙ ap (canon EmptyOrByte) w.is

scrub_test : (p : List ℕ) → IsBytes p → length p ≡ 4 → eqb (from_le_bytes w32 p) 0 ≡ is_zero p
scrub_test p h size = elim (cases_Bool (is_zero p)) [
  | inl t ↦
      eq-eqb _ _ (ap (from_le_bytes w32) ((bytes_eq-Decides p (0 ∷ 0 ∷ 0 ∷ 0 ∷ [])).0 t)) ∙ sym t
  | inr f ↦
      ne_eqb _ _ (λ z.
      false≢true (sym f
      ∙ (bytes_eq-Decides p (0 ∷ 0 ∷ 0 ∷ 0 ∷ [])).1 (sym (le_bytes_4 p 0 size h (sym z))))) ∙ sym f
]

-- ---- meanings are data

pub means_holds : (shape : Shape) (p : List ℕ) (x : Carrier shape) → IsBytes p →
    means shape p ≡ Ok x → Holds shape x
means_holds U8 p x h e = subst (λ (n : ℕ). n < 256) (of_length_ok 1 p _ x e).is (h 0)
means_holds Le16 p x h e = subst (Holds Le16) (of_length_ok 2 p _ x e).is (le16_below p h)
means_holds Le32 p x h e = subst (Holds Le32) (of_length_ok 4 p _ x e).is (le32_below p h)
means_holds Le64 p x h e = subst (Holds Le64) (of_length_ok 8 p _ x e).is (le64_below p h)
means_holds Be16 p x h e = subst (Holds Be16) (of_length_ok 2 p _ x e).is (be16_below p h)
means_holds Be32 p x h e = subst (Holds Be32) (of_length_ok 4 p _ x e).is (be32_below p h)
means_holds Be64 p x h e = subst (Holds Be64) (of_length_ok 8 p _ x e).is (be64_below p h)
means_holds I32 p x h e =
    subst (Holds I32) (of_length_ok 4 p _ x e).is
    (sfits_to_z {w = w32} {n = from_le_bytes w32 p} (record { fits = le32_below p h }))
means_holds Truth p x h e = tt
means_holds TruthOne p x h e = tt
means_holds Mark p x h e = tt
means_holds Name p x h e =
    let w = text_of_ok (stripped p) x e in (w.1, subst IsBytes w.0 (IsBytes-stripped p h))
means_holds V4 p x h e = ipv4_read p x h (of_length_ok 4 p _ x e)
means_holds V6 p x h e = ipv6_read p x h (of_length_ok 16 p _ x e)
means_holds GeneveV4 p x h e = ipv4_read p x h (of_version_ok 4 16 p _ x e)
means_holds GeneveV6 p x h e = ipv6_read p x h (of_version_ok 16 4 p _ x e)
means_holds Ip p x h e = ip_read p x h (of_either_ok 4 16 p _ _ x e)
means_holds Mac p x h e = let w = of_length_ok 6 p p x e in subst (Holds Mac) w.is (w.long, h)
means_holds BePair p x h e = subst (Holds BePair) (of_length_ok 4 p _ x e).is (
  be16_below (take 2 p) (IsBytes-take 2 p h),
  be16_below (drop 2 p) (IsBytes-drop 2 p h),
)
means_holds FlagPair p x h e = subst (Holds FlagPair) (of_length_ok 8 p _ x e).is (
  le32_below (take 4 p) (IsBytes-take 4 p h),
  le32_below (drop 4 p) (IsBytes-drop 4 p h),
)
means_holds EmptyOrByte p x h e =
    byte_holds p x h (of_either_ok 0 1 p None (Some (slice_index p 0)) x e)
means_holds Scrub p x h e = tt
means_holds Raw p x h e = subst IsBytes (ok_same p x e) h
means_holds _ p x h e = absurd (err_ok _ _ e)

-- ---- what is written means its datum

pub means-canon : (shape : Shape) (x : Carrier shape) → Holds shape x →
    means shape (canon shape x) ≡ Ok x
means-canon U8 x h = refl
means-canon Le16 x h = ap done (from_le_bytes-to_le_bytes_2 x h)
means-canon Le32 x h = ap done (from_le_bytes-to_le_bytes_4 x h)
means-canon Le64 x h = ap done (from_le_bytes-to_le_bytes_8 x h)
means-canon Be16 x h = ap done (from_be_bytes-to_be_bytes_2 x h)
means-canon Be32 x h = ap done (from_be_bytes-to_be_bytes_4 x h)
means-canon Be64 x h = ap done (from_be_bytes-to_be_bytes_8 x h)
means-canon I32 x h =
    ap done (ap (cast_signed w32)
    (from_le_bytes-to_le_bytes_4 (cast_unsigned w32 x) (Fits-of_z {w = w32} {z = x} h).fits)
    ∙ to_z-of_z w32 x h)
means-canon Truth true h = refl
means-canon Truth false h = refl
means-canon TruthOne true h = refl
means-canon TruthOne false h = refl
means-canon Mark x h = refl
means-canon Name x h = ap text_of (stripped-closed x) ∙ cond-true (is_utf8 x) _ _ h.0
means-canon V4 x h = of_length_made 4 x.octets _ x h.0 refl
means-canon V6 x h = of_length_made 16 (octets_of x.segments) _ x (octets_long x h) (ipv6_again x)
means-canon GeneveV4 x h = of_version_made 4 16 x.octets _ x h.0 (λ k. omega (arith, k)) refl
means-canon GeneveV6 x h =
    of_version_made 16 4 (octets_of x.segments) _ x (octets_long x h) (λ k. omega (arith, k))
    (ipv6_again x)
means-canon Ip x h = ip_again x h
means-canon Mac x h = of_length_made 6 x x x h.0 refl
means-canon BePair x h =
    ap done (rw (from_be_bytes-to_be_bytes_2 x.0 h.0, from_be_bytes-to_be_bytes_2 x.1 h.1) refl)
means-canon FlagPair x h =
    ap done (rw (from_le_bytes-to_le_bytes_4 x.0 h.0, from_le_bytes-to_le_bytes_4 x.1 h.1) refl)
means-canon EmptyOrByte None h = refl
means-canon EmptyOrByte (Some b) h = refl
means-canon Scrub true h = refl
means-canon Scrub false h = refl
means-canon Raw x h = refl
means-canon _ x h = absurd h

-- ---- what is written consists of bytes

pub IsBytes-canon : (shape : Shape) (x : Carrier shape) → Holds shape x → IsBytes (canon shape x)
IsBytes-canon U8 x h = IsBytes-cons x [] h IsBytes-nil
IsBytes-canon Le16 x h = le16_bytes x
IsBytes-canon Le32 x h = le32_bytes x
IsBytes-canon Le64 x h = le64_bytes x
IsBytes-canon Be16 x h = be16_bytes x
IsBytes-canon Be32 x h = be32_bytes x
IsBytes-canon Be64 x h = be64_bytes x
IsBytes-canon I32 x h = le32_bytes (cast_unsigned w32 x)
IsBytes-canon Truth true h = IsBytes-cons 1 [] (omega arith) IsBytes-nil
IsBytes-canon Truth false h = IsBytes-cons 0 [] (omega arith) IsBytes-nil
IsBytes-canon TruthOne true h = IsBytes-cons 1 [] (omega arith) IsBytes-nil
IsBytes-canon TruthOne false h = IsBytes-cons 0 [] (omega arith) IsBytes-nil
IsBytes-canon Mark x h = IsBytes-nil
IsBytes-canon Name x h = IsBytes-append x (0 ∷ []) h.1 (IsBytes-cons 0 [] (omega arith) IsBytes-nil)
IsBytes-canon V4 x h = h.1
IsBytes-canon V6 x h = IsBytes-octets x.segments h.1
IsBytes-canon GeneveV4 x h = h.1
IsBytes-canon GeneveV6 x h = IsBytes-octets x.segments h.1
IsBytes-canon Ip x h = ip_bytes x h
IsBytes-canon Mac x h = h.1
IsBytes-canon BePair x h =
    IsBytes-append (to_be_bytes w16 x.0) (to_be_bytes w16 x.1) (be16_bytes x.0) (be16_bytes x.1)
IsBytes-canon FlagPair x h =
    IsBytes-append (to_le_bytes w32 x.0) (to_le_bytes w32 x.1) (le32_bytes x.0) (le32_bytes x.1)
IsBytes-canon EmptyOrByte None h = IsBytes-nil
IsBytes-canon EmptyOrByte (Some b) h = IsBytes-cons b [] h IsBytes-nil
IsBytes-canon Scrub b h = le32_bytes (truth_number b)
IsBytes-canon Raw x h = h
IsBytes-canon _ x h = absurd h

-- ---- no payload means the memory error, and no error needs memory

pub means_memory : (shape : Shape) (p : List ℕ) → means shape p ≢ Err cause.Memory
means_memory U8 p e = of_length_memory 1 p _ e
means_memory Le16 p e = of_length_memory 2 p _ e
means_memory Le32 p e = of_length_memory 4 p _ e
means_memory Le64 p e = of_length_memory 8 p _ e
means_memory Be16 p e = of_length_memory 2 p _ e
means_memory Be32 p e = of_length_memory 4 p _ e
means_memory Be64 p e = of_length_memory 8 p _ e
means_memory I32 p e = of_length_memory 4 p _ e
means_memory Truth p e = of_length_memory 1 p _ e
means_memory TruthOne p e = of_length_memory 1 p _ e
means_memory Mark p e = err_ok _ _ (sym e)
means_memory Name p e = utf8_memory (text_of_err (stripped p) cause.Memory e).1
means_memory V4 p e = of_length_memory 4 p _ e
means_memory V6 p e = of_length_memory 16 p _ e
means_memory GeneveV4 p e = of_version_memory 4 16 p _ e
means_memory GeneveV6 p e = of_version_memory 16 4 p _ e
means_memory Ip p e = of_either_memory 4 16 p _ _ e
means_memory Mac p e = of_length_memory 6 p _ e
means_memory BePair p e = of_length_memory 4 p _ e
means_memory FlagPair p e = of_length_memory 8 p _ e
means_memory EmptyOrByte p e = of_either_memory 0 1 p _ _ e
means_memory Scrub p e = of_length_memory 4 p _ e
means_memory Raw p e = err_ok _ _ (sym e)
means_memory _ p e = length_memory (err_same {X = Unit {0}} _ _ e)

pub error_needs_no_memory : (shape : Shape) (p : List ℕ) (c : Cause) → means shape p ≡ Err c →
    needs_memory shape p ≡ false
error_needs_no_memory Name p c e = (text_of_err (stripped p) c e).0
error_needs_no_memory Raw p c e = absurd (err_ok _ _ (sym e))
error_needs_no_memory _ p c e = refl

-- ---- equivalent payloads

joined : {a b c d : List ℕ} → a ≡ c → b ≡ d → a ++ b ≡ c ++ d
joined {b = b} {c = c} e f = ap (λ x. x ++ b) e ∙ ap (λ x. c ++ x) f

-- whether every accepted payload is canonical: each datum has one payload
abbrev pub is_exact : Shape → Bool
is_exact Truth = false
is_exact TruthOne = false
is_exact Mark = false
is_exact Name = false
is_exact Scrub = false
is_exact _ = true

pub canon-means : (shape : Shape) (p : List ℕ) (x : Carrier shape) → IsBytes p →
    means shape p ≡ Ok x → is_exact shape ≡ true → p ≡ canon shape x
canon-means U8 p x h e s = let w = of_length_ok 1 p _ x e in one_byte p w.long ∙ ap (canon U8) w.is
canon-means Le16 p x h e s =
    let w = of_length_ok 2 p _ x e in sym (le_bytes_2 p x w.long h (sym w.is))
canon-means Le32 p x h e s =
    let w = of_length_ok 4 p _ x e in sym (le_bytes_4 p x w.long h (sym w.is))
canon-means Le64 p x h e s =
    let w = of_length_ok 8 p _ x e in sym (le_bytes_8 p x w.long h (sym w.is))
canon-means Be16 p x h e s =
    let w = of_length_ok 2 p _ x e in sym (be_bytes_2 p x w.long h (sym w.is))
canon-means Be32 p x h e s =
    let w = of_length_ok 4 p _ x e in sym (be_bytes_4 p x w.long h (sym w.is))
canon-means Be64 p x h e s =
    let w = of_length_ok 8 p _ x e in sym (be_bytes_8 p x w.long h (sym w.is))
canon-means I32 p x h e s =
    let w = of_length_ok 4 p _ x e in
    sym (le_bytes_4 p (cast_unsigned w32 x) w.long h
    (ap (cast_unsigned w32) (sym w.is) ∙ of_z-to_z w32 (from_le_bytes w32 p) (le32_below p h)))
canon-means V4 p x h e s = ap (canon V4) (of_length_ok 4 p _ x e).is
canon-means V6 p x h e s =
    let w = of_length_ok 16 p _ x e in sym (octets-segments p 8 w.long h) ∙ ap (canon V6) w.is
canon-means GeneveV4 p x h e s = ap (canon V4) (of_version_ok 4 16 p _ x e).is
canon-means GeneveV6 p x h e s =
    let w = of_version_ok 16 4 p _ x e in sym (octets-segments p 8 w.long h) ∙ ap (canon V6) w.is
canon-means Ip p x h e s = ip_back p x h (of_either_ok 4 16 p _ _ x e)
canon-means Mac p x h e s = (of_length_ok 6 p p x e).is
canon-means BePair p x h e s =
    let w = of_length_ok 4 p _ x e in
    let front =
    be_bytes_2 (take 2 p) x.0 (length-take-le 2 p (omega (arith, w.long))) (IsBytes-take 2 p h)
    (ap (λ (z : ℕ × ℕ). z.0) (sym w.is)) in
    let rear =
    be_bytes_2 (drop 2 p) x.1 (omega (arith, length-drop 2 p, w.long)) (IsBytes-drop 2 p h)
    (ap (λ (z : ℕ × ℕ). z.1) (sym w.is)) in
    sym (take-append-drop 2 p) ∙ sym (joined front rear)
canon-means FlagPair p x h e s =
    let w = of_length_ok 8 p _ x e in
    let front =
    le_bytes_4 (take 4 p) x.0 (length-take-le 4 p (omega (arith, w.long))) (IsBytes-take 4 p h)
    (ap (λ (z : ℕ × ℕ). z.0) (sym w.is)) in
    let rear =
    le_bytes_4 (drop 4 p) x.1 (omega (arith, length-drop 4 p, w.long)) (IsBytes-drop 4 p h)
    (ap (λ (z : ℕ × ℕ). z.1) (sym w.is)) in
    sym (take-append-drop 4 p) ∙ sym (joined front rear)
canon-means EmptyOrByte p x h e s =
    byte_back p x (of_either_ok 0 1 p None (Some (slice_index p 0)) x e)
canon-means Raw p x h e s = ok_same p x e
canon-means Truth p x h e s = absurd (false≢true s)
canon-means TruthOne p x h e s = absurd (false≢true s)
canon-means Mark p x h e s = absurd (false≢true s)
canon-means Name p x h e s = absurd (false≢true s)
canon-means Scrub p x h e s = absurd (false≢true s)
canon-means _ p x h e s = absurd (err_ok _ _ e)

exact_alike : (shape : Shape) (p q : List ℕ) (x y : Carrier shape) → IsBytes p → IsBytes q →
    means shape p ≡ Ok x → means shape q ≡ Ok y → is_exact shape ≡ true →
    (bytes_eq p q ≡ true) ↔ (x ≡ y)
exact_alike shape p q x y h k e f s = (
  λ t. ok_same x y (sym e ∙ ap (means shape) ((bytes_eq-Decides p q).0 t) ∙ f),
  λ t.
      (bytes_eq-Decides p q).1
      (canon-means shape p x h e s ∙ ap (canon shape) t ∙ sym (canon-means shape q y k f s)),
)

beq_is : (a b : Bool) → (beq a b ≡ true) ↔ (a ≡ b)
beq_is true true = (λ e. refl, λ e. refl)
beq_is true false = (λ e. absurd (false≢true e), λ e. absurd (false≢true (sym e)))
beq_is false true = (λ e. absurd (false≢true e), λ e. absurd (false≢true e))
beq_is false false = (λ e. refl, λ e. refl)

not_same : (a b : Bool) → not a ≡ not b → a ≡ b
not_same true true e = refl
not_same true false e = absurd (false≢true e)
not_same false true e = absurd (false≢true (sym e))
not_same false false e = refl

tests_alike : (a b : Bool) (x y : Bool) → a ≡ x → b ≡ y → (beq a b ≡ true) ↔ (x ≡ y)
tests_alike a b x y e f = (λ t. sym e ∙ (beq_is a b).0 t ∙ f, λ t. (beq_is a b).1 (e ∙ t ∙ sym f))

nots_alike : (a b : Bool) (x y : Bool) → not a ≡ x → not b ≡ y → (beq a b ≡ true) ↔ (x ≡ y)
nots_alike a b x y e f = (
  λ t. sym e ∙ ap not ((beq_is a b).0 t) ∙ f,
  λ t. (beq_is a b).1 (not_same a b (e ∙ t ∙ sym f)),
)

pub means_alike : (shape : Shape) (p q : List ℕ) (x y : Carrier shape) → IsBytes p → IsBytes q →
    means shape p ≡ Ok x → means shape q ≡ Ok y → (payload_alike shape p q ≡ true) ↔ (x ≡ y)
means_alike Truth p q x y h k e f =
    nots_alike _ _ x y (of_length_ok 1 p _ x e).is (of_length_ok 1 q _ y f).is
means_alike TruthOne p q x y h k e f =
    tests_alike _ _ x y (of_length_ok 1 p _ x e).is (of_length_ok 1 q _ y f).is
means_alike Mark p q x y h k e f = (λ t. refl, λ t. refl)
means_alike Name p q x y h k e f =
    let a = (text_of_ok (stripped p) x e).0 in
    let b = (text_of_ok (stripped q) y f).0 in (
      λ t. sym a ∙ (bytes_eq-Decides (stripped p) (stripped q)).0 t ∙ b,
      λ t. (bytes_eq-Decides (stripped p) (stripped q)).1 (a ∙ t ∙ sym b),
    )
means_alike Scrub p q x y h k e f =
    let v = of_length_ok 4 p _ x e in
    let w = of_length_ok 4 q _ y f in
    nots_alike _ _ x y (ap not (sym (scrub_test p h v.long)) ∙ v.is)
    (ap not (sym (scrub_test q k w.long)) ∙ w.is)
means_alike shape p q x y h k e f = exact_alike shape p q x y h k e f refl

-- ---- verdicts by lengths

verdict_if : {X : Type 0} (b : Bool) (c : Cause) (x : X) →
    (if b then done tt else failed c) ≡ verdict (if b then done x else failed c)
verdict_if true c x = refl
verdict_if false c x = refl

verdict_length : {X : Type 0} (m n : ℕ) (p : List ℕ) (x : X) → Some m ≡ Some n →
    of_length n p tt ≡ verdict (of_length m p x)
verdict_length m n p x e =
    ap (λ (k : ℕ). of_length k p tt) (sym (same e)) ∙ verdict_if (length p == m) cause.Length x
  where
    same : Some m ≡ Some n → m ≡ n
    same h = cc

-- under a shape whose accepted payloads have one length, that length decides
pub verdict_fixed : (shape : Shape) (n : ℕ) (p : List ℕ) → accepted_length shape ≡ Some n →
    of_length n p tt ≡ verdict (means shape p)
verdict_fixed U8 n p e = verdict_length 1 n p _ e
verdict_fixed Le16 n p e = verdict_length 2 n p _ e
verdict_fixed Le32 n p e = verdict_length 4 n p _ e
verdict_fixed Le64 n p e = verdict_length 8 n p _ e
verdict_fixed Be16 n p e = verdict_length 2 n p _ e
verdict_fixed Be32 n p e = verdict_length 4 n p _ e
verdict_fixed Be64 n p e = verdict_length 8 n p _ e
verdict_fixed I32 n p e = verdict_length 4 n p _ e
verdict_fixed Truth n p e = verdict_length 1 n p _ e
verdict_fixed TruthOne n p e = verdict_length 1 n p _ e
verdict_fixed V4 n p e = verdict_length 4 n p _ e
verdict_fixed V6 n p e = verdict_length 16 n p _ e
verdict_fixed Mac n p e = verdict_length 6 n p _ e
verdict_fixed BePair n p e = verdict_length 4 n p _ e
verdict_fixed FlagPair n p e = verdict_length 8 n p _ e
verdict_fixed Scrub n p e = verdict_length 4 n p _ e
verdict_fixed _ n p e = absurd cc

pub verdict_version : {X : Type 0} (size other : ℕ) (p : List ℕ) (x : X) →
    of_version size other p tt ≡ verdict (of_version size other p x)
verdict_version size other p x = by (length p == other)
  where
    by : (b : Bool) →
        (if b then failed cause.AddressKind else of_length size p tt)
        ≡ verdict (if b then failed cause.AddressKind else of_length size p x)
    by true = refl
    by false = verdict_if (length p == size) cause.Length x

-- ---- accepted payloads

-- the datum of an accepted payload
pub datum_of : (shape : Shape) (p : List ℕ) → IsAccepted shape p →
    (x : Carrier shape) × (means shape p ≡ Ok x)
unfolding IsAccepted
datum_of shape p h = by (means shape p) refl h
  where
    by : (m : Result (Carrier shape) Cause) → means shape p ≡ m → IsOk m →
        (x : Carrier shape) × (means shape p ≡ Ok x)
    by (Ok x) e h = (x, e)
    by (Err c) e h = absurd cc

pub accepted : (shape : Shape) (p : List ℕ) (x : Carrier shape) → means shape p ≡ Ok x →
    IsAccepted shape p
unfolding IsAccepted
accepted shape p x e = subst IsOk (sym e) refl

-- a payload whose check returns Ok is accepted
pub checked : (shape : Shape) (p : List ℕ) → Ok tt ≡ verdict (means shape p) → IsAccepted shape p
unfolding IsAccepted
checked shape p e = by (means shape p) refl
  where
    by : (m : Result (Carrier shape) Cause) → means shape p ≡ m → IsOk (means shape p)
    by (Ok x) f = subst IsOk (sym f) refl
    by (Err c) f = absurd (err_ok c tt (sym (e ∙ ap verdict f)))

pub accepted_alike : (shape : Shape) (p q : List ℕ) → IsBytes p → IsBytes q → IsAccepted shape p →
    IsAccepted shape q → (payload_alike shape p q ≡ true) ↔ (means shape p ≡ means shape q)
accepted_alike shape p q h k a b =
    let x = datum_of shape p a in
    let y = datum_of shape q b in
    let law = means_alike shape p q x.0 y.0 h k x.1 y.1 in
    (λ t. x.1 ∙ ap done (law.0 t) ∙ sym y.1, λ t. law.1 (ok_same x.0 y.0 (sym x.1 ∙ t ∙ y.1)))
