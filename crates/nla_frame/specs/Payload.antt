-- Payloads of a fixed length, the addresses in them, and names.
use Rattle.std.specs.Prelude.{
  ◌≡◌,
  ℕ,
  ◌+◌,
  ◌-◌,
  ◌==◌,
  if◌then◌else◌,
  List,
  [],
  ◌∷◌,
  ◌++◌,
  length,
  take,
  slice_index,
  Result,
  Ok,
  Err,
}
use Rattle.std.proofs.Common.{arith, eqb, sym, ap, ◌∙◌}
use Rattle.std.proofs.lemmas.Bool.{cond-true, eq-eqb}
use Rattle.std.proofs.lemmas.List.{take_at, length-append, get_or-append-add}
use Rattle.std.specs.Net.Addr.{segments_of}
use Rattle.std.specs.declared.net.ipv4_addr.Ipv4Addr.{Ipv4Addr}
use Rattle.std.specs.declared.net.ipv6_addr.Ipv6Addr.{Ipv6Addr}
use Rattle.std.specs.declared.net.ip_addr.IpAddr.{IpAddr}
use Rattle.std.specs.declared.net.ip_addr.IpAddr.TheVariants.{V4, V6}
use Rattle.nla_frame.specs.declared.error.Cause.{Cause}
use Rattle.nla_frame.specs.declared.error.Cause.TheVariants as cause

-- the value of a payload that has this length, and the cause Length otherwise
abbrev pub of_length : {X : Type 0} → ℕ → List ℕ → X → Result X Cause
of_length size payload value = if length payload == size then Ok value else Err cause.Length

-- addresses by their octets, in network byte order
abbrev pub ipv4_of : List ℕ → Ipv4Addr
ipv4_of octets = record { octets = octets }

abbrev pub ipv6_of : List ℕ → Ipv6Addr
ipv6_of octets = record { segments = segments_of octets }

-- an IPv4 address of four octets, or an IPv6 address of sixteen
abbrev pub ip_of : List ℕ → Result IpAddr Cause
ip_of payload = if length payload == 4 then Ok (V4 (ipv4_of payload))
    else of_length 16 payload (V6 (ipv6_of payload))

-- the bytes of a name: the payload without one closing zero, if there is one
unfoldable pub stripped : List ℕ → List ℕ
stripped payload = if slice_index payload (length payload - 1) == 0
    then take (length payload - 1) payload else payload

-- a name reads back from the payload that holds it
pub stripped-closed : (s : List ℕ) → stripped (s ++ 0 ∷ []) ≡ s
unfolding stripped
stripped-closed s =
    let size : length (s ++ 0 ∷ []) - 1 ≡ length s = omega (arith, length-append s (0 ∷ [])) in
    let last : slice_index (s ++ 0 ∷ []) (length s + 0) ≡ 0 = get_or-append-add s (0 ∷ []) 0 0 in
    let last' : slice_index (s ++ 0 ∷ []) (length (s ++ 0 ∷ []) - 1) ≡ 0 =
    ap (λ (n : ℕ). slice_index (s ++ 0 ∷ []) n) (size ∙ omega arith) ∙ last in
    cond-true (eqb (slice_index (s ++ 0 ∷ []) (length (s ++ 0 ∷ []) - 1)) 0) _ _ (eq-eqb _ _ last')
    ∙ take_at s (0 ∷ []) _ (sym size)
