-- Peers that are bytes: any payload means itself.
use Rattle.std.specs.Prelude.{◌≡◌, ◌↔◌, ℕ, true, List, Option, Some, refl}
use Rattle.std.proofs.Common.{sym, subst, ◌∙◌}
use Rattle.std.specs.Str.{bytes_eq}
use Rattle.std.proofs.lemmas.Slice.Eq.{bytes_eq-Decides}
use Rattle.nla_frame.specs.Attribute.{IsBytes}
use Rattle.linkinfo_table.specs.Peers.{IsPeer}

abbrev peer : List ℕ → Option (List ℕ)
peer p = Some p

peer_same : (p q : List ℕ) → peer p ≡ peer q → p ≡ q
peer_same p q e = cc

bytes_alike_is : (p q x y : List ℕ) → IsBytes p → IsBytes q → peer p ≡ Some x →
    peer q ≡ Some y → (bytes_eq p q ≡ true) ↔ (x ≡ y)
bytes_alike_is p q x y bp bq e h = (
  λ t. sym (peer_same p x e) ∙ (bytes_eq-Decides p q).0 t ∙ peer_same q y h,
  λ t. (bytes_eq-Decides p q).1 (peer_same p x e ∙ t ∙ sym (peer_same q y h)),
)

pub bytes_is_peer : IsPeer peer bytes_eq (λ p. p) IsBytes
bytes_is_peer = record {
  alike_is = bytes_alike_is;
  meaning_well = λ p x bytes e. subst IsBytes (peer_same p x e) bytes;
  well_means = λ x w. refl;
  well_bytes = λ x w. w;
}
