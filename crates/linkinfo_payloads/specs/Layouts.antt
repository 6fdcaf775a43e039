-- Layouts of bytes: those of a number, an address, bytes that are kept, and one after another.
use Rattle.std.specs.Prelude.{ℕ, ◌+◌, ◌^◌, ◌<◌, List, refl}
use Rattle.std.specs.Int.{w16, w32, from_be_bytes, from_le_bytes, to_be_bytes, to_le_bytes}
use Rattle.std.specs.Net.Addr.{octets_of}
use Rattle.std.specs.declared.net.ipv4_addr.Ipv4Addr.{Ipv4Addr}
use Rattle.std.specs.declared.net.ipv6_addr.Ipv6Addr.{Ipv6Addr}
use Rattle.nla_frame.specs.Payload.{ipv4_of, ipv6_of}
use Rattle.linkinfo_shapes.specs.Shapes.{IsIpv4, IsIpv6}
use Rattle.linkinfo_shapes.specs.declared.shape.Shape.TheVariants as shape
use Rattle.linkinfo_payloads.specs.Fixed.{
  IsArray,
  IsFixed,
  big_endian,
  fixed_array,
  fixed_big_endian,
  fixed_pair,
  fixed_shape,
  pair_bytes,
  pair_holds,
  pair_of,
}
use Rattle.linkinfo_payloads.specs.declared.fixed.BigEndian.{BigEndian}

-- How values of one width are read and written, and which ones a Rust value can be.
pub record Layout (X : Type 0) : Type 1 where
  pub width : ℕ
  pub of : List ℕ → X
  pub bytes : X → List ℕ
  pub Holds : X → Type 0
  pub fixed : IsFixed width of bytes Holds

abbrev pub le16 : Layout ℕ
le16 = record {
  width = 2;
  of = from_le_bytes w16;
  bytes = to_le_bytes w16;
  Holds = λ n. n < 2 ^ 16;
  fixed = fixed_shape shape.Le16 2 (from_le_bytes w16) (λ p. refl) refl;
}

abbrev pub le32 : Layout ℕ
le32 = record {
  width = 4;
  of = from_le_bytes w32;
  bytes = to_le_bytes w32;
  Holds = λ n. n < 2 ^ 32;
  fixed = fixed_shape shape.Le32 4 (from_le_bytes w32) (λ p. refl) refl;
}

abbrev pub be16 : Layout BigEndian
be16 = record {
  width = 2;
  of = λ p. big_endian (from_be_bytes w16 p);
  bytes = λ n. to_be_bytes w16 n.number;
  Holds = λ n. n.number < 2 ^ 16;
  fixed = fixed_big_endian;
}

abbrev pub octets : ℕ → Layout (List ℕ)
octets width = record {
  width = width;
  of = λ p. p;
  bytes = λ x. x;
  Holds = IsArray width;
  fixed = fixed_array width;
}

abbrev pub v4 : Layout Ipv4Addr
v4 = record {
  width = 4;
  of = ipv4_of;
  bytes = λ a. a.octets;
  Holds = IsIpv4;
  fixed = fixed_shape shape.V4 4 ipv4_of (λ p. refl) refl;
}

abbrev pub v6 : Layout Ipv6Addr
v6 = record {
  width = 16;
  of = ipv6_of;
  bytes = λ a. octets_of a.segments;
  Holds = IsIpv6;
  fixed = fixed_shape shape.V6 16 ipv6_of (λ p. refl) refl;
}

infixr 12 ◌⨾◌
abbrev pub ◌⨾◌ : {A B : Type 0} → Layout A → Layout B → Layout (A × B)
a ⨾ b = record {
  width = a.width + b.width;
  of = pair_of a.width a.of b.of;
  bytes = pair_bytes a.bytes b.bytes;
  Holds = pair_holds a.Holds b.Holds;
  fixed = fixed_pair a.fixed b.fixed;
}
