-- The computed test of a datum is what the contracts of shapes ask for.
use Rattle.std.proofs.Common.{◌≡◌, ◌^◌, ◌∙◌, ◌&&◌, ℕ, Bool, true, nat_lt, refl, ap}
use Rattle.std.proofs.lemmas.Bool.{and_parts, lt-ltb, ltb-true}
use Rattle.linkinfo_shapes.specs.Data.{
  IsEmptyOrByte,
  IsNumberBelow,
  IsPairBelow,
  Suits,
  Value,
  bytes,
  empty,
  mac,
  number,
  pair,
  signed,
  text,
  truth,
  v4,
  v6,
}
use Rattle.linkinfo_shapes.specs.declared.shape.Shape.{Shape}
use Rattle.linkinfo_shapes.specs.declared.shape.Shape.TheVariants.{
  U8,
  Le16,
  Le32,
  Le64,
  Be16,
  Be32,
  Be64,
  I32,
  Truth,
  TruthOne,
  Mark,
  Name,
  V4,
  V6,
  GeneveV4,
  GeneveV6,
  Ip,
  Mac,
  BePair,
  FlagPair,
  EmptyOrByte,
  Scrub,
  Raw,
}
use Rattle.linkinfo_build.specs.Suits.{
  is_empty_or_byte,
  is_number_below,
  is_pair_below,
  is_suited,
}

number_is : (bound : ℕ) (value : Value) → is_number_below bound value ≡ true →
    IsNumberBelow bound value
number_is bound (number n) h = ltb-true n bound h
number_is bound (signed z) h = absurd cc
number_is bound (truth b) h = absurd cc
number_is bound empty h = absurd cc
number_is bound (text s) h = absurd cc
number_is bound (v4 a) h = absurd cc
number_is bound (v6 a) h = absurd cc
number_is bound (mac s) h = absurd cc
number_is bound (pair a b) h = absurd cc
number_is bound (bytes s) h = absurd cc

pair_is : (bound : ℕ) (value : Value) → is_pair_below bound value ≡ true →
    IsPairBelow bound value
pair_is bound (pair a b) h =
    let parts = and_parts (nat_lt a bound) (nat_lt b bound) h in
    (ltb-true a bound parts.0, ltb-true b bound parts.1)
pair_is bound (number n) h = absurd cc
pair_is bound (signed z) h = absurd cc
pair_is bound (truth b) h = absurd cc
pair_is bound empty h = absurd cc
pair_is bound (text s) h = absurd cc
pair_is bound (v4 a) h = absurd cc
pair_is bound (v6 a) h = absurd cc
pair_is bound (mac s) h = absurd cc
pair_is bound (bytes s) h = absurd cc

byte_is : (value : Value) → is_empty_or_byte value ≡ true → IsEmptyOrByte value
byte_is empty h = tt
byte_is (number n) h = ltb-true n 256 h
byte_is (signed z) h = absurd cc
byte_is (truth b) h = absurd cc
byte_is (text s) h = absurd cc
byte_is (v4 a) h = absurd cc
byte_is (v6 a) h = absurd cc
byte_is (mac s) h = absurd cc
byte_is (pair a b) h = absurd cc
byte_is (bytes s) h = absurd cc

pub suited : (shape : Shape) (value : Value) → is_suited shape value ≡ true → Suits shape value
unfolding is_suited Suits
suited U8 value h = number_is 256 value h
suited Le16 value h = number_is (2 ^ 16) value h
suited Le32 value h = number_is (2 ^ 32) value h
suited Le64 value h = number_is (2 ^ 64) value h
suited Be16 value h = number_is (2 ^ 16) value h
suited Be32 value h = number_is (2 ^ 32) value h
suited Be64 value h = number_is (2 ^ 64) value h
suited I32 (signed z) h = tt
suited Truth (truth b) h = tt
suited TruthOne (truth b) h = tt
suited Mark empty h = tt
suited Name (text s) h = tt
suited V4 (v4 a) h = tt
suited V6 (v6 a) h = tt
suited GeneveV4 (v4 a) h = tt
suited GeneveV6 (v6 a) h = tt
suited Ip (v4 a) h = tt
suited Ip (v6 a) h = tt
suited Mac (mac s) h = tt
suited BePair value h = pair_is (2 ^ 16) value h
suited FlagPair value h = pair_is (2 ^ 32) value h
suited EmptyOrByte value h = byte_is value h
suited Scrub (truth b) h = tt
suited Raw (bytes s) h = tt
suited _ _ h = absurd cc

-- ---- and every datum passes it

number_below : (bound : ℕ) (value : Value) → IsNumberBelow bound value →
    is_number_below bound value ≡ true
number_below bound (number n) h = lt-ltb n bound h
number_below bound (signed z) h = absurd h
number_below bound (truth b) h = absurd h
number_below bound empty h = absurd h
number_below bound (text s) h = absurd h
number_below bound (v4 a) h = absurd h
number_below bound (v6 a) h = absurd h
number_below bound (mac s) h = absurd h
number_below bound (pair a b) h = absurd h
number_below bound (bytes s) h = absurd h

pair_below : (bound : ℕ) (value : Value) → IsPairBelow bound value →
    is_pair_below bound value ≡ true
pair_below bound (pair a b) h =
    ap (λ (x : Bool). x && nat_lt b bound) (lt-ltb a bound h.0) ∙ lt-ltb b bound h.1
pair_below bound (number n) h = absurd h
pair_below bound (signed z) h = absurd h
pair_below bound (truth b) h = absurd h
pair_below bound empty h = absurd h
pair_below bound (text s) h = absurd h
pair_below bound (v4 a) h = absurd h
pair_below bound (v6 a) h = absurd h
pair_below bound (mac s) h = absurd h
pair_below bound (bytes s) h = absurd h

pub suits_passes : (shape : Shape) (value : Value) → Suits shape value →
    is_suited shape value ≡ true
unfolding is_suited Suits
suits_passes U8 value h = number_below 256 value h
suits_passes Le16 value h = number_below (2 ^ 16) value h
suits_passes Le32 value h = number_below (2 ^ 32) value h
suits_passes Le64 value h = number_below (2 ^ 64) value h
suits_passes Be16 value h = number_below (2 ^ 16) value h
suits_passes Be32 value h = number_below (2 ^ 32) value h
suits_passes Be64 value h = number_below (2 ^ 64) value h
suits_passes I32 (signed z) h = refl
suits_passes Truth (truth b) h = refl
suits_passes TruthOne (truth b) h = refl
suits_passes Mark empty h = refl
suits_passes Name (text s) h = refl
suits_passes V4 (v4 a) h = refl
suits_passes V6 (v6 a) h = refl
suits_passes GeneveV4 (v4 a) h = refl
suits_passes GeneveV6 (v6 a) h = refl
suits_passes Ip (v4 a) h = refl
suits_passes Ip (v6 a) h = refl
suits_passes Mac (mac s) h = refl
suits_passes BePair value h = pair_below (2 ^ 16) value h
suits_passes FlagPair value h = pair_below (2 ^ 32) value h
suits_passes EmptyOrByte empty h = refl
suits_passes EmptyOrByte (number n) h = lt-ltb n 256 h
suits_passes Scrub (truth b) h = refl
suits_passes Raw (bytes s) h = refl
suits_passes _ _ h = absurd h
