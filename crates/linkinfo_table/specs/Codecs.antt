-- What the payload of a row holds, and how it is read, written and compared. Shapes, peers and
-- lists of the same family are all rows.
use Rattle.std.specs.Prelude.{◌≡◌, ◌≢◌, ◌↔◌, ℕ, ◌*◌, ◌≤◌, Bool, true, List, length, Result, Ok, Err}
use Rattle.nla_frame.specs.Attribute.{IsBytes}
use Rattle.nla_frame.specs.Error.{memory_error}
use Rattle.nla_frame.specs.declared.error.Cause.{Cause}
use Rattle.nla_frame.specs.declared.error.Cause.TheVariants as cause
use Rattle.nla_frame.specs.declared.error.DecodeError.{DecodeError}

-- why a payload is rejected: a cause of its own, or the error of an attribute inside it
pub data PayloadError : Type 0 where
  Own : Cause → PayloadError
  Inside : DecodeError → PayloadError

pub record Codec : Type 1 where
  -- what a payload holds
  pub Carrier : Type 0
  -- what a payload means
  pub means : List ℕ → Result Carrier PayloadError
  -- the canonical payload
  pub canon : Carrier → List ℕ
  -- the values that the program can hold
  pub Holds : Carrier → Type 0
  -- whether two accepted payloads are equivalent
  pub alike : List ℕ → List ℕ → Bool
  -- the number of headers examined inside
  pub headers : List ℕ → ℕ
  -- whether reading a payload may need memory
  pub needs_memory : List ℕ → Bool

-- the laws of a codec
pub record IsCodec (c : Codec) : Type 0 where
  -- a meaning is a value that the program can hold
  pub holds : (p : List ℕ) (x : c.Carrier) → IsBytes p → c.means p ≡ Ok x → c.Holds x
  -- a canonical payload that a header can count means its value, and consists of bytes
  pub again : (x : c.Carrier) → c.Holds x → length (c.canon x) ≤ 65531 → c.means (c.canon x) ≡ Ok x
  pub bytes : (x : c.Carrier) → c.Holds x → length (c.canon x) ≤ 65531 → IsBytes (c.canon x)
  -- two accepted payloads are equivalent if and only if they have equal meanings
  pub alike_is : (p q : List ℕ) (x y : c.Carrier) → IsBytes p → IsBytes q → c.means p ≡ Ok x →
      c.means q ≡ Ok y → (c.alike p q ≡ true) ↔ (x ≡ y)
  -- at most a quarter of the bytes are headers
  pub quarter : (p : List ℕ) → 4 * c.headers p ≤ length p
  -- no payload means the memory error
  pub no_own_memory : (p : List ℕ) → c.means p ≢ Err (Own cause.Memory)
  pub no_inner_memory : (p : List ℕ) → c.means p ≢ Err (Inside memory_error)
