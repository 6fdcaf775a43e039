-- What a call on bytes returns, and by how much it raises the count of headers examined: `old` is
-- the count before the call and `new` the one after it, `len` the number of bytes, and `headers`
-- the number of headers inside them.
use Rattle.std.specs.Prelude.{◌≡◌, ℕ, ◌+◌, ◌*◌, ◌≤◌, Bool, false, List, OnErr, Result}
use Rattle.std.specs.Bool.{OnTrue}
use Rattle.nla_frame.specs.Answers.{CertainUnless, Gives, OnAnswer, verdict}
use Rattle.nla_frame.specs.declared.error.DecodeError.{DecodeError}
use Rattle.linkinfo_table.specs.Lists.{Appends, push_memory}

-- Parsing: `view` is what a contract sees of the value, `meaning` what the bytes mean, and
-- `needs_memory` whether parsing them may allocate.
pub record Reads {X Y : Type 0} (view : X → Y) (result : Result X DecodeError)
    (meaning : Result Y DecodeError) (needs_memory : Bool) (headers len old new : ℕ) : Type 0 where
  -- the meaning, or the memory error
  pub answer : Gives view result meaning
  -- the meaning, where no memory is needed
  pub certain : CertainUnless needs_memory view result meaning
  -- every result but the memory error has examined all headers
  pub counted : OnAnswer result (new ≡ old + headers)
  pub rises : old ≤ new
  -- at most a quarter of the bytes
  pub quarter : 4 * new ≤ 4 * old + len

-- Parsing an attribute and pushing its value to a list, which is `before` and then `after`.
pub record Pushes {X : Type 0} (before after : List X) (result : Result (Unit {0}) DecodeError)
    (meaning : Result X DecodeError) (needs_memory : Bool) (headers len old new : ℕ) : Type 0 where
  -- the list ends with the value that is meant, or the result is its error or the memory error
  pub answer : Appends before after result meaning
  pub unchanged : OnErr result (after ≡ before)
  -- no allocation fails where neither the value nor the list needs memory
  pub certain : push_memory needs_memory meaning ≡ false → result ≡ verdict meaning
  pub counted : OnAnswer result (new ≡ old + headers)
  pub rises : old ≤ new
  pub quarter : 4 * new ≤ 4 * old + len

-- Validating: `expected` is success, or the error of the bytes.
pub record Checks (result expected : Result (Unit {0}) DecodeError) (headers len old new : ℕ) :
    Type 0 where
  pub answer : result ≡ expected
  pub counted : new ≡ old + headers
  pub rises : old ≤ new
  pub quarter : 4 * new ≤ 4 * old + len

-- Comparing two accepted byte strings, which have `len` bytes and `headers` headers in all: `alike`
-- is whether they are equivalent.
pub record Compares (result alike : Bool) (headers len old new : ℕ) : Type 0 where
  pub same : result ≡ alike
  -- where they are equivalent, all headers have been examined
  pub counted : OnTrue result (new ≡ old + headers)
  pub rises : old ≤ new
  pub quarter : 4 * new ≤ 4 * old + len
