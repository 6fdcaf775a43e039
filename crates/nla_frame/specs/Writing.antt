-- What a call that writes to the front of a buffer does: `before` and `after` are the bytes of the
-- buffer, and the result is the number of bytes written.
use Rattle.std.specs.Prelude.{◌≡◌, ℕ, ◌++◌, List, drop, length}
use Rattle.nla_frame.specs.Attribute.{Attribute, buffer_len_of, canonical_string}

pub record Writes (string before after : List ℕ) (result : ℕ) : Type 0 where
  pub taken : result ≡ length string
  pub written : after ≡ string ++ drop (length string) before

-- the encoding of an attribute: header, payload and zero padding
pub record WritesAttribute (a : Attribute) (before after : List ℕ) (result : ℕ) : Type 0 where
  pub taken : result ≡ buffer_len_of a
  pub written : after ≡ canonical_string a ++ drop (buffer_len_of a) before
