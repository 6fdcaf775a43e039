-- What a call that writes records of attributes into an array of the caller does.
use Rattle.std.specs.Prelude.{◌≡◌, ◌*◌, ◌≤◌, ℕ, List, length, Result}
use Rattle.nla_frame.specs.Attribute.{Attribute}
use Rattle.nla_frame.specs.declared.error.DecodeError.{DecodeError}
use Rattle.linkinfo.specs.Placed.{place_after}
use Rattle.linkinfo_c.specs.Buffers.{with_front}
use Rattle.linkinfo_c.specs.Causes.{IsReturnedCode}
use Rattle.linkinfo_c.specs.Items.{attributes_in, error_after}
use Rattle.linkinfo_c.specs.declared.items.LinkinfoListResult.{LinkinfoListResult}

-- `records` are those of the attributes in a byte string, `given` is what iterating over the string
-- yields, and the array is `old` before the call and `new` after it
pub record WritesRecords {R : Type 0} (records : List R)
    (given : List (Result Attribute DecodeError)) (bytes : List ℕ) (old new : List R)
    (result : LinkinfoListResult) : Type 0 where
  -- as many records as the array has room for; the rest of it is unchanged
  pub array : new ≡ with_front records old
  -- the number of records, whatever the array has room for
  pub count : result.count ≡ length records
  pub quarter : 4 * result.count ≤ length bytes
  -- the error that ends the attributes, or none
  pub error : result.error ≡ error_after given
  pub cause : IsReturnedCode result.error.cause
  -- the offset of that error, or of the end
  pub place : result.place ≡ place_after bytes (attributes_in given)
