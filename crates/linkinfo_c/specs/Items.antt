-- The attributes of a list, as C has them.
use Rattle.std.specs.Prelude.{ℕ, List, [], ◌∷◌, ◌++◌, length, Option, Some, None, Result, Ok, Err}
use Rattle.nla_frame.specs.Attribute.{Attribute}
use Rattle.nla_frame.specs.NlaItems.{nla_items}
use Rattle.nla_frame.specs.declared.error.DecodeError.{DecodeError}
use Rattle.linkinfo.specs.Placed.{place_after}
use Rattle.linkinfo.specs.Roles.{no_kinds}
use Rattle.linkinfo.specs.Strings.{last_kind, last_port}
use Rattle.linkinfo.specs.Walks.{walk_items}
use Rattle.linkinfo_c.specs.declared.error.LinkinfoError.{LinkinfoError}
use Rattle.linkinfo_c.specs.declared.items.LinkinfoItem.{LinkinfoItem}
use Rattle.linkinfo_c.specs.Codes.{kind_code, port_kind_code}
use Rattle.linkinfo_c.specs.Errors.{no_error, error_record}

-- what iterating over a list yields: its attributes, and last an error of an attribute itself or of
-- a rest without a header
abbrev pub given_by : List ℕ → List (Result Attribute DecodeError)
given_by s = walk_items no_kinds (nla_items s)

-- the attributes before the error
abbrev pub attributes_in : List (Result Attribute DecodeError) → List Attribute
attributes_in [] = []
attributes_in ((Ok a) ∷ more) = a ∷ attributes_in more
attributes_in ((Err e) ∷ more) = []

-- the error that ends the attributes, or none
abbrev pub error_after : List (Result Attribute DecodeError) → LinkinfoError
error_after [] = no_error
error_after ((Ok a) ∷ more) = error_after more
error_after ((Err e) ∷ more) = error_record e

-- the code of a current kind, 0 if there is none
abbrev pub code_in : {T : Type 0} → (T → ℕ) → Option T → ℕ
code_in code (Some tag) = code tag
code_in code None = 0

-- the record of an attribute of a byte string, after others: its offset, and the current kinds
-- before it
abbrev pub item_after : List ℕ → List Attribute → Attribute → LinkinfoItem
item_after s front a = record {
  place = place_after s front;
  len = length a.value;
  raw_kind = a.kind;
  kind = code_in kind_code (last_kind front);
  port_kind = code_in port_kind_code (last_port front);
}

-- the record of each attribute, after those before it
abbrev pub each_after : {R : Type 0} → (List Attribute → Attribute → R) → List Attribute →
    List Attribute → List R
each_after of front [] = []
each_after of front (a ∷ more) = of front a ∷ each_after of (front ++ a ∷ []) more

-- the records of the attributes of a byte string
abbrev pub items_of : List ℕ → List LinkinfoItem
items_of s = each_after (item_after s) [] (attributes_in (given_by s))
