-- Members of JSON objects that may be absent.
use Rattle.std.specs.Prelude.{ℕ, List, Option, Some, None}
use Rattle.serde_json.specs.Data.{Data, Members, put}

-- the members, with one more if it is there
abbrev pub put_some : List ℕ → Option Data → Members → Members
put_some key (Some d) members = put key d members
put_some key None members = members
