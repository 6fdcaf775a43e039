-- A link message as JSON data.
use Rattle.std.specs.Prelude.{
  ℕ,
  ◌*◌,
  ◌-◌,
  ◌/◌,
  ◌&&◌,
  Bool,
  true,
  false,
  not,
  if◌then◌else◌,
  nat_lt,
  ℤ,
  bit_and,
  List,
  [],
  ◌∷◌,
  ◌++◌,
  length,
  replicate,
  Option,
  Some,
  None,
  codes,
}
use Rattle.std.specs.Fmt.{decimal, digits}
use Rattle.std.specs.List.{flat_map}
use Rattle.linkinfo_messages.specs.declared.link.LinkEvent.{LinkEvent}
use Rattle.linkinfo_messages.specs.declared.link.LinkEvent.TheVariants as event
use Rattle.linkinfo_view.specs.Text.{escaped_text}
use Rattle.serde_json.specs.Data.{
  Data,
  Members,
  array,
  boolean,
  no_members,
  number,
  object,
  put,
  string,
}
use Rattle.serde_json.specs.Find.{of_integer}
use Rattle.serde_json.specs.View.{items_of}
use Rattle.linkinfo_print.specs.MembersData.{put_some}

-- the flags of a link in the order of `ip link`, each with its bit (`IFF_*`,
-- include/uapi/linux/if.h); `IFF_RUNNING` (0x40) is not among them
unfoldable pub link_flags : List (List ℕ × ℕ)
link_flags =
    (codes "LOOPBACK", 0x8)
    ∷ (codes "BROADCAST", 0x2)
    ∷ (codes "POINTOPOINT", 0x10)
    ∷ (codes "MULTICAST", 0x1000)
    ∷ (codes "NOARP", 0x80)
    ∷ (codes "ALLMULTI", 0x200)
    ∷ (codes "PROMISC", 0x100)
    ∷ (codes "MASTER", 0x400)
    ∷ (codes "SLAVE", 0x800)
    ∷ (codes "DEBUG", 0x4)
    ∷ (codes "DYNAMIC", 0x8000)
    ∷ (codes "AUTOMEDIA", 0x4000)
    ∷ (codes "PORTSEL", 0x2000)
    ∷ (codes "NOTRAILERS", 0x20)
    ∷ (codes "UP", 0x1)
    ∷ (codes "LOWER_UP", 0x10000)
    ∷ (codes "DORMANT", 0x20000)
    ∷ (codes "ECHO", 0x40000)
    ∷ []

abbrev pub is_set : ℕ → ℕ → Bool
is_set flags mask = nat_lt 0 (bit_and flags mask)

abbrev pub one_flag : ℕ → List ℕ × ℕ → List Data
one_flag flags (name, mask) = if is_set flags mask then string name ∷ [] else []

-- a link that is up (0x1) and not running (0x40)
abbrev pub lacks_carrier : ℕ → Bool
lacks_carrier flags = is_set flags 0x1 && not (is_set flags 0x40)

abbrev pub no_carrier : ℕ → List Data
no_carrier flags = if lacks_carrier flags then string (codes "NO-CARRIER") ∷ [] else []

-- the bits without a name, in hex
abbrev pub unnamed : ℕ → List Data
unnamed flags =
    if nat_lt flags 0x80000 then []
    else string (codes "0x" ++ digits 16 false (flags / 0x80000 * 0x80000)) ∷ []

-- the names of the flags, as `ip -j link` prints them, and last the bits without a name
abbrev pub flags_data : ℕ → Data
flags_data flags =
    array (items_of (no_carrier flags ++ (flat_map (one_flag flags) link_flags ++ unnamed flags)))

abbrev pub is_deleted : LinkEvent → Bool
is_deleted event.Deleted = true
is_deleted event.New = false

abbrev pub name_of : Option (List ℕ) → Option Data
name_of (Some name) = Some (string (escaped_text name))
name_of None = None

abbrev pub time_of : Option (List ℕ) → Option Data
time_of (Some time) = Some (string time)
time_of None = None

-- nine digits of nanoseconds below 10 ^ 9
abbrev pub nine_digits : ℕ → List ℕ
nine_digits n = replicate (9 - length (decimal n)) 48 ++ decimal n

-- a time: seconds, and nanoseconds as nine decimal places
abbrev pub time_text : ℕ × ℕ → List ℕ
time_text (seconds, nanoseconds) =
    decimal seconds ++ (codes "." ++ nine_digits nanoseconds)

-- the members that a message has by itself: whether the link was deleted, its flags, index and name
abbrev pub link_members : LinkEvent → ℕ → ℤ → Option (List ℕ) → Members
link_members event flags index name =
    put_some (codes "ifname") (name_of name)
    (put (codes "ifindex") (number (of_integer index))
    (put (codes "flags") (flags_data flags)
    (put (codes "deleted") (boolean (is_deleted event)) no_members)))

-- The object of a message: its own members, its list and the time of its packet, where there are
-- any.
abbrev pub message_data : LinkEvent → ℕ → ℤ → Option (List ℕ) → Option Data → Option (List ℕ) →
    Data
message_data event flags index name list time =
    object (put_some (codes "time") (time_of time)
    (put_some (codes "linkinfo") list (link_members event flags index name)))
