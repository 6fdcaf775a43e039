-- The names of link kinds.
use Rattle.std.specs.Prelude.{
  ◌≡◌,
  ◌≢◌,
  ◌==◌,
  ℕ,
  true,
  false,
  List,
  [],
  ◌∷◌,
  ◌++◌,
  ◌+◌,
  ◌-◌,
  filter,
  length,
  replicate,
  codes,
  Option,
  Some,
  None,
  unwrap_or,
}
use Rattle.std.specs.Prelude.{is_none, ◌↔◌, Bool, Result, Ok, refl}
use Rattle.std.specs.List.{list_all, list_any, slice_index}
use Rattle.std.specs.Str.{bytes_eq, is_utf8}
use Rattle.std.specs.Int.{Width, byte_len, from_le_bytes}
use Rattle.std.proofs.Common.{arith, inl, inr, sym, ap, suc, ◌≤◌, ◌∙◌, lit<}
use Rattle.std.proofs.lemmas.Bool.Decides.{Decides-eqb}
use Rattle.std.proofs.lemmas.Slice.Eq.{bytes_eq-Decides}
use Rattle.nla_frame.specs.Attribute.{Attribute, IsBytes}
use Rattle.nla_frame.specs.declared.error.DecodeError.{DecodeError}
use Rattle.linkinfo_numbers.specs.declared.tags.KindTag.{KindTag}
use Rattle.linkinfo_numbers.specs.declared.tags.KindTag.TheVariants as tag
use Rattle.linkinfo_numbers.specs.declared.kind.InfoKind.{InfoKind}
use Rattle.linkinfo_numbers.specs.declared.kind.InfoKind.TheVariants as kind
use Rattle.linkinfo_numbers.specs.Table.{
  Table,
  IsTable,
  by_name,
  value_of,
  IsProper,
  apart_by,
  key-value_of,
  value_of-key,
  part_of_first,
}
use Rattle.linkinfo_numbers.specs.Name.{name_of, name_attribute}
use Rattle.linkinfo_numbers.specs.NameMeaning.{
  is_name_that,
  meaning_of_name,
  name_meaning_is_proper,
  name_reads_back,
}
use Rattle.linkinfo_numbers.specs.NameNumber.{
  TellsBytes,
  ascii_is_bytes,
  bytes_from,
  bytes_from-padded,
  is_numbered,
  is_numbered_then,
  number_of_name,
}
use Rattle.linkinfo_numbers.specs.NameNumber.{
  part_of_first-alike,
  same-is_numbered,
  same-is_numbered_then,
}
use Rattle.linkinfo_numbers.specs.Tags.{
  Tags,
  IsOtherOrTagged,
  IsTagged,
  ascii_is_utf8,
  is_ascii,
  tag_among,
  tag_at,
  tag-value_of,
  kind-tag_at,
  tag_at-key,
}
use Rattle.linkinfo_numbers.specs.Tags.{tag_among-of_length, tag_among-other_length}

-- the text of each kind
abbrev pub text_of_kind : InfoKind → List ℕ
-- Begin: written by tables/generate from tables/kinds (texts).
text_of_kind kind.Dummy = codes "dummy"
text_of_kind kind.Ifb = codes "ifb"
text_of_kind kind.Bridge = codes "bridge"
text_of_kind kind.Tun = codes "tun"
text_of_kind kind.Nlmon = codes "nlmon"
text_of_kind kind.Vlan = codes "vlan"
text_of_kind kind.Veth = codes "veth"
text_of_kind kind.Vxlan = codes "vxlan"
text_of_kind kind.Bond = codes "bond"
text_of_kind kind.IpVlan = codes "ipvlan"
text_of_kind kind.IpVtap = codes "ipvtap"
text_of_kind kind.MacVlan = codes "macvlan"
text_of_kind kind.MacVtap = codes "macvtap"
text_of_kind kind.GreTap = codes "gretap"
text_of_kind kind.GreTap6 = codes "ip6gretap"
text_of_kind kind.IpIp = codes "ipip"
text_of_kind kind.Ip6Tnl = codes "ip6tnl"
text_of_kind kind.SitTun = codes "sit"
text_of_kind kind.GreTun = codes "gre"
text_of_kind kind.GreTun6 = codes "ip6gre"
text_of_kind kind.Vti = codes "vti"
text_of_kind kind.Vti6 = codes "vti6"
text_of_kind kind.Vrf = codes "vrf"
text_of_kind kind.Gtp = codes "gtp"
text_of_kind kind.Ipoib = codes "ipoib"
text_of_kind kind.Wireguard = codes "wireguard"
text_of_kind kind.Xfrm = codes "xfrm"
text_of_kind kind.MacSec = codes "macsec"
text_of_kind kind.Hsr = codes "hsr"
text_of_kind kind.Geneve = codes "geneve"
text_of_kind kind.Netkit = codes "netkit"
text_of_kind kind.Vcan = codes "vcan"
text_of_kind kind.Vxcan = codes "vxcan"
text_of_kind kind.Amt = codes "amt"
text_of_kind kind.BatAdv = codes "batadv"
text_of_kind kind.BareUdp = codes "bareudp"
text_of_kind kind.Netdevsim = codes "netdevsim"
text_of_kind kind.VirtWifi = codes "virt_wifi"
text_of_kind kind.Wwan = codes "wwan"
text_of_kind kind.Can = codes "can"
text_of_kind kind.Dsa = codes "dsa"
text_of_kind kind.Team = codes "team"
text_of_kind kind.ErSpan = codes "erspan"
text_of_kind kind.Ip6ErSpan = codes "ip6erspan"
text_of_kind kind.Pfcp = codes "pfcp"
text_of_kind kind.RmNet = codes "rmnet"
-- End: written by tables/generate.
text_of_kind (kind.Other text) = text

-- the tag of each kind, by its variant
abbrev pub tag_of_kind : InfoKind → KindTag
-- Begin: written by tables/generate from tables/kinds (tags).
tag_of_kind kind.Dummy = tag.Dummy
tag_of_kind kind.Ifb = tag.Ifb
tag_of_kind kind.Bridge = tag.Bridge
tag_of_kind kind.Tun = tag.Tun
tag_of_kind kind.Nlmon = tag.Nlmon
tag_of_kind kind.Vlan = tag.Vlan
tag_of_kind kind.Veth = tag.Veth
tag_of_kind kind.Vxlan = tag.Vxlan
tag_of_kind kind.Bond = tag.Bond
tag_of_kind kind.IpVlan = tag.IpVlan
tag_of_kind kind.IpVtap = tag.IpVtap
tag_of_kind kind.MacVlan = tag.MacVlan
tag_of_kind kind.MacVtap = tag.MacVtap
tag_of_kind kind.GreTap = tag.GreTap
tag_of_kind kind.GreTap6 = tag.GreTap6
tag_of_kind kind.IpIp = tag.IpIp
tag_of_kind kind.Ip6Tnl = tag.Ip6Tnl
tag_of_kind kind.SitTun = tag.SitTun
tag_of_kind kind.GreTun = tag.GreTun
tag_of_kind kind.GreTun6 = tag.GreTun6
tag_of_kind kind.Vti = tag.Vti
tag_of_kind kind.Vti6 = tag.Vti6
tag_of_kind kind.Vrf = tag.Vrf
tag_of_kind kind.Gtp = tag.Gtp
tag_of_kind kind.Ipoib = tag.Ipoib
tag_of_kind kind.Wireguard = tag.Wireguard
tag_of_kind kind.Xfrm = tag.Xfrm
tag_of_kind kind.MacSec = tag.MacSec
tag_of_kind kind.Hsr = tag.Hsr
tag_of_kind kind.Geneve = tag.Geneve
tag_of_kind kind.Netkit = tag.Netkit
tag_of_kind kind.Vcan = tag.Vcan
tag_of_kind kind.Vxcan = tag.Vxcan
tag_of_kind kind.Amt = tag.Amt
tag_of_kind kind.BatAdv = tag.BatAdv
tag_of_kind kind.BareUdp = tag.BareUdp
tag_of_kind kind.Netdevsim = tag.Netdevsim
tag_of_kind kind.VirtWifi = tag.VirtWifi
tag_of_kind kind.Wwan = tag.Wwan
tag_of_kind kind.Can = tag.Can
tag_of_kind kind.Dsa = tag.Dsa
tag_of_kind kind.Team = tag.Team
tag_of_kind kind.ErSpan = tag.ErSpan
tag_of_kind kind.Ip6ErSpan = tag.Ip6ErSpan
tag_of_kind kind.Pfcp = tag.Pfcp
tag_of_kind kind.RmNet = tag.RmNet
-- End: written by tables/generate.
tag_of_kind (kind.Other text) = tag.Other

-- the kind of each tag except `Other`
abbrev pub kind_of_tag : KindTag → Option InfoKind
-- Begin: written by tables/generate from tables/kinds (of tags).
kind_of_tag tag.Dummy = Some kind.Dummy
kind_of_tag tag.Ifb = Some kind.Ifb
kind_of_tag tag.Bridge = Some kind.Bridge
kind_of_tag tag.Tun = Some kind.Tun
kind_of_tag tag.Nlmon = Some kind.Nlmon
kind_of_tag tag.Vlan = Some kind.Vlan
kind_of_tag tag.Veth = Some kind.Veth
kind_of_tag tag.Vxlan = Some kind.Vxlan
kind_of_tag tag.Bond = Some kind.Bond
kind_of_tag tag.IpVlan = Some kind.IpVlan
kind_of_tag tag.IpVtap = Some kind.IpVtap
kind_of_tag tag.MacVlan = Some kind.MacVlan
kind_of_tag tag.MacVtap = Some kind.MacVtap
kind_of_tag tag.GreTap = Some kind.GreTap
kind_of_tag tag.GreTap6 = Some kind.GreTap6
kind_of_tag tag.IpIp = Some kind.IpIp
kind_of_tag tag.Ip6Tnl = Some kind.Ip6Tnl
kind_of_tag tag.SitTun = Some kind.SitTun
kind_of_tag tag.GreTun = Some kind.GreTun
kind_of_tag tag.GreTun6 = Some kind.GreTun6
kind_of_tag tag.Vti = Some kind.Vti
kind_of_tag tag.Vti6 = Some kind.Vti6
kind_of_tag tag.Vrf = Some kind.Vrf
kind_of_tag tag.Gtp = Some kind.Gtp
kind_of_tag tag.Ipoib = Some kind.Ipoib
kind_of_tag tag.Wireguard = Some kind.Wireguard
kind_of_tag tag.Xfrm = Some kind.Xfrm
kind_of_tag tag.MacSec = Some kind.MacSec
kind_of_tag tag.Hsr = Some kind.Hsr
kind_of_tag tag.Geneve = Some kind.Geneve
kind_of_tag tag.Netkit = Some kind.Netkit
kind_of_tag tag.Vcan = Some kind.Vcan
kind_of_tag tag.Vxcan = Some kind.Vxcan
kind_of_tag tag.Amt = Some kind.Amt
kind_of_tag tag.BatAdv = Some kind.BatAdv
kind_of_tag tag.BareUdp = Some kind.BareUdp
kind_of_tag tag.Netdevsim = Some kind.Netdevsim
kind_of_tag tag.VirtWifi = Some kind.VirtWifi
kind_of_tag tag.Wwan = Some kind.Wwan
kind_of_tag tag.Can = Some kind.Can
kind_of_tag tag.Dsa = Some kind.Dsa
kind_of_tag tag.Team = Some kind.Team
kind_of_tag tag.ErSpan = Some kind.ErSpan
kind_of_tag tag.Ip6ErSpan = Some kind.Ip6ErSpan
kind_of_tag tag.Pfcp = Some kind.Pfcp
kind_of_tag tag.RmNet = Some kind.RmNet
-- End: written by tables/generate.
kind_of_tag tag.Other = None

-- the kinds with a known name
unfoldable pub known_kinds : List InfoKind
known_kinds =
    -- Begin: written by tables/generate from tables/kinds (known).
    kind.Dummy ∷ kind.Ifb ∷ kind.Bridge ∷ kind.Tun ∷ kind.Nlmon ∷ kind.Vlan ∷ kind.Veth ∷ kind.Vxlan
    ∷ kind.Bond ∷
    kind.IpVlan ∷ kind.IpVtap ∷ kind.MacVlan ∷ kind.MacVtap ∷ kind.GreTap ∷ kind.GreTap6 ∷ kind.IpIp
    ∷ kind.Ip6Tnl ∷
    kind.SitTun ∷ kind.GreTun ∷ kind.GreTun6 ∷ kind.Vti ∷ kind.Vti6 ∷ kind.Vrf ∷ kind.Gtp
    ∷ kind.Ipoib ∷
    kind.Wireguard ∷ kind.Xfrm ∷ kind.MacSec ∷ kind.Hsr ∷ kind.Geneve ∷ kind.Netkit ∷ kind.Vcan
    ∷ kind.Vxcan ∷
    kind.Amt ∷ kind.BatAdv ∷ kind.BareUdp ∷ kind.Netdevsim ∷ kind.VirtWifi ∷ kind.Wwan ∷ kind.Can
    ∷ kind.Dsa ∷
    kind.Team ∷ kind.ErSpan ∷ kind.Ip6ErSpan ∷ kind.Pfcp ∷ kind.RmNet ∷ []
    -- End: written by tables/generate.

abbrev pub kind_table : Table (List ℕ) InfoKind
kind_table = by_name text_of_kind kind.Other known_kinds

abbrev pub kind_tags : Tags KindTag InfoKind
kind_tags = record { tag = tag_of_kind; kind = kind_of_tag }

-- the kind of a name
unfoldable pub kind_of_name : List ℕ → InfoKind
kind_of_name name = value_of kind_table name

-- the tag of a name
unfoldable pub tag_of_name : List ℕ → KindTag
tag_of_name name = tag_at kind_table kind_tags name

pub kind_table_holds : IsTable kind_table
unfolding known_kinds
kind_table_holds = record {
  same_decides = bytes_eq-Decides;
  other_key = λ name. refl;
  found = elim [ kind.Other name ↦ inl refl | _ ↦ inr refl ];
  apart =
      apart_by kind_table (λ k. is_none (kind_of_tag (tag_of_kind k))) (λ name. refl) known_kinds
      refl;
}

pub kind_tags_hold : IsTagged kind_table kind_tags
kind_tags_hold = record {
  tagged = elim [ kind.Other name ↦ inl refl | _ ↦ inr refl ];
  other_untagged = λ name. refl;
}

tagged_choice : (k : InfoKind) → IsOtherOrTagged kind_table kind_tags k →
    ((text : List ℕ) → k ≢ kind.Other text) →
    kind_of_tag (tag_of_kind k) ≡ Some k
tagged_choice k (inl q) named = absurd (named (text_of_kind k) q)
tagged_choice k (inr e) named = e

-- the kind of the tag of a kind that is not `Other` is that kind
pub kind_of_tag-tag_of_kind : (k : InfoKind) → ((text : List ℕ) → k ≢ kind.Other text) →
    kind_of_tag (tag_of_kind k) ≡ Some k
kind_of_tag-tag_of_kind k named = tagged_choice k (kind_tags_hold.tagged k) named

pub only_kind : (got k : InfoKind) → Some got ≡ Some k → got ≡ k
only_kind got k e = ap (λ o. unwrap_or o got) e

pub no_kind : (k : InfoKind) → None ≢ Some k
no_kind k e = let never : true ≡ false = ap is_none e in cc

-- the tag of the kind of a name is the tag of that name
pub tag_of_kind-kind_of_name : (name : List ℕ) → tag_of_kind (kind_of_name name) ≡ tag_of_name name
unfolding kind_of_name tag_of_name
tag_of_kind-kind_of_name name = tag-value_of kind_table kind_tags name

-- the text of the kind of a name is that name
pub text_of_kind-kind_of_name : (name : List ℕ) → text_of_kind (kind_of_name name) ≡ name
unfolding kind_of_name
text_of_kind-kind_of_name name = key-value_of kind_table_holds name

-- the kind of the text of a kind is that kind if and only if it is not `Other` of a known name
pub kind_of_name-text_of_kind : (k : InfoKind) →
    (kind_of_name (text_of_kind k) ≡ k) ↔ IsProper kind_table k
unfolding kind_of_name
kind_of_name-text_of_kind k = value_of-key kind_table_holds k

-- the tag of the text of a kind is the tag of that kind if it is not `Other` of a known name
pub tag_of_name-text_of_kind : (k : InfoKind) → IsProper kind_table k →
    tag_of_name (text_of_kind k) ≡ tag_of_kind k
unfolding tag_of_name
tag_of_name-text_of_kind k proper = tag_at-key kind_table_holds kind_tags k proper

-- the kind of a known name is that of its tag
pub kind_of_name-tagged : (name : List ℕ) (k : InfoKind) → kind_of_tag (tag_of_name name) ≡ Some k →
    kind_of_name name ≡ k
unfolding kind_of_name tag_of_name
kind_of_name-tagged name k e =
    sym (kind-tag_at kind_table_holds kind_tags_hold name)
    ∙ ap (λ o. unwrap_or o (kind.Other name)) e

-- the kind of every other name is `Other` of it
pub kind_of_name-untagged : (name : List ℕ) → kind_of_tag (tag_of_name name) ≡ None →
    kind_of_name name ≡ kind.Other name
unfolding kind_of_name tag_of_name
kind_of_name-untagged name e =
    sym (kind-tag_at kind_table_holds kind_tags_hold name)
    ∙ ap (λ o. unwrap_or o (kind.Other name)) e

-- a known name is UTF-8
known_is_ascii : (k : InfoKind) → tag_of_kind k ≢ tag.Other → is_ascii (text_of_kind k) ≡ true
known_is_ascii = elim [ kind.Other name ↦ λ h. absurd (h refl) | _ ↦ λ h. refl ]

pub tag_of_name-utf8 : (name : List ℕ) → tag_of_name name ≢ tag.Other → is_utf8 name ≡ true
tag_of_name-utf8 name h =
    ap is_utf8 (sym (text_of_kind-kind_of_name name))
    ∙ ascii_is_utf8 _
    (known_is_ascii (kind_of_name name) (λ e. h (sym (tag_of_kind-kind_of_name name) ∙ e)))

-- the known kinds with names of this length
abbrev pub kinds_of_length : ℕ → List InfoKind
kinds_of_length n = filter (λ k. length (text_of_kind k) == n) known_kinds

-- looking a name up among the names of its length is enough
pub tag_of_name-length : (n : ℕ) (name : List ℕ) → length name ≡ n →
    tag_of_name name ≡ tag_among kind_table kind_tags (kinds_of_length n) name
unfolding tag_of_name
tag_of_name-length n name h =
    tag_among-of_length kind_table kind_tags bytes_eq-Decides known_kinds name
    ∙ ap (λ k. tag_among kind_table kind_tags (kinds_of_length k) name) h

known_ascii : list_all (λ k. is_ascii (text_of_kind k)) known_kinds ≡ true
unfolding known_kinds
known_ascii = refl

-- the tag of the first known kind with a name of this length that passes
abbrev pub tag_by : (List ℕ → Bool) → ℕ → KindTag
tag_by test n = part_of_first (λ k. test (text_of_kind k)) tag_of_kind tag.Other (kinds_of_length n)

-- any test that decides equality with the names of its length finds a name
pub tag_of_name-by : (test : List ℕ → Bool) (name : List ℕ) →
    ((text : List ℕ) → length text ≡ length name → IsBytes text → bytes_eq text name ≡ test text) →
    tag_of_name name ≡ tag_by test (length name)
tag_of_name-by test name same =
    tag_of_name-length (length name) name refl
    ∙ part_of_first-alike (λ k. is_ascii (text_of_kind k))
    (λ k. length (text_of_kind k) == length name)
    (λ k. bytes_eq (text_of_kind k) name) (λ k. test (text_of_kind k)) tag_of_kind tag.Other
    (λ k ascii long.
    same (text_of_kind k) ((Decides-eqb (length (text_of_kind k)) (length name)).0 long)
    (ascii_is_bytes (text_of_kind k) ascii))
    known_kinds known_ascii

-- the tag of the name with this length and number
abbrev pub tag_of_number : Width → ℕ → ℕ → KindTag
tag_of_number w n number = tag_by (is_numbered w number) n

-- a name is looked up by the number of its bytes, padded with zeros
pub tag_of_name-number : (w : Width) → TellsBytes w → (n number : ℕ) (name : List ℕ) →
    IsBytes name → length name ≡ n →
    n + (byte_len w - n) ≡ byte_len w →
    number ≡ from_le_bytes w (bytes_from 0 n name ++ replicate (byte_len w - n) 0) →
    tag_of_number w n number ≡ tag_of_name name
tag_of_name-number w tells n number name of_name long fits is =
    let padded : number ≡ number_of_name w name =
    is
    ∙ ap (from_le_bytes w)
    (bytes_from-padded 0 n (byte_len w - n) (byte_len w) name (omega (arith, long)) fits) in
    let found : tag_of_name name ≡ tag_by (is_numbered w (number_of_name w name)) (length name) =
    tag_of_name-by (is_numbered w (number_of_name w name)) name
    (λ text same of_text.
    same-is_numbered w tells name text of_name of_text same (omega (arith, fits, long, same))) in
    rw (← long, padded) (sym found)

-- the tag of the name with this length, this number of the first bytes, and this next byte
abbrev pub tag_of_number_then : Width → ℕ → ℕ → ℕ → KindTag
tag_of_number_then w n number last = tag_by (is_numbered_then w number last) n

-- a name is looked up by the number of its first bytes and the next byte
pub tag_of_name-number_then : (w : Width) → TellsBytes w → (n number last : ℕ) (name : List ℕ) →
    IsBytes name → length name ≡ n →
    n ≤ suc (byte_len w) → number ≡ number_of_name w name → last ≡ slice_index name (byte_len w) →
    tag_of_number_then w n number last ≡ tag_of_name name
tag_of_name-number_then w tells n number last name of_name long fits is ends =
    let found : tag_of_name name
    ≡ tag_by (is_numbered_then w (number_of_name w name) (slice_index name (byte_len w)))
    (length name) =
    tag_of_name-by (is_numbered_then w (number_of_name w name) (slice_index name (byte_len w))) name
    (λ text same of_text.
    same-is_numbered_then w tells name text of_name of_text same
    (omega (arith, fits, long, same))) in
    rw (← long, is, ends) (sym found)

-- the lengths of the known names
abbrev pub name_lengths : List ℕ
name_lengths = 3 ∷ 4 ∷ 5 ∷ 6 ∷ 7 ∷ 9 ∷ []

known_lengths : list_all (λ k. list_any (λ n. n == length (text_of_kind k)) name_lengths)
    known_kinds ≡ true
unfolding known_kinds
known_lengths = refl

-- a name of another length is unknown
pub tag_of_name-other_length : (name : List ℕ) →
    list_any (λ n. n == length name) name_lengths ≡ false →
    tag_of_name name ≡ tag.Other
unfolding tag_of_name
tag_of_name-other_length name h =
    tag_among-other_length kind_table kind_tags bytes_eq-Decides name_lengths known_kinds name
    known_lengths h

-- what an attribute means as a kind: the kind of its name, or the error
abbrev pub kind_meaning : Attribute → Result InfoKind DecodeError
kind_meaning a = meaning_of_name kind_of_name (name_of 1 a)

-- memory is needed for an unknown name
abbrev pub kind_needs_memory : Attribute → Bool
kind_needs_memory a = is_name_that (λ name. is_none (kind_of_tag (tag_of_name name))) (name_of 1 a)

-- the attribute of a kind
abbrev pub kind_attribute : InfoKind → Attribute
kind_attribute k = name_attribute 1 (text_of_kind k)

-- the attribute of a kind reads back as it if and only if it is not `Other` of a known name
pub kind_attribute_reads_back : (k : InfoKind) → is_utf8 (text_of_kind k) ≡ true →
    (kind_meaning (kind_attribute k) ≡ Ok k) ↔ IsProper kind_table k
unfolding kind_of_name
kind_attribute_reads_back k utf8 = name_reads_back kind_table_holds 1 (lit< tt) k utf8

-- a kind read from an attribute is not `Other` of a known name, and its text is UTF-8
pub kind_meaning_is_proper : (a : Attribute) (k : InfoKind) → kind_meaning a ≡ Ok k →
    IsProper kind_table k × (is_utf8 (text_of_kind k) ≡ true)
unfolding kind_of_name
kind_meaning_is_proper a k e = name_meaning_is_proper kind_table_holds 1 a k e
