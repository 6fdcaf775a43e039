-- The names of port kinds.
use Rattle.std.specs.Prelude.{
  ◌≡◌,
  ◌≢◌,
  ℕ,
  true,
  List,
  [],
  ◌∷◌,
  codes,
  Option,
  Some,
  None,
  unwrap_or,
}
use Rattle.std.specs.Prelude.{is_none, ◌↔◌, Bool, Result, Ok, refl}
use Rattle.std.specs.Str.{is_utf8}
use Rattle.std.proofs.Common.{inl, inr, sym, ap, ◌∙◌, lit<}
use Rattle.std.proofs.lemmas.Slice.Eq.{bytes_eq-Decides}
use Rattle.nla_frame.specs.Attribute.{Attribute}
use Rattle.nla_frame.specs.declared.error.DecodeError.{DecodeError}
use Rattle.linkinfo_numbers.specs.declared.tags.PortTag.{PortTag}
use Rattle.linkinfo_numbers.specs.declared.tags.PortTag.TheVariants as tag
use Rattle.linkinfo_numbers.specs.declared.port_kind.InfoPortKind.{InfoPortKind}
use Rattle.linkinfo_numbers.specs.declared.port_kind.InfoPortKind.TheVariants as kind
use Rattle.linkinfo_numbers.specs.Table.{
  Table,
  IsTable,
  by_name,
  value_of,
  IsProper,
  apart_by,
  key-value_of,
  value_of-key,
}
use Rattle.linkinfo_numbers.specs.Kind.{
  known_kinds,
  kind_of_name,
  tag_of_kind,
  tag_of_kind-kind_of_name,
  tag_of_name,
  text_of_kind,
  text_of_kind-kind_of_name,
}
use Rattle.linkinfo_numbers.specs.declared.tags.KindTag.{KindTag}
use Rattle.linkinfo_numbers.specs.declared.tags.KindTag.TheVariants as link
use Rattle.linkinfo_numbers.specs.declared.kind.InfoKind.{InfoKind}
use Rattle.linkinfo_numbers.specs.declared.kind.InfoKind.TheVariants as link_kind
use Rattle.linkinfo_numbers.specs.Name.{name_of, name_attribute}
use Rattle.linkinfo_numbers.specs.NameMeaning.{
  is_name_that,
  meaning_of_name,
  name_meaning_is_proper,
  name_reads_back,
}
use Rattle.linkinfo_numbers.specs.Tags.{
  Tags,
  IsTagged,
  ascii_is_utf8,
  is_ascii,
  tag_at,
  tag-value_of,
  kind-tag_at,
  tag_at-key,
}

-- the text of each kind
abbrev pub text_of_port_kind : InfoPortKind → List ℕ
-- Begin: written by tables/generate from tables/ports (texts).
text_of_port_kind kind.Bond = codes "bond"
text_of_port_kind kind.Bridge = codes "bridge"
text_of_port_kind kind.Vrf = codes "vrf"
text_of_port_kind kind.Team = codes "team"
-- End: written by tables/generate.
text_of_port_kind (kind.Other text) = text

-- the tag of each kind, by its variant
abbrev pub tag_of_port_kind : InfoPortKind → PortTag
-- Begin: written by tables/generate from tables/ports (tags).
tag_of_port_kind kind.Bond = tag.Bond
tag_of_port_kind kind.Bridge = tag.Bridge
tag_of_port_kind kind.Vrf = tag.Vrf
tag_of_port_kind kind.Team = tag.Team
-- End: written by tables/generate.
tag_of_port_kind (kind.Other text) = tag.Other

-- the kind of each tag except `Other`
abbrev pub port_kind_of_tag : PortTag → Option InfoPortKind
-- Begin: written by tables/generate from tables/ports (of tags).
port_kind_of_tag tag.Bond = Some kind.Bond
port_kind_of_tag tag.Bridge = Some kind.Bridge
port_kind_of_tag tag.Vrf = Some kind.Vrf
port_kind_of_tag tag.Team = Some kind.Team
-- End: written by tables/generate.
port_kind_of_tag tag.Other = None

-- the kinds with a known name
unfoldable pub known_port_kinds : List InfoPortKind
known_port_kinds =
    -- Begin: written by tables/generate from tables/ports (known).
    kind.Bond ∷ kind.Bridge ∷ kind.Vrf ∷ kind.Team ∷ []
    -- End: written by tables/generate.

abbrev pub port_kind_table : Table (List ℕ) InfoPortKind
port_kind_table = by_name text_of_port_kind kind.Other known_port_kinds

abbrev pub port_kind_tags : Tags PortTag InfoPortKind
port_kind_tags = record { tag = tag_of_port_kind; kind = port_kind_of_tag }

-- the kind of a name
unfoldable pub port_kind_of_name : List ℕ → InfoPortKind
port_kind_of_name name = value_of port_kind_table name

-- the tag of a name
unfoldable pub port_tag_of_name : List ℕ → PortTag
port_tag_of_name name = tag_at port_kind_table port_kind_tags name

pub port_kind_table_holds : IsTable port_kind_table
unfolding known_port_kinds
port_kind_table_holds = record {
  same_decides = bytes_eq-Decides;
  other_key = λ name. refl;
  found = elim [ kind.Other name ↦ inl refl | _ ↦ inr refl ];
  apart =
      apart_by port_kind_table (λ k. is_none (port_kind_of_tag (tag_of_port_kind k))) (λ name. refl)
      known_port_kinds refl;
}

pub port_kind_tags_hold : IsTagged port_kind_table port_kind_tags
port_kind_tags_hold = record {
  tagged = elim [ kind.Other name ↦ inl refl | _ ↦ inr refl ];
  other_untagged = λ name. refl;
}

-- the tag of the kind of a name is the tag of that name
pub tag_of_port_kind-port_kind_of_name : (name : List ℕ) →
    tag_of_port_kind (port_kind_of_name name) ≡ port_tag_of_name name
unfolding port_kind_of_name port_tag_of_name
tag_of_port_kind-port_kind_of_name name = tag-value_of port_kind_table port_kind_tags name

-- the text of the kind of a name is that name
pub text_of_port_kind-port_kind_of_name : (name : List ℕ) →
    text_of_port_kind (port_kind_of_name name) ≡ name
unfolding port_kind_of_name
text_of_port_kind-port_kind_of_name name = key-value_of port_kind_table_holds name

-- a known name is UTF-8
known_is_ascii : (k : InfoPortKind) → tag_of_port_kind k ≢ tag.Other →
    is_ascii (text_of_port_kind k) ≡ true
known_is_ascii = elim [ kind.Other name ↦ λ h. absurd (h refl) | _ ↦ λ h. refl ]

pub port_tag_of_name-utf8 : (name : List ℕ) → port_tag_of_name name ≢ tag.Other →
    is_utf8 name ≡ true
port_tag_of_name-utf8 name h =
    ap is_utf8 (sym (text_of_port_kind-port_kind_of_name name))
    ∙ ascii_is_utf8 _ (known_is_ascii (port_kind_of_name name)
    (λ e. h (sym (tag_of_port_kind-port_kind_of_name name) ∙ e)))

-- the kind of the text of a kind is that kind if and only if it is not `Other` of a known name
pub port_kind_of_name-text_of_port_kind : (k : InfoPortKind) →
    (port_kind_of_name (text_of_port_kind k) ≡ k) ↔ IsProper port_kind_table k
unfolding port_kind_of_name
port_kind_of_name-text_of_port_kind k = value_of-key port_kind_table_holds k

-- the tag of the text of a kind is the tag of that kind if it is not `Other` of a known name
pub port_tag_of_name-text_of_port_kind : (k : InfoPortKind) → IsProper port_kind_table k →
    port_tag_of_name (text_of_port_kind k) ≡ tag_of_port_kind k
unfolding port_tag_of_name
port_tag_of_name-text_of_port_kind k proper =
    tag_at-key port_kind_table_holds port_kind_tags k proper

-- the kind of a known name is that of its tag
pub port_kind_of_name-tagged : (name : List ℕ) (k : InfoPortKind) →
    port_kind_of_tag (port_tag_of_name name) ≡ Some k →
    port_kind_of_name name ≡ k
unfolding port_kind_of_name port_tag_of_name
port_kind_of_name-tagged name k e =
    sym (kind-tag_at port_kind_table_holds port_kind_tags_hold name)
    ∙ ap (λ o. unwrap_or o (kind.Other name)) e

-- the kind of every other name is `Other` of it
pub port_kind_of_name-untagged : (name : List ℕ) → port_kind_of_tag (port_tag_of_name name) ≡ None →
    port_kind_of_name name ≡ kind.Other name
unfolding port_kind_of_name port_tag_of_name
port_kind_of_name-untagged name e =
    sym (kind-tag_at port_kind_table_holds port_kind_tags_hold name)
    ∙ ap (λ o. unwrap_or o (kind.Other name)) e

-- what an attribute means as a port kind: the kind of its name, or the error
abbrev pub port_kind_meaning : Attribute → Result InfoPortKind DecodeError
port_kind_meaning a = meaning_of_name port_kind_of_name (name_of 4 a)

-- memory is needed for an unknown name
abbrev pub port_kind_needs_memory : Attribute → Bool
port_kind_needs_memory a =
    is_name_that (λ name. is_none (port_kind_of_tag (port_tag_of_name name))) (name_of 4 a)

-- the attribute of a port kind
abbrev pub port_kind_attribute : InfoPortKind → Attribute
port_kind_attribute k = name_attribute 4 (text_of_port_kind k)

-- the attribute of a kind reads back as it if and only if it is not `Other` of a known name
pub port_kind_attribute_reads_back : (k : InfoPortKind) → is_utf8 (text_of_port_kind k) ≡ true →
    (port_kind_meaning (port_kind_attribute k) ≡ Ok k) ↔ IsProper port_kind_table k
unfolding port_kind_of_name
port_kind_attribute_reads_back k utf8 = name_reads_back port_kind_table_holds 4 (lit< tt) k utf8

-- a kind read from an attribute is not `Other` of a known name, and its text is UTF-8
pub port_kind_meaning_is_proper : (a : Attribute) (k : InfoPortKind) → port_kind_meaning a ≡ Ok k →
    IsProper port_kind_table k × (is_utf8 (text_of_port_kind k) ≡ true)
unfolding port_kind_of_name
port_kind_meaning_is_proper a k e = name_meaning_is_proper port_kind_table_holds 4 a k e

-- ---- the names of port kinds are names of link kinds

-- the port tag of a name that has this tag as a link kind
abbrev pub port_tag_of_tag : KindTag → PortTag
-- Begin: written by tables/generate from tables/ports (of kinds).
port_tag_of_tag link.Bond = tag.Bond
port_tag_of_tag link.Bridge = tag.Bridge
port_tag_of_tag link.Vrf = tag.Vrf
port_tag_of_tag link.Team = tag.Team
-- End: written by tables/generate.
port_tag_of_tag _ = tag.Other

other_where_untagged : (k : InfoPortKind) → tag_of_name (text_of_port_kind k) ≡ link.Other →
    tag.Other ≡ tag_of_port_kind k
unfolding tag_of_name known_kinds
other_where_untagged = elim [ kind.Other name ↦ λ e. refl | _ ↦ λ e. cc ]

other_port_tag : (name : List ℕ) → tag_of_name name ≡ link.Other → tag.Other ≡ port_tag_of_name name
other_port_tag name e =
    other_where_untagged (port_kind_of_name name)
    (ap tag_of_name (text_of_port_kind-port_kind_of_name name) ∙ e)
    ∙ tag_of_port_kind-port_kind_of_name name

port_tag_of_kind : (k : InfoKind) → tag_of_name (text_of_kind k) ≡ tag_of_kind k →
    port_tag_of_tag (tag_of_kind k) ≡ port_tag_of_name (text_of_kind k)
unfolding known_port_kinds port_tag_of_name
port_tag_of_kind = elim [ link_kind.Other name ↦ other_port_tag name | _ ↦ λ e. refl ]

-- the port tag of a name follows from its tag as a link kind
pub port_tag_of_name-tag : (name : List ℕ) (t : KindTag) → t ≡ tag_of_name name →
    port_tag_of_tag t ≡ port_tag_of_name name
port_tag_of_name-tag name t is =
    let text : text_of_kind (kind_of_name name) ≡ name = text_of_kind-kind_of_name name in
    let has : tag_of_kind (kind_of_name name) ≡ tag_of_name name = tag_of_kind-kind_of_name name in
    ap port_tag_of_tag (is ∙ sym has)
    ∙ (port_tag_of_kind (kind_of_name name) (ap tag_of_name text ∙ sym has)
    ∙ ap port_tag_of_name text)

-- the tag of no port kind
pub port_tag_of_other_tag : (t : KindTag) → t ≢ link.Bond → t ≢ link.Bridge → t ≢ link.Vrf →
    t ≢ link.Team →
    tag.Other ≡ port_tag_of_tag t
port_tag_of_other_tag = elim [
  | link.Bond ↦ λ bond bridge vrf team. absurd (bond refl)
  | link.Bridge ↦ λ bond bridge vrf team. absurd (bridge refl)
  | link.Vrf ↦ λ bond bridge vrf team. absurd (vrf refl)
  | link.Team ↦ λ bond bridge vrf team. absurd (team refl)
  | _ ↦ λ bond bridge vrf team. refl
]
