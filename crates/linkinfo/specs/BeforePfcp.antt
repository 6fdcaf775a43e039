-- The list as it was parsed before `pfcp` had a family: its data was kept as bytes.
use Rattle.std.specs.Prelude.{ℕ, Bool, true, false, if◌then◌else◌, List, Result}
use Rattle.nla_frame.specs.Attribute.{Attribute}
use Rattle.nla_frame.specs.NlaItems.{nla_items}
use Rattle.nla_frame.specs.declared.error.DecodeError.{DecodeError}
use Rattle.nla_frame.specs.declared.error.Family.TheVariants as family
use Rattle.linkinfo_numbers.specs.declared.tags.KindTag.{KindTag}
use Rattle.linkinfo_numbers.specs.declared.tags.KindTag.TheVariants as tag
use Rattle.linkinfo_data.specs.Data.{family_of}
use Rattle.linkinfo_data.specs.DataFamilies.{DataFamilies, DataTypes}
use Rattle.linkinfo_data.specs.declared.data.DataFamily.{DataFamily}
use Rattle.linkinfo_data.specs.declared.data.DataFamily.TheVariants as of
use Rattle.linkinfo_table.specs.Lists.{values_under, alike_under}
use Rattle.linkinfo_table.specs.Rows.{Row, row_alike, row_meaning}
use Rattle.linkinfo.specs.Items.{data_row, link_other, link_row}
use Rattle.linkinfo.specs.Roles.{no_kinds, role_at}
use Rattle.linkinfo.specs.Elsewhere.{NoneHas}
use Rattle.linkinfo.specs.Strings.{next_kinds}
use Rattle.linkinfo.specs.Layered.{LinkOf}
use Rattle.linkinfo.specs.declared.role.CurrentKinds.{CurrentKinds}
use Rattle.linkinfo.specs.declared.role.Role.{Role}
use Rattle.linkinfo.specs.declared.role.Role.TheVariants as role

abbrev pub is_pfcp : KindTag → Bool
is_pfcp tag.Pfcp = true
is_pfcp _ = false

-- the family of a kind's data: none for `pfcp`
abbrev pub family_before : KindTag → DataFamily
family_before t = if is_pfcp t then of.Raw else family_of t

-- the rows of the list, of which those of data alone differ
abbrev pub row_before : {L : DataTypes} → DataFamilies L → Role → Row (LinkOf L)
row_before layer (role.Data t) = data_row layer (family_before t)
row_before layer r = link_row layer r

abbrev pub meaning_before : {L : DataTypes} → DataFamilies L → CurrentKinds → Attribute →
    Result (LinkOf L) DecodeError
meaning_before layer t a =
    row_meaning family.LinkInfo link_other (row_before layer (role_at t a)) a

abbrev pub alike_before : {L : DataTypes} → DataFamilies L → CurrentKinds → Attribute → Attribute →
    Bool
alike_before layer t a b = row_alike (row_before layer (role_at t a)) a b

-- what a whole byte string meant, and whether two were equivalent
unfoldable pub reading_before : {L : DataTypes} → DataFamilies L → List ℕ →
    Result (List (LinkOf L)) DecodeError
reading_before layer s =
    values_under (meaning_before layer) next_kinds no_kinds (nla_items s)

unfoldable pub alike_strings_before : {L : DataTypes} → DataFamilies L → List ℕ → List ℕ → Bool
alike_strings_before layer a b =
    alike_under (alike_before layer) next_kinds no_kinds (nla_items a) (nla_items b)

-- data under `pfcp`
abbrev pub is_pfcp_data : Role → Bool
is_pfcp_data (role.Data t) = is_pfcp t
is_pfcp_data _ = false

-- the byte string has no data under `pfcp`
unfoldable pub HasNoPfcpData : List ℕ → Type 0
HasNoPfcpData s = NoneHas is_pfcp_data no_kinds (nla_items s)
