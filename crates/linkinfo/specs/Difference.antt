-- The first pair of attributes in which two lists of link info differ.
use Rattle.std.specs.Prelude.{ℕ, List, Option}
use Rattle.nla_frame.specs.declared.error.Family.TheVariants as family
use Rattle.linkinfo_table.specs.Last.{attributes_of}
use Rattle.linkinfo_table.specs.Rows.{row_alike}
use Rattle.linkinfo_table.specs.declared.last.PlacedNla.{PlacedNla}
use Rattle.linkinfo_data.specs.Data.{family_of}
use Rattle.linkinfo_table.specs.Difference.{
  pair_difference,
  pairs_difference,
  payload_difference,
  typed_difference,
}
use Rattle.linkinfo_data.specs.DataFamilies.{DataFamilies, DataTypes}
use Rattle.linkinfo_data.specs.Payloads.{Payload}
use Rattle.linkinfo_data.specs.PortData.{port_family_of}
use Rattle.linkinfo_table.specs.declared.difference.Difference.{Difference}
use Rattle.linkinfo.specs.Items.{link_row}
use Rattle.linkinfo.specs.Roles.{no_kinds, role_at}
use Rattle.linkinfo.specs.Strings.{next_kinds}
use Rattle.linkinfo.specs.declared.role.CurrentKinds.{CurrentKinds}
use Rattle.linkinfo.specs.declared.role.Role.TheVariants as role
use Rattle.linkinfo.specs.declared.role.Role.{Role}

-- the difference of two attributes with data: in their payloads if these are lists, otherwise of
-- the attributes as a whole
abbrev pub data_difference : {X : Type 0} → Payload X → PlacedNla → PlacedNla → Option Difference
data_difference payload p q =
    payload_difference payload.contents family.LinkInfo (payload.alike p.nla.value q.nla.value) p q

-- the difference of two attributes of one type, by the role of the first
abbrev pub role_difference : {L : DataTypes} → DataFamilies L → Role → PlacedNla → PlacedNla →
    Option Difference
role_difference layer (role.Data tag) p q =
    data_difference (layer.data_of (family_of tag)) p q
role_difference layer (role.PortData tag) p q =
    data_difference (layer.port_data_of (port_family_of tag)) p q
role_difference layer r p q =
    pair_difference family.LinkInfo (row_alike (link_row layer r) p.nla q.nla) p q

-- the difference of two attributes, under the current kinds before the first
abbrev pub link_difference : {L : DataTypes} → DataFamilies L → CurrentKinds → PlacedNla →
    PlacedNla → Option Difference
link_difference layer t p q =
    typed_difference family.LinkInfo (role_difference layer (role_at t p.nla)) p q

-- the difference of two byte strings: that of the first pair that has one, or the end of one of
-- them before the other
abbrev pub strings_difference : {L : DataTypes} → DataFamilies L → List ℕ → List ℕ →
    Option Difference
strings_difference layer a b =
    pairs_difference family.LinkInfo (link_difference layer) next_kinds no_kinds
    (attributes_of a) (attributes_of b)
