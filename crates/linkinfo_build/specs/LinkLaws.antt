-- What the attributes of link information mean.
use Rattle.std.specs.Prelude.{◌≡◌, ℕ, List, length, map, Option, Some, None, Ok, IsOk}
use Rattle.std.specs.List.{AllByRecursion}
use Rattle.nla_frame.specs.Attribute.{Attribute, IsBytes}
use Rattle.linkinfo_build.specs.Build.{encoding}
use Rattle.linkinfo_build.specs.Canonical.{IsCanonicalList}
use Rattle.linkinfo_build.specs.Link.{
  attributes_there,
  kind_part,
  link_data_part,
  port_data_part,
  port_kind_part,
}
use Rattle.linkinfo_build.specs.Reading.{IsHeld, entry_of, values_of}
use Rattle.linkinfo_build.specs.declared.forms.DataForm.{DataForm}
use Rattle.linkinfo_build.specs.declared.forms.DataForm.TheVariants as form
use Rattle.linkinfo_build.specs.declared.link.BuildData.{BuildData}
use Rattle.linkinfo_build.specs.declared.link.BuildData.TheVariants as given
use Rattle.linkinfo_build.specs.declared.link.BuildLink.{BuildLink}
use Rattle.linkinfo_build.specs.declared.rows.Rows.{Rows}
use Rattle.linkinfo_build.specs.declared.value.BuildValue.{BuildValue}

-- exactly the attributes of the parts that are there, none of which is refused
pub record HasParts (link : BuildLink) (attributes : List Attribute) : Type 0 where
  pub kind : IsOk (kind_part link)
  pub content : IsOk (link_data_part link)
  pub port_kind : IsOk (port_kind_part link)
  pub port_data : IsOk (port_data_part link)
  pub are : attributes ≡ attributes_there link

-- the canonical encoding of values, which reads back as they are
pub record IsListOfValues (rows : Rows) (values : List BuildValue) (payload : List ℕ) :
    Type 0 where
  pub encoded : encoding rows values ≡ Ok payload
  pub reads_as : values_of rows payload ≡ map entry_of values
  pub canonical : IsCanonicalList rows payload

-- what the payload of data of this form is
abbrev pub IsDataOf : DataForm → BuildData → List ℕ → Type 0
IsDataOf (form.Attributes rows) (given.Values values) payload =
    IsListOfValues rows values.now payload
IsDataOf (form.OneAttribute rows) (given.Values values) payload =
    (length values.now ≡ 1) × IsListOfValues rows values.now payload
IsDataOf form.Bytes (given.Bytes bytes) payload = payload ≡ bytes.now
IsDataOf _ _ payload = ⊥

-- .. of data that is there
abbrev pub IsDataIf : DataForm → Option BuildData → List ℕ → Type 0
IsDataIf f None payload = ⊥
IsDataIf f (Some d) payload = IsDataOf f d payload

-- ---- names and data that a program can hold

abbrev pub IsHeldName : Option (List ℕ) → Type 0
IsHeldName None = Unit {0}
IsHeldName (Some name) = IsBytes name

abbrev pub IsHeldData : Option BuildData → Type 0
IsHeldData None = Unit {0}
IsHeldData (Some (given.Values values)) = AllByRecursion IsHeld values.now
IsHeldData (Some (given.Bytes bytes)) = IsBytes bytes.now
