-- Which attribute of a list of link info another list does not meet.
use Rattle.std.specs.Prelude.{
  ℕ,
  ◌==◌,
  nat_lt,
  Bool,
  true,
  if◌then◌else◌,
  List,
  [],
  ◌∷◌,
  Option,
  None,
  Some,
}
use Rattle.std.specs.Prelude.{Result, Ok, Err}
use Rattle.std.specs.Option.{option_copied, option_eq, option_map}
use Rattle.std.specs.Str.{bytes_eq}
use Rattle.nla_frame.specs.Attribute.{Attribute, masked}
use Rattle.nla_frame.specs.Payload.{stripped}
use Rattle.nla_frame.specs.declared.error.DecodeError.{DecodeError}
use Rattle.nla_frame.specs.declared.error.Family.TheVariants as family
use Rattle.linkinfo_numbers.specs.Kind.{tag_of_name}
use Rattle.linkinfo_numbers.specs.PortKind.{port_tag_of_name}
use Rattle.linkinfo_table.specs.Contents.{Contents, ListOf, NoList}
use Rattle.linkinfo_table.specs.Last.{attributes_of}
use Rattle.linkinfo_table.specs.Rows.{row_alike}
use Rattle.linkinfo_table.specs.declared.last.PlacedNla.{PlacedNla}
use Rattle.linkinfo_data.specs.Data.{family_of}
use Rattle.linkinfo_data.specs.DataFamilies.{DataFamilies, DataTypes}
use Rattle.linkinfo_data.specs.Payloads.{Payload}
use Rattle.linkinfo_data.specs.PortData.{port_family_of}
use Rattle.linkinfo_table.specs.Unmet.{
  inner_unmet,
  item_unmet,
  lasts_unmet,
  list_unmet,
  meets,
  whole_unmet,
}
use Rattle.linkinfo_table.specs.declared.unmet.Unmet.{Unmet}
use Rattle.linkinfo.specs.Items.{link_row}
use Rattle.linkinfo.specs.Roles.{role_of}
use Rattle.linkinfo.specs.declared.placed.ErrorIn.TheVariants.{First, Second}
use Rattle.linkinfo.specs.declared.placed.ErrorIn.{ErrorIn}
use Rattle.linkinfo.specs.declared.role.CurrentKinds.{CurrentKinds}
use Rattle.linkinfo.specs.declared.role.Role.TheVariants as role
use Rattle.linkinfo.specs.declared.role.Role.{Role}
use Rattle.linkinfo.specs.declared.request.Names as declared_names

-- ---- attributes with the names of the current kinds

-- the names of the current kind and of the current port kind
pub record Named : Type 0 where
  pub kind : Option (List ℕ)
  pub port : Option (List ℕ)

abbrev pub no_names : Named
no_names = record { kind = None; port = None }

-- a name is current from its attribute on; port data uses that of the port kind up
abbrev pub names_after : Named → Attribute → Named
names_after names a = record {
  kind = if masked a.kind == 1 then Some (stripped a.value) else names.kind;
  port =
      if masked a.kind == 4 then Some (stripped a.value)
      else if masked a.kind == 5 then None
      else names.port;
}

-- the kinds of these names
abbrev pub kinds_named : Named → CurrentKinds
kinds_named names = record {
  kind = option_map tag_of_name names.kind;
  port = option_map port_tag_of_name names.port;
}

-- the names that are current at an offset: those after the attributes before it
abbrev pub names_before : ℕ → Named → List PlacedNla → Named
names_before n names [] = names
names_before n names (p ∷ more) =
    names_before n (if nat_lt p.offset n then names_after names p.nla else names) more

-- an attribute of the list, and the names that are current before it
pub record Linked : Type 0 where
  pub at : PlacedNla
  pub named : Named

abbrev pub link_at : List ℕ → PlacedNla → Linked
link_at s p = record { at = p; named = names_before p.offset no_names (attributes_of s) }

abbrev pub role_of_link : Linked → Role
role_of_link link = role_of (kinds_named link.named) (masked link.at.nla.kind)

-- ---- what is met

-- what data, statistics and port data belong to has the same name
abbrev pub same_kind : Role → Named → Named → Bool
same_kind (role.Data tag) m n = option_eq bytes_eq m.kind n.kind
same_kind role.Xstats m n = option_eq bytes_eq m.kind n.kind
same_kind (role.PortData tag) m n = option_eq bytes_eq m.port n.port
same_kind _ m n = true

-- of two attributes of one type and kind: the whole, where the payloads differ and are not
-- equivalent, ..
abbrev pub whole_item_unmet : (Attribute → Attribute → Bool) → PlacedNla → PlacedNla → Option Unmet
whole_item_unmet alike have want =
    item_unmet family.LinkInfo (meets alike have.nla want.nla) have want

-- .. or an attribute in the payload, where it is a list
abbrev pub contents_unmet : Contents → Bool → PlacedNla → PlacedNla → Option Unmet
contents_unmet (NoList place count) met have want = item_unmet family.LinkInfo met have want
contents_unmet (ListOf l inside) met have want =
    option_map (inner_unmet want have) (list_unmet l inside have.nla.value want.nla.value)

abbrev pub data_unmet : {X : Type 0} → Payload X → PlacedNla → PlacedNla → Option Unmet
data_unmet payload have want =
    contents_unmet payload.contents
    (meets (λ a b. payload.alike a.value b.value) have.nla want.nla) have want

abbrev pub role_unmet : {L : DataTypes} → DataFamilies L → Role → PlacedNla → PlacedNla →
    Option Unmet
role_unmet layer (role.Data tag) have want =
    data_unmet (layer.data_of (family_of tag)) have want
role_unmet layer (role.PortData tag) have want =
    data_unmet (layer.port_data_of (port_family_of tag)) have want
role_unmet layer r have want = whole_item_unmet (row_alike (link_row layer r)) have want

abbrev pub link_unmet : {L : DataTypes} → DataFamilies L → Option Linked → Linked → Option Unmet
link_unmet layer None want = Some (whole_unmet family.LinkInfo want.at None)
link_unmet layer (Some have) want =
    if same_kind (role_of_link want) have.named want.named
    then role_unmet layer (role_of_link want) have.at want.at
    else Some (whole_unmet family.LinkInfo want.at (Some have.at))

-- of an attribute of one list by one of another list, or none, each with the names before it
abbrev pub linked_unmet : {L : DataTypes} → DataFamilies L → List ℕ → List ℕ → Option PlacedNla →
    PlacedNla → Option Unmet
linked_unmet layer have want found p =
    link_unmet layer (option_map (link_at have) found) (link_at want p)

-- .. the first, of the attributes that count, by the last one of its type in the other list
abbrev pub strings_unmet : {L : DataTypes} → DataFamilies L → List ℕ → List ℕ → Option Unmet
strings_unmet layer have want =
    lasts_unmet (linked_unmet layer have want) (attributes_of have) (attributes_of want)

-- the error of the first string, else that of the second, else what is not met
abbrev pub unmet_answer : {X : Type 0} → Result X DecodeError → Result X DecodeError →
    Option Unmet → Result (Option Unmet) ErrorIn
unmet_answer (Err e) want unmet = Err (First e)
unmet_answer (Ok x) (Err e) unmet = Err (Second e)
unmet_answer (Ok x) (Ok y) unmet = Ok unmet

-- ---- as the program holds them

abbrev pub names_in : declared_names.Names → Named
names_in names = record { kind = option_copied names.kind; port = option_copied names.port }
