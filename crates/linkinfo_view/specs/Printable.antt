-- JSON data whose texts are printable ASCII.
use Rattle.std.specs.List.{AllPass}
use Rattle.serde_json.specs.Data.{
  Data,
  Items,
  Members,
  array,
  boolean,
  item,
  member,
  no_items,
  no_members,
  null,
  number,
  object,
  string,
}
use Rattle.linkinfo_view.specs.Text.{is_printable}

-- each string is, and each name of a member
abbrev mutual
  pub IsPrintable : Data → Type 0
  IsPrintable null = Unit {0}
  IsPrintable (boolean b) = Unit {0}
  IsPrintable (number n) = Unit {0}
  IsPrintable (string s) = AllPass is_printable s
  IsPrintable (array ds) = ItemsArePrintable ds
  IsPrintable (object ms) = MembersArePrintable ms

  pub ItemsArePrintable : Items → Type 0
  ItemsArePrintable no_items = Unit {0}
  ItemsArePrintable (item d ds) = IsPrintable d × ItemsArePrintable ds

  pub MembersArePrintable : Members → Type 0
  MembersArePrintable no_members = Unit {0}
  MembersArePrintable (member name d ms) =
      AllPass is_printable name × IsPrintable d × MembersArePrintable ms
