use Rattle.std.proofs.Common.{◌≡◌, ◌+◌, option_copied}
use Rattle.std.specs.Option.{option_or}
use Rattle.nla_frame.specs.NlaItems.{nla_items, headers_in}
use Rattle.nla_frame.specs.Walk.{unread, headers_left}
use Rattle.linkinfo_messages.specs.Links.{located, damaged_at, name_in, name_place_in, info_in}
use Rattle.linkinfo_messages.specs.Slices.{AreSlices}
use Rattle.linkinfo_messages.specs.Views.{info_seen}
use Rattle.linkinfo_messages.proofs.attributes.attributes_of.Given as goal

-- the last attribute of a type is the last of those left, or else the last of those before
abbrev pub invariant-loop-item : goal.invariant-loop-item
invariant-loop-item l = record {
  can_next : (goal.iterator-loop-item).can_next l.nlas;
  is_finite : (goal.iterator-loop-item).is_finite l.nlas;
  source : l.nlas.source ≡ l.bytes;
  place : l.place ≡ l.start + l.nlas.place;
  damaged : damaged_at l.place (nla_items (unread l.nlas)) ≡ damaged_at l.start (nla_items l.bytes);
  name : option_or (name_in (located l.place (nla_items (unread l.nlas))))
      (option_copied l.attributes.name)
      ≡ name_in (located l.start (nla_items l.bytes));
  name_place : option_or (name_place_in (located l.place (nla_items (unread l.nlas))))
      l.attributes.name_place
      ≡ name_place_in (located l.start (nla_items l.bytes));
  info : option_or (info_in (located l.place (nla_items (unread l.nlas))))
      (info_seen l.attributes.info)
      ≡ info_in (located l.start (nla_items l.bytes));
  slices : AreSlices (option_copied l.attributes.name) l.attributes.name_place
      (info_seen l.attributes.info) l.bytes l.start;
  examined : l.examined ≡ l.fn.examined;
  counted : l.nlas.examined + headers_left l.nlas ≡ headers_in (nla_items l.bytes);
}
