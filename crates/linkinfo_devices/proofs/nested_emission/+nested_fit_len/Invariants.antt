use Rattle.std.proofs.Common.{◌≡◌, ◌+◌, ◌*◌, ◌≤◌, drop, length, map}
use Rattle.nla_frame.specs.Attribute.{list_string}
use Rattle.linkinfo_devices.proofs.nested_emission.+nested_fit_len.Given as goal

abbrev pub invariant-nested_list_fit_len-loop-item : goal.invariant-nested_list_fit_len-loop-item
invariant-nested_list_fit_len-loop-item g l =
    let f = g.F.RowFamily.canonical in
    record {
      total : l.total + length (list_string (map f (drop l.item-index l.items)))
          ≡ length (list_string (map f l.items));
      small : l.total ≤ 65531;
    }

abbrev pub decreases-nested_fit_len : goal.decreases-nested_fit_len
decreases-nested_fit_len g l = 2 * length (g.F.RowFamily.canonical l.value.now).value + 1

abbrev pub decreases-nested_list_fit_len : goal.decreases-nested_list_fit_len
decreases-nested_list_fit_len g l =
    2 * length (list_string (map g.F.RowFamily.canonical l.items.now))
