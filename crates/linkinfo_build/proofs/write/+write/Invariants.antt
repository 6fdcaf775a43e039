use Rattle.std.proofs.Common.{length, ◌-◌, ◌≤◌, IsOk, ◌+◌, ◌*◌, drop}
use Rattle.nla_frame.specs.Attribute.{list_string}
use Rattle.nla_frame.proofs.Emitting.{Written}
use Rattle.linkinfo_build.specs.Build.{
  attributes_up_to,
  attributes_with,
  bytes_in,
  list_up_to,
  map_ok,
}
use Rattle.linkinfo_build.proofs.write.+write.Given as goal

abbrev pub decreases-write_inside : goal.decreases-write_inside
decreases-write_inside l = 4 * l.depth

abbrev pub decreases-write_list : goal.decreases-write_list
decreases-write_list l = 4 * l.depth + 3

abbrev pub decreases-write_payload : goal.decreases-write_payload
decreases-write_payload l = 4 * l.depth + 1

abbrev pub decreases-write_value : goal.decreases-write_value
decreases-write_value l = 4 * l.depth + 2

abbrev pub invariant-write_list-loop-at : goal.invariant-write_list-loop-at
invariant-write_list-loop-at l =
    let left = attributes_with (list_up_to l.depth) l.rows l.place 0 (drop l.at l.values) in
    record {
      fits : IsOk left;
      within : l.at ≤ length l.values;
      so_far : Written
          (bytes_in (map_ok list_string (attributes_up_to l.depth l.rows l.values)))
          (bytes_in (map_ok list_string left)) l.place l.fn.buffer l.buffer;
    }

abbrev pub decreases-write_list-loop-at : goal.decreases-write_list-loop-at
decreases-write_list-loop-at l = length l.values - l.at
