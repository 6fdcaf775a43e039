use Rattle.std.proofs.Common.{length, ◌-◌, ◌≡◌, ◌≤◌, ◌+◌, ◌*◌, drop}
use Rattle.linkinfo_build.specs.Build.{
  after,
  attributes_up_to,
  attributes_with,
  list_up_to,
  measured_list,
}
use Rattle.linkinfo_build.proofs.Listing.{adding}
use Rattle.linkinfo_build.proofs.measure.+measure.Given as goal

abbrev pub decreases-inside_len : goal.decreases-inside_len
decreases-inside_len l = 3 * l.depth

abbrev pub decreases-list_len : goal.decreases-list_len
decreases-list_len l = 3 * l.depth + 2

abbrev pub decreases-payload_len : goal.decreases-payload_len
decreases-payload_len l = 3 * l.depth + 1

abbrev pub invariant-list_len-loop-at : goal.invariant-list_len-loop-at
invariant-list_len-loop-at l = record {
  so_far : measured_list (attributes_up_to l.depth l.rows l.values)
      ≡ after l.at
      (adding l.total
      (measured_list
      (attributes_with (list_up_to l.depth) l.rows l.total 0 (drop l.at l.values))));
  within : l.at ≤ length l.values;
  short : l.total ≤ 65531;
}

abbrev pub decreases-list_len-loop-at : goal.decreases-list_len-loop-at
decreases-list_len-loop-at l = length l.values - l.at
