use Rattle.std.proofs.Common.{◌≡◌, ◌*◌, ◌+◌, ◌≤◌, max, length}
use Rattle.linkinfo_table.specs.Last.{attributes_of, types_end}
use Rattle.linkinfo_table.proofs.Lasts.{left_of}
use Rattle.linkinfo_table.proofs.last.types_end.Given as goal

abbrev pub invariant-loop-nla : goal.invariant-loop-nla
invariant-loop-nla l = record {
  end : max l.end (types_end (left_of l.source l.rest)) ≡ types_end (attributes_of l.source);
  small : l.end ≤ 16384;
  room : 4 * l.count + length l.rest ≤ length l.source;
}

abbrev pub decreases-loop-nla : goal.decreases-loop-nla
decreases-loop-nla l = length l.rest
