use Rattle.std.proofs.Common.{◌≡◌, ◌*◌, ◌+◌, ◌-◌, ◌≤◌, ℕ, length, get_or, true, None}
use Rattle.linkinfo_table.specs.Last.{attributes_of, covers, last_of_type, offset_of}
use Rattle.linkinfo_table.proofs.Lasts.{last_from}
use Rattle.linkinfo_table.proofs.last.LastOfType.new.Given as goal

abbrev pub invariant-loop-nla : goal.invariant-loop-nla
invariant-loop-nla l = record {
  entries : length l.offsets ≡ 64;
  last : (kind : ℕ) → covers l.first kind ≡ true →
      last_from (get_or l.offsets (kind - l.first) None) kind l.source l.rest
      ≡ offset_of (last_of_type kind (attributes_of l.source));
  room : 4 * l.count + length l.rest ≤ length l.source;
}

abbrev pub decreases-loop-nla : goal.decreases-loop-nla
decreases-loop-nla l = length l.rest
