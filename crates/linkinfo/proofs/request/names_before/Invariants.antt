use Rattle.std.specs.Prelude.{IfSome}
use Rattle.std.specs.List.{AllByRecursion}
use Rattle.std.proofs.Common.{◌≡◌, ◌*◌, ◌+◌, ◌≤◌, length}
use Rattle.linkinfo_table.specs.Last.{StandsIn, attributes_of}
use Rattle.linkinfo_table.proofs.Lasts.{left_of}
use Rattle.linkinfo.specs.Unmet.{names_before, no_names}
use Rattle.linkinfo.specs.UnmetSteps.{HasAttribute}
use Rattle.linkinfo.proofs.Unmets.{named_at}
use Rattle.linkinfo.proofs.request.names_before.Given as goal

abbrev pub invariant-loop-nla : goal.invariant-loop-nla
invariant-loop-nla l = record {
  left : names_before l.offset (named_at l.bytes l.kind l.port) (left_of l.bytes l.rest)
      ≡ names_before l.offset no_names (attributes_of l.bytes);
  stand : AllByRecursion (StandsIn l.bytes) (left_of l.bytes l.rest);
  kind : IfSome l.kind (HasAttribute l.bytes);
  port : IfSome l.port (HasAttribute l.bytes);
  room : 4 * l.count + length l.rest ≤ length l.bytes;
}

abbrev pub decreases-loop-nla : goal.decreases-loop-nla
decreases-loop-nla l = length l.rest
