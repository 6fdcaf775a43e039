use Rattle.std.proofs.Common.{length, ◌-◌}
use Rattle.linkinfo_messages.proofs.Linking.{Passed}
use Rattle.linkinfo_messages.proofs.links.next_link.Given as goal

-- there is no link between the start and the offset, and the headers between them are counted
abbrev pub invariant-loop-place : goal.invariant-loop-place
invariant-loop-place l = Passed l.bytes l.start l.fn.examined l.place l.examined

abbrev pub decreases-loop-place : goal.decreases-loop-place
decreases-loop-place l = length l.bytes - l.place
