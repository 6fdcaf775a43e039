use Rattle.linkinfo.proofs.Walking.{stops_gives, progress}
use Rattle.linkinfo.proofs.walk.LinkInfoWalkIterator.next.Goals as goal

pub returns-in-Err-clause-steps : goal.returns-in-Err-clause-steps
returns-in-Err-clause-steps c =
    let stops = rw c.in-Err.is at c.in_ok-nla.ensures.step in
    record {
      gives = stops_gives _ _ _ stops;
      holds = (stops.at, stops.kinds);
      source = c.advance.ensures.source;
      examined = (stops.seen, stops.error, stops.examined);
    }

pub returns-in-Err-clause-goes : goal.returns-in-Err-clause-goes
returns-in-Err-clause-goes c = progress _ _ _ (returns-in-Err-clause-steps c)
