use Rattle.linkinfo_shapes.specs.ShapeLaws.{
  means_holds,
  means-canon,
  IsBytes-canon,
  means_alike,
  means_memory,
  error_needs_no_memory,
}
use Rattle.linkinfo_shapes.proofs.laws.shapes.Goals as goal

pub returns : goal.returns
returns c = record {
  holds = means_holds;
  bytes = IsBytes-canon;
  again = means-canon;
  alike = means_alike;
  memory = means_memory;
  error = error_needs_no_memory;
}
