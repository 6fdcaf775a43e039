use Rattle.linkinfo_shapes.specs.DataLaws.{
  read_means,
  read_suits,
  read_fails,
  written_is,
  Suits-wrap,
  unwrap-wrap,
  wrap-unwrap,
}
use Rattle.linkinfo_shapes.specs.ShapeLaws.{datum_of, accepted}
use Rattle.linkinfo_shapes.proofs.laws.data.Goals as goal

pub returns : goal.returns
returns c = record {
  read = read_means;
  suits = read_suits;
  error = read_fails;
  accepted = λ shape p. (λ h. datum_of shape p h, λ h. accepted shape p h.0 h.1);
  canonical = written_is;
  one_value = Suits-wrap;
  its_datum = unwrap-wrap;
  its_value = wrap-unwrap;
}
