use Rattle.std.proofs.Common.{arith, refl}
use Rattle.linkinfo_build.specs.Bytes.{is_address_list}
use Rattle.linkinfo_build.proofs.bytes.is_address_list.Goals as goal

pub loop-step-init : goal.loop-step-init
unfolding is_address_list
loop-step-init c = record {
  same = refl;
  room = omega (arith, c.new-count.ensures);
  counted = omega arith;
}
