use Rattle.std.proofs.Common.{refl}
use Rattle.nla_frame.specs.declared.error.Family.TheVariants as family
use Rattle.linkinfo_view.specs.declared.format.Table.TheVariants as table
use Rattle.linkinfo_view.proofs.Rows.{all_agree}
use Rattle.linkinfo_view.proofs.laws.same_shapes.Goals as goal

-- by computing, for each family
pub returns-clause-families : goal.returns-clause-families
returns-clause-families c family.VlanQosMapping other = absurd (other refl)
returns-clause-families c _ other = all_agree _ _ refl refl refl

pub returns-clause-sit : goal.returns-clause-sit
returns-clause-sit c = all_agree table.Sit family.IpTunnel refl refl refl

pub returns-clause-ip6_tunnel : goal.returns-clause-ip6_tunnel
returns-clause-ip6_tunnel c = all_agree table.Ip6Tunnel family.IpTunnel refl refl refl

pub returns-clause-priority_pairs : goal.returns-clause-priority_pairs
returns-clause-priority_pairs c place = refl

pub returns-clause-hardware_addresses : goal.returns-clause-hardware_addresses
returns-clause-hardware_addresses c = (λ place. refl, λ place. refl)
