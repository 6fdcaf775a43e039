use Rattle.nla_frame.specs.NlaItems.{nla_items}
use Rattle.std.proofs.Common.{ap}
use Rattle.linkinfo.specs.declared.role.Role.{Role}
use Rattle.linkinfo.specs.BeforePfcp.{
  HasNoPfcpData,
  is_pfcp_data,
  alike_strings_before,
  reading_before,
}
use Rattle.linkinfo.specs.Roles.{no_kinds}
use Rattle.linkinfo.specs.Strings.{alike_strings, reading}
use Rattle.linkinfo.proofs.Pfcp.{
  accepted_before,
  alike_first,
  alike_second,
  bytes_before,
  pfcp_role,
  read_before,
}
use Rattle.linkinfo.proofs.laws.pfcp.Goals as goal

pub returns-clause-accepted : goal.returns-clause-accepted
unfolding reading reading_before
returns-clause-accepted g c = λ e.
    accepted_before _ no_kinds (nla_items c.args.bytes.now) e

pub returns-clause-elsewhere : goal.returns-clause-elsewhere
unfolding reading reading_before HasNoPfcpData
returns-clause-elsewhere g c = λ e.
    read_before _ no_kinds (nla_items c.args.bytes.now) e

pub returns-clause-alike : goal.returns-clause-alike
unfolding alike_strings alike_strings_before HasNoPfcpData
returns-clause-alike g c = λ e other.
    alike_first _ no_kinds (nla_items c.args.bytes.now)
    (nla_items other) e

pub returns-clause-alike_to : goal.returns-clause-alike_to
unfolding alike_strings alike_strings_before HasNoPfcpData
returns-clause-alike_to g c = λ e other.
    alike_second _ no_kinds (nla_items other)
    (nla_items c.args.bytes.now) e

pub returns-clause-kind : goal.returns-clause-kind
returns-clause-kind g c = λ r. (pfcp_role r, λ e. ap (λ (s : Role). is_pfcp_data s) e)

pub returns-clause-bytes : goal.returns-clause-bytes
returns-clause-bytes g c = λ t a e. bytes_before _ t a e
