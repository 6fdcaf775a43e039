use Rattle.std.proofs.Common.{◌+◌, ◌*◌, length, map}
use Rattle.nla_frame.proofs.Emitting.{WrittenUpTo}
use Rattle.nla_frame.specs.Attribute.{list_string}
use Rattle.linkinfo_devices.proofs.nested_emission.+nested_emit.Given as goal

abbrev pub invariant-emit_list-loop-item : goal.invariant-emit_list-loop-item
invariant-emit_list-loop-item g l =
    WrittenUpTo g.F.RowFamily.canonical l.items l.item-index l.place l.fn.buffer l.buffer

abbrev pub decreases-nested_emit_payload : goal.decreases-nested_emit_payload
decreases-nested_emit_payload g l = 3 * length (g.F.RowFamily.canonical l.value.now).value + 1

abbrev pub decreases-emit_list : goal.decreases-emit_list
decreases-emit_list g l = 3 * length (list_string (map g.F.RowFamily.canonical l.items.now))

abbrev pub decreases-emit_attribute : goal.decreases-emit_attribute
decreases-emit_attribute g l = 3 * length (g.F.RowFamily.canonical l.value.now).value + 2
