use Rattle.std.proofs.Common.{◌≡◌, ◌++◌, take}
use Rattle.linkinfo_print.specs.Plain.{IsPlain, plain}
use Rattle.linkinfo_print.proofs.plain.push_plain.Given as goal

abbrev pub invariant-loop-byte : goal.invariant-loop-byte
invariant-loop-byte l = record {
  appended : l.text.items ≡ l.initial.text.items ++ plain (take l.byte-index l.bytes);
  plain : IsPlain l.initial.text.items → IsPlain l.text.items;
}
