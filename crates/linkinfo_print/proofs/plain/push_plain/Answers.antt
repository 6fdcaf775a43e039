use Rattle.std.proofs.Common.{◌≡◌, [], ◌∷◌, ◌++◌, rules, sym, subst, arith}
use Rattle.std.proofs.lemmas.Grind.{common_steps}
use Rattle.linkinfo_print.specs.Plain.{IsPlain}
use Rattle.linkinfo_print.proofs.PlainBytes.{IsPlain-push}
use Rattle.linkinfo_print.proofs.plain.push_plain.Goals as goal

pub loop-byte-preserved : goal.loop-byte-preserved
loop-byte-preserved c =
    let pushed : c.push.new.self.items ≡ c.loop-byte.text.items ++ c.plain_byte.result ∷ [] =
    search rules in
    record {
      appended = grind (arith, common_steps);
      plain = λ h. subst IsPlain (sym pushed) (IsPlain-push c.loop-byte.text.items
          c.plain_byte.result (c.loop-byte.invariant.plain h) c.plain_byte.ensures.plain);
    }
