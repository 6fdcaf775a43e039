-- What a writer has after several writes of plain bytes.
use Rattle.std.proofs.Common.{
  ◌≡◌,
  ℕ,
  List,
  [],
  ◌++◌,
  Option,
  Some,
  None,
  true,
  sym,
  ap,
  ◌∙◌,
  append_assoc,
  append-nil,
  arith,
}
use Rattle.std.proofs.lemmas.List.Elements.{All-append}
use Rattle.linkinfo_print.specs.Answers.{AppendsPlain}
use Rattle.linkinfo_print.specs.Plain.{IsPlain, is_plain}

none_plain : IsPlain []
none_plain k d lt = absurd (omega arith)

pub nothing_written : (a : Option (List ℕ)) → AppendsPlain a a
nothing_written None = record { bytes = []; appended = tt; plain = none_plain }
nothing_written (Some xs) =
    record { bytes = []; appended = sym (append-nil xs); plain = none_plain }

pub more_written : (a b c : Option (List ℕ)) → AppendsPlain a b → AppendsPlain b c →
    AppendsPlain a c
more_written None b c h g = record { bytes = []; appended = tt; plain = none_plain }
more_written (Some xs) None c h g = absurd (h.appended)
more_written (Some xs) (Some ys) None h g = absurd (g.appended)
more_written (Some xs) (Some ys) (Some zs) h g =
    record {
      bytes = h.bytes ++ g.bytes;
      appended = g.appended ∙ ap (λ (bs : List ℕ). bs ++ g.bytes) (h.appended)
          ∙ append_assoc xs (h.bytes) (g.bytes);
      plain = All-append (λ b. is_plain b ≡ true) (h.bytes) (g.bytes) (h.plain) (g.plain);
    }
