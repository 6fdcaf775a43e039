use Rattle.std.proofs.Common.{refl}
use Rattle.std.specs.Cmp.Lexicographic.{bytes_decides}
use Rattle.std.proofs.lemmas.Bool.Decides.{Decides-eqb}
use Rattle.linkinfo_numbers.specs.contracts.tags.KindTagExactEq.TheImpl.Laws.{
  exact-law as kind_exact,
}
use Rattle.linkinfo_numbers.specs.contracts.tags.PortTagExactEq.TheImpl.Laws.{
  exact-law as port_exact,
}
use Rattle.nla_frame.specs.Derived.{fields_decide, two_fields}
use Rattle.linkinfo_table.specs.Equal.{option_decides}
use Rattle.linkinfo.specs.Walks.{held}
use Rattle.linkinfo.proofs.laws.equal_items.Goals as goal

pub returns : goal.returns
returns c = λ a b.
    fields_decide (λ h. (h.place, (h.raw_kind, (h.value, (h.kind_tag, h.port_tag)))))
    (λ z. record {
      place = z.0;
      raw_kind = z.1.0;
      value = z.1.1.0;
      kind_tag = z.1.1.1.0;
      port_tag = z.1.1.1.1;
    }) (λ h. refl)
    (two_fields Decides-eqb (two_fields Decides-eqb
    (two_fields bytes_decides
    (two_fields (option_decides kind_exact) (option_decides port_exact)))))
    (held a) (held b)
