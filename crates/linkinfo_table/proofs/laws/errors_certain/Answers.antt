use Rattle.nla_frame.specs.NlaItems.{nla_items}
use Rattle.linkinfo_table.specs.ErrorMemory.{first_certain, list_certain}
use Rattle.linkinfo_table.proofs.laws.errors_certain.Goals as goal

pub returns : goal.returns
returns g c =
    let f = g.F.LinkFamily in
    let certain = g.met.F.LinkFamily.error_certain in
    record {
      attribute = certain;
      list = λ ctx bytes e begins.
          list_certain (f.lookup ctx) (f.meaning ctx) (f.needs_memory ctx) (certain ctx)
          (nla_items bytes) e begins;
      first = λ ctx bytes e begins.
          first_certain (f.lookup ctx) (f.meaning ctx) (f.needs_memory ctx) (certain ctx)
          (nla_items bytes) e begins;
    }
