use Rattle.std.proofs.Common.{arith, inl, refl}
use Rattle.linkinfo.specs.Met.{IsLikeIn, nlas_of}
use Rattle.linkinfo.proofs.MetReordered.{data_reordered, permuted, reordered_met}
use Rattle.linkinfo.proofs.unmet_laws.reordering_is_met.Goals as goal

pub returns-clause-permuted : goal.returns-clause-permuted
returns-clause-permuted g c = λ distinct moved.
    let list = nlas_of c.args.bytes.now in
    permuted (IsLikeIn g.P.DataLayer.families list) (λ a. inl refl) list
    (nlas_of c.args.other.now) distinct moved

pub returns-clause-data : goal.returns-clause-data
returns-clause-data g c = λ l inside p q order. data_reordered l inside p q order

pub returns-clause-list : goal.returns-clause-list
returns-clause-list g c = λ first second order.
    reordered_met g.P.DataLayer.families c.args.bytes.now c.args.other.now (omega arith)
    (omega arith) first second order
