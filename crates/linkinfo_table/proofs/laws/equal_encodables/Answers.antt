use Rattle.std.proofs.Common.{rules, eqb}
use Rattle.std.proofs.lemmas.Bool.{and_from, and_parts, eq-eqb, eqb-true}
use Rattle.std.specs.Prelude.{◌≡◌, ◌↔◌, ◌&&◌, ℕ, Bool, IsTrue}
use Rattle.nla_frame.specs.contracts.default_nla.DefaultNlaExactEq.TheImpl.Laws as nla
use Rattle.linkinfo_shapes.specs.contracts.datum.DatumPartialEq.TheImpl as datum
use Rattle.linkinfo_shapes.specs.contracts.shape.ShapeExactEq.TheImpl.Laws as shape
use Rattle.linkinfo_shapes.specs.Data.{value_of}
use Rattle.linkinfo_shapes.specs.declared.datum.Datum.{Datum}
use Rattle.linkinfo_table.specs.declared.encodable.Encodable.TheVariants as encodable
use Rattle.linkinfo_table.proofs.laws.equal_encodables.Goals as goal

all_three : {A B : Type 0} (n k : ℕ) (b c : Bool) → IsTrue b ↔ A → IsTrue c ↔ B →
    IsTrue (eqb n k && (b && c)) ↔ ((n ≡ k) × A × B)
all_three n k b c f g = (
  λ t. let p = and_parts (eqb n k) (b && c) t in let q = and_parts b c p.1 in
      (eqb-true n k p.0, f.0 q.0, g.0 q.1),
  λ h. and_from (eqb n k) (b && c) (eq-eqb n k h.0) (and_from b c (f.1 h.1) (g.1 h.2)),
)

same_data : (d e : Datum) → IsTrue (datum.ghosts.eq d e) ↔ (value_of d ≡ value_of e)
same_data d e = search rules

pub returns-clause-encodable : goal.returns-clause-encodable
returns-clause-encodable c = elim [
  | encodable.Typed n s d ↦ elim [
    | encodable.Typed k t e ↦ all_three n k _ _ (shape.exact-law s t) (same_data d e)
    | _ ↦ search rules
  ]
  | encodable.Kept x ↦ elim [ encodable.Kept y ↦ search (rules, nla.exact-law) | _ ↦ search rules ]
  | encodable.Custom ↦ elim [ encodable.Custom ↦ search rules | _ ↦ search rules ]
]
