-- Two attributes are equivalent by their role if their payloads are.
use Rattle.std.proofs.Common.{◌≡◌, ◌∙◌, ℕ, ◌+◌, Bool, List, ap, length, sym, subst, arith}
use Rattle.std.specs.Prelude.{◌==◌, ◌&&◌, IsOk}
use Rattle.std.specs.Bool.{OnTrue}
use Rattle.nla_frame.specs.Attribute.{Attribute, masked}
use Rattle.nla_frame.specs.declared.error.Family.TheVariants as family
use Rattle.std.proofs.lemmas.Bool.Decides.{nat_tests}
use Rattle.linkinfo_numbers.specs.Kind.{kind_of_name}
use Rattle.linkinfo_numbers.specs.PortKind.{port_kind_of_name}
use Rattle.linkinfo_table.specs.Rows.{row_alike, row_headers, row_meaning}
use Rattle.linkinfo_data.specs.DataFamilies.{DataFamilies, DataTypes}
use Rattle.linkinfo_data.specs.Payloads.{Payload}
use Rattle.linkinfo.specs.declared.link_info.LinkInfoOf.TheVariants as info
use Rattle.linkinfo.specs.declared.role.Role.{Role}
use Rattle.linkinfo.specs.Items.{link_other, link_row}
use Rattle.linkinfo.proofs.Naming.{accepted_name}
use Rattle.linkinfo.proofs.item.same_item.Goals as goal

-- what holds by the role that was found holds by the role that was given
module _ {L : DataTypes} (layer : DataFamilies L) (r s : Role) (is : r ≡ s) (a b : Attribute)
    (x : Bool) where
  alike_by_role : x ≡ row_alike (link_row layer s) a b → x ≡ row_alike (link_row layer r) a b
  alike_by_role = subst (λ (t : Role). x ≡ row_alike (link_row layer t) a b) (sym is)

  counted_by_role : (n o : ℕ) →
      OnTrue x (n ≡ o + (row_headers (link_row layer s) a + row_headers (link_row layer s) b)) →
      OnTrue x (n ≡ o + (row_headers (link_row layer r) a + row_headers (link_row layer r) b))
  counted_by_role n o =
      subst (λ (t : Role).
      OnTrue x (n ≡ o + (row_headers (link_row layer t) a + row_headers (link_row layer t) b)))
      (sym is)

-- attributes of one type are equivalent if their payloads are
alike_of : (a b : Attribute) (k n : ℕ) (x y : Bool) → k ≡ masked b.kind → n ≡ masked a.kind →
    k ≡ n → x ≡ y → x ≡ ((masked b.kind == masked a.kind) && y)
alike_of a b k n x y second first same e = grind (arith, nat_tests)

-- what is said of payloads by their family
module _ {G X : Type 0} (of : G → Payload X) (f g : G) (found : f ≡ g) (p q u v : List ℕ)
    (first : p ≡ u) (second : q ≡ v) where
  payloads_alike : (x : Bool) → x ≡ (of f).alike p q → x ≡ (of g).alike u v
  payloads_alike x e = rw (← found, ← first, ← second) e

  payloads_counted : (x : Bool) (n o : ℕ) →
      OnTrue x (n ≡ o + ((of f).headers p + (of f).headers q)) →
      OnTrue x (n ≡ o + ((of g).headers u + (of g).headers v))
  payloads_counted x n o e = rw (← found, ← first, ← second) e

pub shape_same-requires-clause-first : goal.shape_same-requires-clause-first
shape_same-requires-clause-first g c =
    accepted_name (λ name. info.Kind (kind_of_name name)) c.args.a.now _ c.value.ensures.value
    (subst (λ (r : Role).
    IsOk (row_meaning family.LinkInfo link_other (link_row g.P.DataLayer.families r)
    c.args.a.now)) c.in-Kind.is c.requires.first)

pub shape_same-requires-clause-second : goal.shape_same-requires-clause-second
shape_same-requires-clause-second g c =
    accepted_name (λ name. info.Kind (kind_of_name name)) c.args.b.now _
    c.value-then-same_kind.ensures.value
    (subst (λ (r : Role).
    IsOk (row_meaning family.LinkInfo link_other (link_row g.P.DataLayer.families r)
    c.args.b.now)) c.in-Kind.is
    (c.requires.second (sym c.kind.ensures ∙ c.if-same_kind.true ∙ c.kind-2.ensures)))

pub shape_same-requires-then-same_kind-4-clause-first :
    goal.shape_same-requires-then-same_kind-4-clause-first
shape_same-requires-then-same_kind-4-clause-first g c =
    accepted_name (λ name. info.PortKind (port_kind_of_name name)) c.args.a.now _
    c.value-then-same_kind-4.ensures.value
    (subst (λ (r : Role).
    IsOk (row_meaning family.LinkInfo link_other (link_row g.P.DataLayer.families r)
    c.args.a.now)) c.in-PortKind.is c.requires.first)

pub shape_same-requires-then-same_kind-4-clause-second :
    goal.shape_same-requires-then-same_kind-4-clause-second
shape_same-requires-then-same_kind-4-clause-second g c =
    accepted_name (λ name. info.PortKind (port_kind_of_name name)) c.args.b.now _
    c.value-then-same_kind-4-2.ensures.value
    (subst (λ (r : Role).
    IsOk (row_meaning family.LinkInfo link_other (link_row g.P.DataLayer.families r)
    c.args.b.now)) c.in-PortKind.is
    (c.requires.second (sym c.kind.ensures ∙ c.if-same_kind-4.true ∙ c.kind-2.ensures)))

pub returns-then-same_kind-2 : goal.returns-then-same_kind-2
returns-then-same_kind-2 g c =
    let one = c.value-then-same_kind-2.ensures.value in
    let other = c.value-then-same_kind-2-2.ensures.value in
    let compared = c.same_payloads.ensures in
    record {
      same =
          alike_by_role g.P.DataLayer.families _ _ c.in-Data.is c.args.a.now c.args.b.now _
          (alike_of c.args.a.now c.args.b.now _ _ _ _ c.kind.ensures c.kind-2.ensures
          c.if-same_kind-2.true
          (payloads_alike g.P.DataLayer.families.data_of _ _ c.family_of.ensures _ _ _ _ one other
          _
          compared.same));
      counted =
          counted_by_role g.P.DataLayer.families _ _ c.in-Data.is c.args.a.now c.args.b.now _ _ _
          (payloads_counted g.P.DataLayer.families.data_of _ _ c.family_of.ensures _ _ _ _ one
          other _ _ _
          compared.counted);
      rises = compared.rises;
      quarter = omega (arith, compared.quarter, ap length one, ap length other);
    }
