use Rattle.std.proofs.Common.{◌≡◌, ◌∙◌, ℕ, List, Some, refl, sym, ap, Result, Ok, Err, arith}
use Rattle.nla_frame.specs.Attribute.{Attribute}
use Rattle.nla_frame.specs.declared.error.DecodeError.{DecodeError}
use Rattle.linkinfo_numbers.specs.Kind.{kind_of_name, tag_of_name}
use Rattle.linkinfo_numbers.specs.PortKind.{port_kind_of_name, port_tag_of_name}
use Rattle.linkinfo_table.specs.Calls.{Reads}
use Rattle.linkinfo_data.specs.DataFamilies.{DataFamilies, DataTypes}
use Rattle.linkinfo.specs.Layered.{LinkOf}
use Rattle.linkinfo.specs.declared.link_info.LinkInfoOf.TheVariants as info
use Rattle.linkinfo.specs.declared.role.CurrentKinds.{CurrentKinds}
use Rattle.linkinfo.specs.declared.role.Role.{Role}
use Rattle.linkinfo.specs.declared.role.Role.TheVariants as role
use Rattle.linkinfo.specs.Items.{item_headers, item_meaning, item_memory}
use Rattle.linkinfo.specs.Roles.{kinds_after_role, name_meaning, with_name}
use Rattle.linkinfo.proofs.Naming.{made_ok, named}
use Rattle.linkinfo.proofs.item.read_item.Goals as goal

-- an attribute with the name of a kind or of a port kind: `own` is the role of such attributes
named_read : {L : DataTypes} {K : Type 0} (layer : DataFamilies L) (of_name : List ℕ → K)
    (label : K → LinkOf L)
    (own r : Role) (a : Attribute) → r ≡ own →
    item_meaning layer own a ≡ named (λ name. label (of_name name)) a →
    item_headers layer own a ≡ 0 → (kind : K) (len n : ℕ) →
    with_name (name_meaning a) of_name ≡ Ok kind →
    Reads (λ value. value) (Ok (label kind)) (item_meaning layer r a) (item_memory layer r a)
    (item_headers layer r a) len n n
named_read layer of_name label own r a is means flat kind len n gives =
    let meant =
    ap (λ (s : Role). item_meaning layer s a) is ∙ means ∙ made_ok of_name label a kind gives in
    record {
      answer = meant;
      certain = λ _. meant;
      counted = omega (arith, ap (λ (s : Role). item_headers layer s a) is ∙ flat);
      rises = omega arith;
      quarter = omega arith;
    }

pub returns-in_ok-read_kind-in-Kind : goal.returns-in_ok-read_kind-in-Kind
returns-in_ok-read_kind-in-Kind g c =
    named_read g.P.DataLayer.families kind_of_name (λ kind. info.Kind kind) role.Kind _
    c.args.nla.now
    c.in-Kind.is refl refl _ _ _ c.in_ok-read_kind-in-Kind.ensures.answer

pub returns-in_ok-read_port_kind-in-PortKind : goal.returns-in_ok-read_port_kind-in-PortKind
returns-in_ok-read_port_kind-in-PortKind g c =
    named_read g.P.DataLayer.families port_kind_of_name (λ kind. info.PortKind kind) role.PortKind _
    c.args.nla.now c.in-PortKind.is refl refl _ _ _
    c.in_ok-read_port_kind-in-PortKind.ensures.answer

-- a name that is current after an attribute is the one that the attribute holds
module _ (r : Role) (t u : CurrentKinds) (a : Attribute) (b : kinds_after_role r t a ≡ Ok u) where
  after_kind : r ≡ role.Kind →
      with_name (name_meaning a) (λ name. Some (tag_of_name name)) ≡ Ok u.kind
  after_kind is = go (name_meaning a) (ap (λ (s : Role). kinds_after_role s t a) (sym is) ∙ b)
    where
      go : (n : Result (List ℕ) DecodeError) →
          with_name n (λ name. let f : CurrentKinds =
          record { kind = Some (tag_of_name name); port = t.port } in f) ≡ Ok u →
          with_name n (λ name. Some (tag_of_name name)) ≡ Ok u.kind
      go (Ok name) e = cc
      go (Err d) e = absurd cc

  after_port : r ≡ role.PortKind →
      with_name (name_meaning a) (λ name. Some (port_tag_of_name name)) ≡ Ok u.port
  after_port is = go (name_meaning a) (ap (λ (s : Role). kinds_after_role s t a) (sym is) ∙ b)
    where
      go : (n : Result (List ℕ) DecodeError) →
          with_name n (λ name. let f : CurrentKinds =
          record { kind = t.kind; port = Some (port_tag_of_name name) } in f) ≡ Ok u →
          with_name n (λ name. Some (port_tag_of_name name)) ≡ Ok u.port
      go (Ok name) e = cc
      go (Err d) e = absurd cc

pub read_kind-requires : goal.read_kind-requires
read_kind-requires g c =
    after_kind _ c.requires.entered.0 _ c.args.nla.now c.requires.entered.1 c.in-Kind.is

pub read_port_kind-requires : goal.read_port_kind-requires
read_port_kind-requires g c =
    after_port _ c.requires.entered.0 _ c.args.nla.now c.requires.entered.1 c.in-PortKind.is
