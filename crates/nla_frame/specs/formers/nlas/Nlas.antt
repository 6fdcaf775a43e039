-- Where a list of items keeps its items, so that a type may contain a list of itself: a list is its
-- `Vec`, and nothing else.
use mathlib.Core.Path.{◌≡◌, refl, sym}
use mathlib.Core.List.{List, []}
use mathlib.Core.Former.{Former, this, list, via, children}
use base.Stored.{code_map}
use denote.RattleType.{RattleType}
use denote.HoleLaws.{Alike}
use denote.HolePlaces.{Recodes, struct_places, laid}
use denote.Hole.Carrier.{listed, list-listed}
use denote.Hole.Fix.{over}
use denote.Param.Weighed.{Weighed, w_list}
use denote.Model.Placed.{view_places}
use Rattle.std.specs.formers.vec.Vec as vec
use Rattle.std.specs.declared.alloc.Global.{Global}
use Rattle.std.specs.contracts.alloc.Global as global
use Rattle.std.specs.contracts.impls.GlobalAllocator.TheImpl.{ghosts}
use Rattle.nla_frame.specs.declared.nlas.Nlas.TheInside.{Inside}
use Rattle.nla_frame.specs.declared.nlas.Nlas.TheView.{view, invariant}
use Rattle.nla_frame.specs.contracts.nlas.Nlas as nlas
use Rattle.nla_frame.specs.contracts.nlas.Nlas.TheInside as inside

-- The value of a list of items is the list of their values. It is measured, empty and listed as
-- such.
abbrev pub the_former : Former {0} → Former {0}
the_former item = list item

abbrev pub the_weighed : {item : Former {0}} → Weighed item → Weighed (the_former item)
the_weighed weight = w_list weight

abbrev pub the_empty : List ⊥
the_empty = []

abbrev pub the_items : (X : Type 0) → List X → List X
the_items X items = items

pub the_items_listed : (X : Type 0) (items : List X) →
    listed _ (children (the_former this) X items) ≡ the_items X items
the_items_listed X items = list-listed X items

-- the one field is a `Vec`
abbrev in_field : Former {0}
in_field =
    via (vec.the_former this Global) Inside (λ X held. held.items)
    (λ X items. record { items = items }) (λ X held. refl) (λ X items. refl)

-- the list has equal layout, ownership and code at two item types if the items have
module _ (R S : RattleType) (h : R.Denot → S.Denot) where
  pub the_places : Alike R S h →
      Alike (nlas.the_row R) (nlas.the_row S) ((the_former this).map R.Denot S.Denot h)
  the_places alike =
      let in_vec = laid _ _ _ (vec.the_places global.the_row ghosts R S h alike) in
      let in_struct =
      struct_places (inside.the_type R) (inside.the_type S) (vec.mapped h, tt) _ (λ d. refl) refl (
        in_vec,
        tt,
      ) in
      view_places in_field (list this) view (λ X Y k u. refl) (λ X u. refl) R.Denot S.Denot h
      (nlas.the_row R).coded (nlas.the_row S).coded
      (invariant R.Denot) (invariant S.Denot) (λ u p q. refl) (λ u p q. refl) (λ u e. tt)
      (λ u e. tt)
      (over (inside.the_row R)) (over (inside.the_row S))
      in_struct

  pub the_codes_placed : Recodes R S h →
      Recodes (nlas.the_row R) (nlas.the_row S) ((the_former this).map R.Denot S.Denot h)
  the_codes_placed recodes items =
      sym (code_map R.coded.code S.coded.code h (λ x. sym (recodes x)) items)
