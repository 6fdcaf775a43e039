-- What meets a request under a layer, beside the layer of the same peer.
use Rattle.std.specs.Prelude.{
  ◌≡◌,
  ◌⊎◌,
  ℕ,
  ◌||◌,
  Bool,
  true,
  false,
  IsTrue,
  List,
  Option,
  None,
  Some,
}
use Rattle.std.specs.Str.{bytes_eq}
use Rattle.std.proofs.Common.{inl, inr, subst, sym, ap, ◌∙◌}
use Rattle.std.proofs.lemmas.Slice.Eq.{bytes_eq-Decides}
use Rattle.nla_frame.specs.Attribute.{Attribute}
use Rattle.linkinfo_table.specs.Contents.{Contents}
use Rattle.linkinfo_table.specs.Unmet.{meets}
use Rattle.linkinfo_data.specs.Payloads.{Payload}
use Rattle.linkinfo_data.specs.Refined.{AreEqual, AreLists, is_set_in}
use Rattle.linkinfo.specs.Met.{
  AttributeMeets,
  Chosen,
  ContentsMeet,
  DataMeets,
  IsMet,
  LastsMeet,
  ListMeets,
  MembersMeet,
  PayloadMeets,
  last_of,
  nlas_of,
  type_of,
}
use Rattle.linkinfo.proofs.Meeting.{meets_equal, payload_equal}

-- ---- of each type, the last one

is_met : {X : Type 0} (Meets Follows : X → X → Type 0) →
    ((h w : X) → Meets h w → Follows h w) → (have want : Option X) → IsMet Meets have want →
    IsMet Follows have want
is_met Meets Follows each have None m = tt
is_met Meets Follows each None (Some w) m = absurd m
is_met Meets Follows each (Some h) (Some w) m = each h w m

pub lasts_met : {X : Type 0} (type : X → ℕ) (Meets Follows : X → X → Type 0) →
    ((h w : X) → Meets h w → Follows h w) → (have want : List X) →
    LastsMeet type Meets have want → LastsMeet type Follows have want
lasts_met type Meets Follows each have want all = λ k.
    is_met Meets Follows each (last_of type k have) (last_of type k want) (all k)

-- ---- lists of attributes that are equivalent to themselves alone

either_equal : (x y : Bool) (s t : List ℕ) → (x ≡ true → s ≡ t) → (y ≡ true → s ≡ t) →
    (x || y) ≡ true → s ≡ t
either_equal true y s t first other e = first e
either_equal false y s t first other e = other e

values_equal : (alike : Attribute → Attribute → Bool) →
    ((a b : Attribute) → alike a b ≡ true → a ≡ b) → (h w : Attribute) →
    IsTrue (meets alike h w) → h.value ≡ w.value
values_equal alike same h w e =
    either_equal (bytes_eq h.value w.value) (alike h w) h.value w.value
    (bytes_eq-Decides h.value w.value).0 (λ k. ap (λ (a : Attribute). a.value) (same h w k)) e

module _ {X Y : Type 0} (fine : Payload X) (coarse : Payload Y) where
  each_meets : (lists : AreLists fine coarse) (h w : Attribute) →
      AttributeMeets lists.within lists.there.alike h w →
      AttributeMeets lists.inside lists.here.alike h w
  each_meets lists h w m =
      let met = meets lists.there.alike h w in
      let whole : IsTrue met =
      subst (λ (c : Contents). PayloadMeets c met h w) (lists.single (type_of w)) m in
      let equal = values_equal lists.there.alike lists.same h w whole in
      payload_equal (lists.inside (type_of w)) (meets lists.here.alike h w) h w
      (meets_equal lists.here.alike h w equal) equal

  lists_meet : (lists : AreLists fine coarse) → lists.here.is_set ≡ false → (p q : List ℕ) →
      ListMeets lists.there lists.within p q → ListMeets lists.here lists.inside p q
  lists_meet lists none p q m =
      let have = nlas_of p in
      let want = nlas_of q in
      let there = AttributeMeets lists.within lists.there.alike in
      let here = AttributeMeets lists.inside lists.here.alike in
      let lasts : LastsMeet type_of there have want =
      subst
      (λ (b : Bool).
      Chosen b (MembersMeet lists.there.alike have want) (LastsMeet type_of there have want))
      lists.in_order m in
      subst
      (λ (b : Bool).
      Chosen b (MembersMeet lists.here.alike have want) (LastsMeet type_of here have want))
      (sym none) (lasts_met type_of there here (each_meets lists) have want lasts)

  pub data_meets : AreEqual fine coarse ⊎ AreLists fine coarse →
      is_set_in fine.contents ≡ false → (h w : Attribute) → DataMeets coarse h w →
      DataMeets fine h w
  data_meets (inl equal) none h w m =
      let of_alike = λ (f : List ℕ → List ℕ → Bool). meets (λ a b. f a.value b.value) h w in
      let met : of_alike coarse.alike ≡ of_alike fine.alike =
      ap (λ (b : Bool). bytes_eq h.value w.value || b) (sym (equal.alike h.value w.value)) in
      subst (λ (c : Contents). ContentsMeet c (of_alike fine.alike) h w) (sym equal.contents)
      (subst (λ (b : Bool). ContentsMeet coarse.contents b h w) met m)
  data_meets (inr lists) none h w m =
      let first = meets (λ a b. coarse.alike a.value b.value) h w in
      let last = meets (λ a b. fine.alike a.value b.value) h w in
      let set : lists.here.is_set ≡ false = ap is_set_in (sym lists.is_here) ∙ none in
      subst (λ (c : Contents). ContentsMeet c last h w) (sym lists.is_here)
      (lists_meet lists set h.value w.value
      (subst (λ (c : Contents). ContentsMeet c first h w) lists.is_there m))
