-- What is met stays met where attributes of other types are added inside data.
use Rattle.std.specs.Prelude.{◌≡◌, ◌⊎◌, ℕ, ◌==◌, Bool, IsTrue, List, Option, None, Some}
use Rattle.std.specs.Prelude.{IfSome}
use Rattle.std.specs.List.{AllByRecursion}
use Rattle.std.proofs.Common.{ap, inl, inr, subst, sym, ◌∙◌}
use Rattle.nla_frame.specs.Attribute.{Attribute}
use Rattle.linkinfo_table.proofs.Lasts.{last_holds}
use Rattle.linkinfo_data.specs.Data.{family_of}
use Rattle.linkinfo_data.specs.DataFamilies.{DataFamilies, DataTypes}
use Rattle.linkinfo_table.specs.Contents.{Contents, ListOf, NoList}
use Rattle.linkinfo_data.specs.PortData.{port_family_of}
use Rattle.linkinfo.specs.Met.{AttributeMeets, ContentsMeet, ContentsStay, DifferInside, HasGained}
use Rattle.linkinfo.specs.Met.{IsMet, Item, ItemMeets, RoleMeets, StaysFor, contents_in, items_of}
use Rattle.linkinfo.specs.Met.{last_of, role_of_item, type_of_item}
use Rattle.linkinfo.specs.Unmet.{Named, same_kind, strings_unmet}
use Rattle.linkinfo.specs.declared.role.Role.TheVariants as role
use Rattle.linkinfo.specs.declared.role.Role.{Role}
use Rattle.linkinfo.proofs.Meeting.{string_met}
use Rattle.linkinfo.proofs.MetLasts.{AreBoth, last_pair, last_typed}
use Rattle.linkinfo.proofs.MetStays.{attributes_stay}

-- data
contents_stay : (c : Contents) (old new : Bool) (h m w : Attribute) →
    ContentsStay c w.value h.value m.value → ContentsMeet c old h w → ContentsMeet c new m w
contents_stay (NoList place count) old new h m w stay met = absurd stay
contents_stay (ListOf l inside) old new h m w stay met =
    attributes_stay l (AttributeMeets inside l.alike) h.value m.value w.value stay met

module _ {L : DataTypes} (layer : DataFamilies L) where
  payload_stays : (r : Role) (h m w : Attribute) →
      ContentsStay (contents_in layer r) w.value h.value m.value → RoleMeets layer r h w →
      RoleMeets layer r m w
  payload_stays (role.Data tag) h m w stay met =
      contents_stay (layer.data_of (family_of tag)).contents _ _ h m w stay met
  payload_stays (role.PortData tag) h m w stay met =
      contents_stay (layer.port_data_of (port_family_of tag)).contents _ _ h m w stay met
  payload_stays role.Kind h m w stay met = absurd stay
  payload_stays role.Xstats h m w stay met = absurd stay
  payload_stays role.PortKind h m w stay met = absurd stay
  payload_stays role.Misplaced h m w stay met = absurd stay
  payload_stays role.Unknown h m w stay met = absurd stay

  -- an attribute of the list
  item_stays : (h m w : Item) → h.named ≡ m.named → type_of_item w ≡ type_of_item h →
      (h.nla ≡ m.nla) ⊎ StaysFor layer h m w → ItemMeets layer h w → ItemMeets layer m w
  item_stays h m w named typed payload met = record {
    kind = subst (λ (n : Named). IsTrue (same_kind (role_of_item w) n w.named)) named met.kind;
    payload =
        elim payload [
          | inl same ↦
              subst (λ (a : Attribute). RoleMeets layer (role_of_item w) a w.nla) same
              met.payload
          | inr stays ↦
              payload_stays (role_of_item w) h.nla m.nla w.nla (stays typed) met.payload
        ];
  }

  module _ (have more want : List ℕ) (gained : DifferInside layer want have more) where
    abbrev Gained : Item → Item → Type 0
    Gained h m = HasGained layer (items_of want) h m

    option_stays : (k : ℕ) (h m w : Option Item) → AreBoth Gained h m →
        ((x y : Item) → AllByRecursion (StaysFor layer x y) (items_of want) →
        IfSome w (StaysFor layer x y)) →
        IfSome h (λ x. type_of_item x ≡ k) → IfSome w (λ x. type_of_item x ≡ k) →
        IsMet (ItemMeets layer) h w → IsMet (ItemMeets layer) m w
    option_stays k h m None both stays th tw met = tt
    option_stays k None m (Some w) both stays th tw met = absurd met
    option_stays k (Some h) None (Some w) both stays th tw met = absurd both
    option_stays k (Some h) (Some m) (Some w) both stays th tw met =
        let payload : (h.nla ≡ m.nla) ⊎ StaysFor layer h m w =
        elim both.payload [
          | inl same ↦ inl same
          | inr all ↦ inr (stays h m all)
        ] in
        item_stays h m w both.named (tw ∙ sym th) payload met

    pub inside_stays :
        strings_unmet layer have want ≡ None → strings_unmet layer more want ≡ None
    inside_stays e =
        (string_met layer more want).1 (λ k.
        option_stays k (last_of type_of_item k (items_of have))
        (last_of type_of_item k (items_of more)) (last_of type_of_item k (items_of want))
        (last_pair Gained (λ x. type_of_item x == k)
        (λ x y both. ap (λ (n : ℕ). n == k) both.type) None None tt (items_of have) (items_of more)
        gained)
        (λ x y all.
        last_holds (StaysFor layer x y) (λ item. type_of_item item == k) None (items_of want) all
        tt)
        (last_typed type_of_item k (items_of have)) (last_typed type_of_item k (items_of want))
        ((string_met layer have want).0 e k))
