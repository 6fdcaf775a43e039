-- The names on which the role of an attribute of a list depends, and what it belongs to.
use Rattle.std.specs.Prelude.{◌≡◌, ◌≢◌, ◌⊎◌, ℕ, zero, suc, ◌<◌, ◌^◌, IsOk, IsTrue, List, [], ◌∷◌}
use Rattle.std.specs.Prelude.{Option, None, Some, Result, map, length, refl}
use Rattle.std.specs.List.{AllByRecursion}
use Rattle.std.specs.Option.{option_eq, option_map}
use Rattle.std.specs.Str.{bytes_eq}
use Rattle.std.proofs.Common.{inl, inr, subst, sym, ◌∙◌}
use Rattle.std.proofs.lemmas.Slice.Eq.{bytes_eq-Decides}
use Rattle.nla_frame.specs.Attribute.{Attribute}
use Rattle.nla_frame.specs.declared.error.DecodeError.{DecodeError}
use Rattle.linkinfo_numbers.specs.Kind.{tag_of_name}
use Rattle.linkinfo_numbers.specs.PortKind.{port_tag_of_name}
use Rattle.linkinfo_table.specs.Last.{attributes_of}
use Rattle.linkinfo_table.specs.declared.last.PlacedNla.{PlacedNla}
use Rattle.linkinfo_table.specs.Equal.{option_decides}
use Rattle.linkinfo_data.specs.DataFamilies.{DataFamilies, DataTypes}
use Rattle.linkinfo.specs.Met.{Item, items_of, role_of_item}
use Rattle.linkinfo.specs.Roles.{role_of, role_under}
use Rattle.linkinfo.specs.Strings.{reading}
use Rattle.linkinfo.specs.Unmet.{Named, kinds_named, link_at, same_kind}
use Rattle.linkinfo.specs.UnmetSteps.{IsAcceptedLink}
use Rattle.linkinfo.specs.Layered.{LinkOf}
use Rattle.linkinfo.specs.declared.role.Role.TheVariants as role
use Rattle.linkinfo.specs.declared.role.Role.{Role}
use Rattle.linkinfo.proofs.Items.{unknown_from_six}
use Rattle.linkinfo.proofs.Meeting.{item_at, items_placed}
use Rattle.linkinfo.proofs.Steps.{meaning_is, meant}
use Rattle.linkinfo.proofs.Unmets.{links_accepted}

-- the names of what data, statistics and port data belong to are the same
abbrev pub Agree : Role → Named → Named → Type 0
Agree (role.Data tag) m n = m.kind ≡ n.kind
Agree role.Xstats m n = m.kind ≡ n.kind
Agree (role.PortData tag) m n = m.port ≡ n.port
Agree _ m n = Unit {0}

pub agree_same : (r : Role) (m n : Named) → Agree r m n → IsTrue (same_kind r m n)
agree_same (role.Data tag) m n e = (option_decides bytes_eq-Decides m.kind n.kind).1 e
agree_same role.Xstats m n e = (option_decides bytes_eq-Decides m.kind n.kind).1 e
agree_same (role.PortData tag) m n e = (option_decides bytes_eq-Decides m.port n.port).1 e
agree_same _ m n e = refl

pub agree_turned : (r : Role) (m n : Named) → Agree r m n → Agree r n m
agree_turned (role.Data tag) m n e = sym e
agree_turned role.Xstats m n e = sym e
agree_turned (role.PortData tag) m n e = sym e
agree_turned _ m n e = tt

pub agree_then : (r : Role) (m n o : Named) → Agree r m n → Agree r n o → Agree r m o
agree_then (role.Data tag) m n o e f = e ∙ f
agree_then role.Xstats m n o e f = e ∙ f
agree_then (role.PortData tag) m n o e f = e ∙ f
agree_then _ m n o e f = tt

-- what belongs to the same by one of two names does so by the other
pub agree_kind : (r : Role) (m h n : Named) → Agree r m h → IsTrue (same_kind r h n) →
    IsTrue (same_kind r m n)
agree_kind (role.Data tag) m h n e same =
    subst (λ (o : Option (List ℕ)). IsTrue (option_eq bytes_eq o n.kind)) (sym e) same
agree_kind role.Xstats m h n e same =
    subst (λ (o : Option (List ℕ)). IsTrue (option_eq bytes_eq o n.kind)) (sym e) same
agree_kind (role.PortData tag) m h n e same =
    subst (λ (o : Option (List ℕ)). IsTrue (option_eq bytes_eq o n.port)) (sym e) same
agree_kind _ m h n e same = same

-- ---- the role of a type under names

abbrev data_under : Option (List ℕ) → Role
data_under name = role_under (option_map tag_of_name name) (λ tag. role.Data tag)

abbrev xstats_under : Option (List ℕ) → Role
xstats_under name = role_under (option_map tag_of_name name) (λ _. role.Xstats)

abbrev port_data_under : Option (List ℕ) → Role
port_data_under name = role_under (option_map port_tag_of_name name) (λ tag. role.PortData tag)

-- two names agree for a type where those that are current do
pub agree_at : (now m n : Named) (k : ℕ) → (now.kind ≡ None) ⊎ (m.kind ≡ n.kind) →
    (k ≡ 5 → (now.port ≡ None) ⊎ (m.port ≡ n.port)) → Agree (role_of (kinds_named now) k) m n
unfolding role_of
agree_at now m n zero kind port = tt
agree_at now m n (suc zero) kind port = tt
agree_at now m n (suc (suc zero)) kind port = go now.kind kind
  where
    go : (o : Option (List ℕ)) → (o ≡ None) ⊎ (m.kind ≡ n.kind) → Agree (data_under o) m n
    go None h = tt
    go (Some name) (inl none) = absurd cc
    go (Some name) (inr same) = same
agree_at now m n (suc (suc (suc zero))) kind port = go now.kind kind
  where
    go : (o : Option (List ℕ)) → (o ≡ None) ⊎ (m.kind ≡ n.kind) → Agree (xstats_under o) m n
    go None h = tt
    go (Some name) (inl none) = absurd cc
    go (Some name) (inr same) = same
agree_at now m n (suc (suc (suc (suc zero)))) kind port = tt
agree_at now m n (suc (suc (suc (suc (suc zero))))) kind port = go now.port (port refl)
  where
    go : (o : Option (List ℕ)) → (o ≡ None) ⊎ (m.port ≡ n.port) → Agree (port_data_under o) m n
    go None h = tt
    go (Some name) (inl none) = absurd cc
    go (Some name) (inr same) = same
agree_at now m n (suc (suc (suc (suc (suc (suc k)))))) kind port =
    subst (λ (r : Role). Agree r m n) (sym (unknown_from_six (kinds_named now) k)) tt

-- ---- the attributes of an accepted list are placed

module _ {L : DataTypes} (layer : DataFamilies L) where
  not_misplaced : (r : Role) (a : Attribute) → IsOk (meant layer r a) → r ≢ role.Misplaced
  not_misplaced r a ok e = none (subst (λ (q : Role). IsOk (meant layer q a)) e ok)
    where
      none : IsOk (meant layer role.Misplaced a) → ⊥
      none h = absurd cc

  placed_mapped : (s : List ℕ) (list : List PlacedNla) →
      AllByRecursion (λ p. IsAcceptedLink layer (link_at s p)) list →
      AllByRecursion (λ item. role_of_item item ≢ role.Misplaced) (map (item_at s) list)
  placed_mapped s [] all = tt
  placed_mapped s (p ∷ more) all =
      let item = item_at s p in (
        not_misplaced (role_of_item item) item.nla
            (subst (λ (m : Result (LinkOf L) DecodeError). IsOk m)
            (meaning_is layer (kinds_named item.named) item.nla (role_of_item item) refl)
            all.0.means),
        placed_mapped s more all.1,
      )

  pub none_misplaced : (s : List ℕ) → length s < 2 ^ 64 → IsOk (reading layer s) →
      AllByRecursion (λ item. role_of_item item ≢ role.Misplaced) (items_of s)
  none_misplaced s small ok =
      subst
      (λ (items : List Item). AllByRecursion (λ item. role_of_item item ≢ role.Misplaced) items)
      (items_placed s) (placed_mapped s (attributes_of s) (links_accepted layer s small ok))
