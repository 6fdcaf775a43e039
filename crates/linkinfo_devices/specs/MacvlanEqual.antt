-- The derived `==` of attributes of `macvlan` links decides equality, with lists of any depth.
use Rattle.std.specs.Prelude.{◌≡◌, Bool, List, map}
use Rattle.std.specs.Bool.{Decides}
use Rattle.std.specs.Cmp.Lexicographic.{bytes_decides}
use Rattle.std.proofs.Common.{sym, subst, inl, inr}
use Rattle.std.proofs.lemmas.Bool.Decides.{Decides-eqb}
use Rattle.nla_frame.specs.Derived.{
  one_field,
  one_field_at,
  pointwise_decides_at,
}
use Rattle.nla_frame.specs.contracts.default_nla.DefaultNlaExactEq.TheImpl.Laws.{
  exact-law as kept_exact,
}
use Rattle.nla_frame.specs.contracts.exact_eq.I32ExactEq.TheImpl.Laws.{exact-law as i32_exact}
use Rattle.linkinfo_numbers.specs.contracts.macvlan.MacVlanModeExactEq.TheImpl.Laws.{
  exact-law as mode_exact,
}
use Rattle.linkinfo_numbers.specs.contracts.macvlan.MacVlanFlagsExactEq.TheImpl.Laws.{
  exact-law as flags_exact,
}
use Rattle.linkinfo_numbers.specs.contracts.macvlan.MacVlanMacAddressModeExactEq.TheImpl.Laws.{
  exact-law as address_mode_exact,
}
use Rattle.linkinfo_devices.specs.MacEqual.{Decided, Known, decided_at}
use Rattle.linkinfo_devices.specs.MacView as view
use Rattle.linkinfo_devices.specs.MacView.{MacView, map_view, of_view}
use Rattle.linkinfo_devices.specs.Macvlan.{mac_vlan_labels, mac_vlan_made, mac_vlan_mapped}
use Rattle.linkinfo_devices.specs.Macvlan.{mac_vlan_variant}
use Rattle.linkinfo_devices.specs.declared.macvlan.InfoMacVlan.{InfoMacVlan}
use Rattle.linkinfo_devices.specs.declared.macvlan.InfoMacVlan.TheOpen as layer
use Rattle.linkinfo_devices.specs.declared.macvlan.InfoMacVlan.TheViews.{roll-InfoMacVlan}
use Rattle.linkinfo_devices.specs.declared.macvlan.InfoMacVlan.TheFolds.{
  ind-InfoMacVlan,
  map-InfoMacVlan,
}
use Rattle.linkinfo_devices.specs.contracts.macvlan.InfoMacVlan.{enum}
use Rattle.linkinfo_devices.specs.contracts.macvlan.InfoMacVlanPartialEq.TheImpl.{eq-value}
use Rattle.linkinfo_devices.specs.contracts.macvlan.InfoMacVlanPartialEq.TheImpl.Laws.{is}

abbrev eq : InfoMacVlan → InfoMacVlan → Bool
eq x y = eq-value.it x y

-- a value for whose list items equality is decided
decided : (v : MacView (Known eq)) → Decided eq (of_view mac_vlan_labels (map_view (λ e. e.0) v))
decided (view.Mode m) = decided_at enum _ is (inl (m, tt)) (one_field mode_exact (m, tt))
decided (view.Flags f) = decided_at enum _ is (inr (inl (f, tt))) (one_field flags_exact (f, tt))
decided (view.MacAddrMode m) =
    decided_at enum _ is (inr (inr (inl (m, tt)))) (one_field address_mode_exact (m, tt))
decided (view.MacAddr a) =
    decided_at enum _ is (inr (inr (inr (inl (a, tt))))) (one_field bytes_decides (a, tt))
decided (view.MacAddrData ks) =
    let xs : List InfoMacVlan = map (λ e. e.0) ks in
    decided_at enum _ is (inr (inr (inr (inr (inl (xs, tt))))))
    (λ v. one_field_at xs v (pointwise_decides_at eq-value.it ks v.0))
decided (view.MacAddrCount n) =
    decided_at enum _ is (inr (inr (inr (inr (inr (inl (n, tt))))))) (one_field Decides-eqb (n, tt))
decided (view.BcQueueLen n) =
    decided_at enum _ is (inr (inr (inr (inr (inr (inr (inl (n, tt))))))))
    (one_field Decides-eqb (n, tt))
decided (view.BcQueueLenUsed n) =
    decided_at enum _ is (inr (inr (inr (inr (inr (inr (inr (inl (n, tt)))))))))
    (one_field Decides-eqb (n, tt))
decided (view.BcCutoff n) =
    decided_at enum _ is (inr (inr (inr (inr (inr (inr (inr (inr (inl (n, tt))))))))))
    (one_field i32_exact (n, tt))
decided (view.Other d) =
    decided_at enum _ is (inr (inr (inr (inr (inr (inr (inr (inr (inr (inl (d, tt)))))))))))
    (one_field kept_exact (d, tt))

decided_layer : (l : layer.InfoMacVlan-F (Known eq)) →
    Decided eq (roll-InfoMacVlan (map-InfoMacVlan (Known eq) InfoMacVlan (λ e. e.0) l))
decided_layer l =
    subst (Decided eq) (mac_vlan_made (map-InfoMacVlan (Known eq) InfoMacVlan (λ e. e.0) l))
    (subst (λ (v : MacView InfoMacVlan). Decided eq (of_view mac_vlan_labels v))
    (sym (mac_vlan_mapped (λ e. e.0) l)) (decided (mac_vlan_variant l)))

pub mac_vlan_decides : (x y : InfoMacVlan) → Decides (eq-value.it x y) (x ≡ y)
mac_vlan_decides =
    ind-InfoMacVlan (Decided eq)
    (λ x l e. subst (λ z. Decided eq (roll-InfoMacVlan z)) e (decided_layer l))
