-- The roles of the data that a layer supplies.
use Rattle.std.specs.Prelude.{◌≡◌, ◌↔◌, true, refl}
use Rattle.std.specs.List.{Contains}
use Rattle.std.proofs.Common.{arith}
use Rattle.std.proofs.lemmas.List.Elements.{All-contains, All-from_recursion}
use Rattle.linkinfo_numbers.specs.declared.tags.KindTag.{KindTag}
use Rattle.linkinfo_numbers.specs.declared.tags.KindTag.TheVariants as tag
use Rattle.linkinfo_numbers.specs.declared.tags.PortTag.{PortTag}
use Rattle.linkinfo_numbers.specs.declared.tags.PortTag.TheVariants as port
use Rattle.linkinfo_data.specs.Data.{family_of, is_supplied}
use Rattle.linkinfo_data.specs.PortData.{is_port_supplied, port_family_of}
use Rattle.linkinfo.specs.Elsewhere.{is_supplied_data, supplied_roles}
use Rattle.linkinfo.specs.declared.role.Role.{Role}
use Rattle.linkinfo.specs.declared.role.Role.TheVariants as role

kind_there : (kind : KindTag) → is_supplied (family_of kind) ≡ true →
    Contains supplied_roles (role.Data kind)
kind_there tag.Bond e = (0, omega arith, refl)
kind_there tag.Bridge e = (1, omega arith, refl)
kind_there tag.Vlan e = (2, omega arith, refl)
kind_there tag.Can e = (3, omega arith, refl)
kind_there tag.Hsr e = (4, omega arith, refl)
kind_there tag.Dsa e = (5, omega arith, refl)
kind_there tag.Tun e = (6, omega arith, refl)
kind_there _ e = absurd cc

port_there : (kind : PortTag) → is_port_supplied (port_family_of kind) ≡ true →
    Contains supplied_roles (role.PortData kind)
port_there port.Bond e = (7, omega arith, refl)
port_there port.Bridge e = (8, omega arith, refl)
port_there _ e = absurd cc

there : (r : Role) → is_supplied_data r ≡ true → Contains supplied_roles r
there (role.Data kind) e = kind_there kind e
there (role.PortData kind) e = port_there kind e
there _ e = absurd cc

pub supplied_is : (r : Role) → (is_supplied_data r ≡ true) ↔ Contains supplied_roles r
supplied_is r = (
  there r,
  All-contains (λ (q : Role). is_supplied_data q ≡ true) supplied_roles r
      (All-from_recursion (λ (q : Role). is_supplied_data q ≡ true) supplied_roles
      (refl, (refl, (refl, (refl, (refl, (refl, (refl, (refl, (refl, tt)))))))))),
)
