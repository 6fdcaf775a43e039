-- Data of bridge, tun, vlan, bond, hsr, can and dsa links: what payloads mean under each family,
-- and the variant that holds it.
use Rattle.linkinfo_table.specs.Layers.{Families, Types}
use Rattle.linkinfo_data.specs.Layered.{DataOf}
use Rattle.linkinfo_data.specs.declared.info_data.InfoDataOf.TheVariants as info
use Rattle.linkinfo_data.specs.declared.lower.LowerFamily.{LowerFamily}
use Rattle.linkinfo_data.specs.declared.lower.LowerFamily.TheVariants as of
use Rattle.linkinfo_data.specs.Known.{IsKnown, list_is_known}
use Rattle.linkinfo_data.specs.Payloads.{Payload, as_list}
use Rattle.linkinfo_table.specs.Layers.{IsLayer}
use Rattle.linkinfo_data.specs.PeerFamilies.{peer_families}
use Rattle.linkinfo_data.specs.Plain.{plain}
use Rattle.linkinfo_data.specs.Refined.{Refines, list_refined, opaque_verbatim}

abbrev pub lower_data_of : {t : Types} → Families t → LowerFamily → Payload (DataOf t)
-- Begin: written by tables/generate from tables/kinds (data).
lower_data_of layer of.Bridge = as_list layer.bridge (λ xs. info.Bridge xs)
lower_data_of layer of.Tun = as_list layer.tun (λ xs. info.Tun xs)
lower_data_of layer of.Vlan = as_list layer.vlan (λ xs. info.Vlan xs)
lower_data_of layer of.Bond = as_list layer.bond (λ xs. info.Bond xs)
lower_data_of layer of.Hsr = as_list layer.hsr (λ xs. info.Hsr xs)
lower_data_of layer of.Can = as_list layer.can (λ xs. info.Can xs)
lower_data_of layer of.Dsa = as_list layer.dsa (λ xs. info.Dsa xs)

-- End: written by tables/generate.

pub lower_known : {t : Types} (layer : Families t) (f : LowerFamily) →
    IsKnown (lower_data_of layer f)
-- Begin: written by tables/generate from tables/kinds (known).
lower_known layer of.Bridge = list_is_known layer.bridge (λ xs. info.Bridge xs)
lower_known layer of.Tun = list_is_known layer.tun (λ xs. info.Tun xs)
lower_known layer of.Vlan = list_is_known layer.vlan (λ xs. info.Vlan xs)
lower_known layer of.Bond = list_is_known layer.bond (λ xs. info.Bond xs)
lower_known layer of.Hsr = list_is_known layer.hsr (λ xs. info.Hsr xs)
lower_known layer of.Can = list_is_known layer.can (λ xs. info.Can xs)
lower_known layer of.Dsa = list_is_known layer.dsa (λ xs. info.Dsa xs)

-- End: written by tables/generate.

pub lower_refined : {t : Types} (layer : Families t) → IsLayer layer → (f : LowerFamily) →
    Refines (lower_data_of layer f) (lower_data_of (peer_families layer.peer) f)
-- Begin: written by tables/generate from tables/kinds (beside).
lower_refined layer is of.Bridge =
    list_refined layer.bridge plain.bridge (opaque_verbatim _ _) is.bridge.laws _ _
lower_refined layer is of.Tun =
    list_refined layer.tun plain.tun (opaque_verbatim _ _) is.tun.laws _ _
lower_refined layer is of.Vlan =
    list_refined layer.vlan plain.vlan (opaque_verbatim _ _) is.vlan.laws _ _
lower_refined layer is of.Bond =
    list_refined layer.bond plain.bond (opaque_verbatim _ _) is.bond.laws _ _
lower_refined layer is of.Hsr =
    list_refined layer.hsr plain.hsr (opaque_verbatim _ _) is.hsr.laws _ _
lower_refined layer is of.Can =
    list_refined layer.can plain.can (opaque_verbatim _ _) is.can.laws _ _
lower_refined layer is of.Dsa =
    list_refined layer.dsa plain.dsa (opaque_verbatim _ _) is.dsa.laws _ _

-- End: written by tables/generate.
