-- Data of tunnels: what payloads mean under each family, and the variant that holds it.
use Rattle.linkinfo_table.specs.Layers.{Types}
use Rattle.linkinfo_data.specs.Layered.{DataOf}
use Rattle.linkinfo_data.specs.declared.info_data.InfoDataOf.TheVariants as info
use Rattle.linkinfo_data.specs.declared.tunnels.TunnelFamily.{TunnelFamily}
use Rattle.linkinfo_data.specs.declared.tunnels.TunnelFamily.TheVariants as of
use Rattle.linkinfo_data.specs.Known.{IsKnown, list_is_known}
use Rattle.linkinfo_data.specs.Payloads.{Payload, as_list}
use Rattle.linkinfo_data.specs.Plain.{plain}
use Rattle.linkinfo_data.specs.PeerLayer.{peer_types}
use Rattle.linkinfo_data.specs.Refined.{AreEqual, list_equal}

abbrev pub tunnels_data_of : (t : Types) → TunnelFamily → Payload (DataOf t)
-- Begin: written by tables/generate from tables/kinds (data).
tunnels_data_of t of.Vxlan = as_list plain.vxlan (λ xs. info.Vxlan xs)
tunnels_data_of t of.GreTap = as_list plain.gre (λ xs. info.GreTap xs)
tunnels_data_of t of.GreTap6 = as_list plain.gre6 (λ xs. info.GreTap6 xs)
tunnels_data_of t (of.IpTunnel tag) = as_list (plain.ip_tunnel tag) (λ xs. info.IpTunnel xs)
tunnels_data_of t of.GreTun = as_list plain.gre (λ xs. info.GreTun xs)
tunnels_data_of t of.GreTun6 = as_list plain.gre6 (λ xs. info.GreTun6 xs)
tunnels_data_of t of.Vti = as_list plain.vti (λ xs. info.Vti xs)
tunnels_data_of t of.Gtp = as_list plain.gtp (λ xs. info.Gtp xs)
tunnels_data_of t of.Geneve = as_list plain.geneve (λ xs. info.Geneve xs)
tunnels_data_of t of.Amt = as_list plain.amt (λ xs. info.Amt xs)
tunnels_data_of t of.BareUdp = as_list plain.bare_udp (λ xs. info.BareUdp xs)
tunnels_data_of t of.ErSpan = as_list plain.gre (λ xs. info.ErSpan xs)
tunnels_data_of t of.Ip6ErSpan = as_list plain.gre6 (λ xs. info.Ip6ErSpan xs)

-- End: written by tables/generate.

pub tunnels_known : (t : Types) (f : TunnelFamily) →
    IsKnown (tunnels_data_of t f)
-- Begin: written by tables/generate from tables/kinds (known).
tunnels_known t of.Vxlan = list_is_known plain.vxlan (λ xs. info.Vxlan xs)
tunnels_known t of.GreTap = list_is_known plain.gre (λ xs. info.GreTap xs)
tunnels_known t of.GreTap6 = list_is_known plain.gre6 (λ xs. info.GreTap6 xs)
tunnels_known t (of.IpTunnel tag) =
    list_is_known (plain.ip_tunnel tag) (λ xs. info.IpTunnel xs)
tunnels_known t of.GreTun = list_is_known plain.gre (λ xs. info.GreTun xs)
tunnels_known t of.GreTun6 = list_is_known plain.gre6 (λ xs. info.GreTun6 xs)
tunnels_known t of.Vti = list_is_known plain.vti (λ xs. info.Vti xs)
tunnels_known t of.Gtp = list_is_known plain.gtp (λ xs. info.Gtp xs)
tunnels_known t of.Geneve = list_is_known plain.geneve (λ xs. info.Geneve xs)
tunnels_known t of.Amt = list_is_known plain.amt (λ xs. info.Amt xs)
tunnels_known t of.BareUdp = list_is_known plain.bare_udp (λ xs. info.BareUdp xs)
tunnels_known t of.ErSpan = list_is_known plain.gre (λ xs. info.ErSpan xs)
tunnels_known t of.Ip6ErSpan = list_is_known plain.gre6 (λ xs. info.Ip6ErSpan xs)

-- End: written by tables/generate.

pub tunnels_equal : (t : Types) (f : TunnelFamily) →
    AreEqual (tunnels_data_of t f) (tunnels_data_of (peer_types t.Peer) f)
-- Begin: written by tables/generate from tables/kinds (beside).
tunnels_equal t of.Vxlan = list_equal plain.vxlan _ _
tunnels_equal t of.GreTap = list_equal plain.gre _ _
tunnels_equal t of.GreTap6 = list_equal plain.gre6 _ _
tunnels_equal t (of.IpTunnel tag) = list_equal (plain.ip_tunnel tag) _ _
tunnels_equal t of.GreTun = list_equal plain.gre _ _
tunnels_equal t of.GreTun6 = list_equal plain.gre6 _ _
tunnels_equal t of.Vti = list_equal plain.vti _ _
tunnels_equal t of.Gtp = list_equal plain.gtp _ _
tunnels_equal t of.Geneve = list_equal plain.geneve _ _
tunnels_equal t of.Amt = list_equal plain.amt _ _
tunnels_equal t of.BareUdp = list_equal plain.bare_udp _ _
tunnels_equal t of.ErSpan = list_equal plain.gre _ _
tunnels_equal t of.Ip6ErSpan = list_equal plain.gre6 _ _

-- End: written by tables/generate.
