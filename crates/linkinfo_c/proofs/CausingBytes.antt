-- The causes that the error of a list can have over the layer of peers that are kept as bytes.
use Rattle.std.specs.Prelude.{ℕ, List, [], Result, Ok}
use Rattle.linkinfo_table.specs.Codecs.{PayloadError}
use Rattle.linkinfo_data.specs.BytesLayer.{bytes_families, bytes_layer}
use Rattle.linkinfo_data.specs.Plain.{plain}
use Rattle.linkinfo.specs.Strings.{reading}
use Rattle.linkinfo_c.proofs.Causing.{EachError, EachPayloadError, table_errors}
use Rattle.linkinfo_c.proofs.CausingData.{EachPeer, EachSupplied, reading_errors}

-- a payload of a peer that is kept as bytes has no error
sure : {X : Type 0} (x : X) → EachPayloadError (let m : Result X PayloadError = Ok x in m)
sure x = (λ c k. absurd cc, λ e k. absurd cc)

pub bytes_peer_errors : EachPeer plain.bytes_peer
bytes_peer_errors p = sure _

bytes_supplied : EachSupplied bytes_families
bytes_supplied = record {
  peer = bytes_peer_errors;
  bond = table_errors _ _ [];
  bridge = table_errors _ _ [];
  vlan = table_errors _ _ [];
  can = table_errors _ _ [];
  hsr = table_errors _ _ [];
  dsa = table_errors _ _ [];
  tun = table_errors _ _ [];
  bond_port = table_errors _ _ [];
  bridge_port = table_errors _ _ [];
}

pub bytes_errors : (s : List ℕ) → EachError (reading bytes_layer s)
bytes_errors s = reading_errors bytes_families bytes_supplied s
