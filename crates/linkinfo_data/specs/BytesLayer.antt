-- What contracts say of the layer of peers that are kept as bytes.
use Rattle.nla_frame.specs.declared.bytes.Bytes.{Bytes}
use Rattle.linkinfo_table.specs.Layers.{Families}
use Rattle.linkinfo_data.specs.DataFamilies.{DataFamilies, data_families, data_types}
use Rattle.linkinfo_data.specs.PeerFamilies.{peer_families}
use Rattle.linkinfo_data.specs.PeerLayer.{peer_types}
use Rattle.linkinfo_data.specs.Plain.{plain}

-- the families that it supplies
abbrev pub bytes_families : Families (peer_types Bytes)
bytes_families = peer_families plain.bytes_peer

-- data and port data over it
abbrev pub bytes_layer : DataFamilies (data_types (peer_types Bytes))
bytes_layer = data_families bytes_families
