-- Data and port data over a layer, whatever the families are that it supplies: what payloads mean
-- under each family, and the canonical payload of each value.
use Rattle.std.specs.Prelude.{ℕ, List}
use Rattle.linkinfo_table.specs.Layers.{Families, Types}
use Rattle.linkinfo_data.specs.Data.{data_of}
use Rattle.linkinfo_data.specs.InfoData.{data_payload}
use Rattle.linkinfo_data.specs.Layered.{DataOf, PortDataOf}
use Rattle.linkinfo_data.specs.Payloads.{Payload}
use Rattle.linkinfo_data.specs.PortData.{port_data_of, port_data_payload}
use Rattle.linkinfo_data.specs.declared.data.DataFamily.{DataFamily}
use Rattle.linkinfo_data.specs.declared.port_data.PortFamily.{PortFamily}

-- a layer, and the types of its data and of its port data
pub record DataTypes : Type 1 where
  pub Layer : Type 0
  pub Data : Type 0
  pub PortData : Type 0

pub record DataFamilies (t : DataTypes) : Type 1 where
  -- what payloads mean as data of a family
  pub data_of : DataFamily → Payload t.Data
  -- the canonical payload of data
  pub data_payload : t.Data → List ℕ
  -- what payloads mean as port data of a family
  pub port_data_of : PortFamily → Payload t.PortData
  -- the canonical payload of port data
  pub port_data_payload : t.PortData → List ℕ

-- those of the layer that supplies these families
abbrev pub data_types : Types → DataTypes
data_types t = record { Layer = t.Layer; Data = DataOf t; PortData = PortDataOf t }

abbrev pub data_families : {t : Types} → Families t → DataFamilies (data_types t)
data_families f = record {
  data_of = data_of f;
  data_payload = data_payload f;
  port_data_of = port_data_of f;
  port_data_payload = port_data_payload f;
}
