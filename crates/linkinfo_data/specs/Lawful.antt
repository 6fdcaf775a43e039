-- Data and port data of each family are lawful.
use Rattle.linkinfo_data.specs.declared.data.DataFamily.{DataFamily}
use Rattle.linkinfo_data.specs.declared.port_data.PortFamily.{PortFamily}
use Rattle.linkinfo_data.specs.DataFamilies.{DataFamilies, DataTypes}
use Rattle.linkinfo_data.specs.Payloads.{IsLawful}

pub record AreLawful {t : DataTypes} (layer : DataFamilies t) : Type 0 where
  pub link : (f : DataFamily) → IsLawful (layer.data_of f) layer.data_payload
  pub port : (f : PortFamily) → IsLawful (layer.port_data_of f) layer.port_data_payload
