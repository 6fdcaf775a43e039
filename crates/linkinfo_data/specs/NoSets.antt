-- Layers in which no data is a set.
use Rattle.std.specs.Prelude.{◌≡◌, false}
use Rattle.linkinfo_data.specs.DataFamilies.{DataFamilies, DataTypes}
use Rattle.linkinfo_data.specs.Refined.{is_set_in}
use Rattle.linkinfo_data.specs.declared.data.DataFamily.{DataFamily}
use Rattle.linkinfo_data.specs.declared.port_data.PortFamily.{PortFamily}

-- the data of no family of a layer is a set, and no port data
pub record HasNoSets {t : DataTypes} (layer : DataFamilies t) : Type 0 where
  pub of_data : (f : DataFamily) → is_set_in (layer.data_of f).contents ≡ false
  pub of_ports : (f : PortFamily) → is_set_in (layer.port_data_of f).contents ≡ false
