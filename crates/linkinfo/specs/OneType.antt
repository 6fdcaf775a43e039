-- For authors of a layer: equivalent attributes of a family given by rows have one type.
pub use Rattle.linkinfo_table.specs.OneType.{rows_type}
