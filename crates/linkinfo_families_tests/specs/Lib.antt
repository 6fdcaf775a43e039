pub mod Marked
pub mod Vlan
