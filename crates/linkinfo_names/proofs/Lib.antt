pub mod Short
pub mod Offsets
pub mod Under
