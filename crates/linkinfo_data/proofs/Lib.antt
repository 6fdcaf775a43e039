pub mod DataNamed
pub mod Located
pub mod Stated
pub mod Supplied
