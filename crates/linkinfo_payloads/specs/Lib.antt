pub mod Addresses
pub mod Arrays
pub mod Exact
pub mod Fixed
pub mod Layouts
pub mod Payloads
pub mod Record
pub mod Records
