pub mod Addresses
pub mod LinkParts
pub mod LinkReading
pub mod Listing
pub mod Payloads
pub mod Reading
pub mod Suited
