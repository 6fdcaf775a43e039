pub mod ByteLists
pub mod Emitting
pub mod Framing
pub mod Stepping
pub mod Walking
