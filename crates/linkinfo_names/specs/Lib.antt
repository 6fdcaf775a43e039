pub mod Explanation
pub mod Laws
pub mod Names
pub mod Standing
pub mod Uses
