pub mod AllUnmets
pub mod UnmetOrder
mod RowPayloads
mod Firsts
pub mod Blocks
pub mod Differences
pub mod Lasts
pub mod Layering
pub mod Measuring
pub mod RowAnswers
pub mod Unmets
pub mod Writing
