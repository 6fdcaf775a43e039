pub mod Fits
pub mod Parts
pub mod Words
mod Places
