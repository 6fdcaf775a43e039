pub mod Data
pub mod DataLaws
pub mod ShapeLaws
pub mod Shapes
pub mod Table
pub mod Typed
