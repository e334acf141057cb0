pub mod Shapes
pub mod Root
pub mod Grid
pub mod Lifted
