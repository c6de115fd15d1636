pub mod Depths
pub mod LeftShift
pub mod Sides
