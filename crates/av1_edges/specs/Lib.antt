pub mod Parts
pub mod Sides
pub mod Edges
pub mod Buffers
pub mod Within
