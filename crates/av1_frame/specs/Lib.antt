pub mod Arithmetic
pub mod Samples
pub mod Areas
pub mod Stored
pub mod Planes
pub mod Regions
pub mod Slices
pub mod Frames
