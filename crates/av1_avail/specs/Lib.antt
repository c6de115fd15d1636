pub mod Order
pub mod Cells
pub mod Tables
pub mod Availability
pub mod Bits
pub mod Agreement
pub mod Stripes
pub mod Asked
