pub mod Multiples
pub mod Shift
pub mod SquareOrder
mod Parts
mod Halved
pub mod Superblocks
pub mod TableOrder
mod Quadtree
pub mod BitOrder
mod Centre
mod StripeTables
