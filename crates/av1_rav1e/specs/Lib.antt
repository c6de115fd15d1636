pub mod Blocks
pub mod TileLuma
pub mod Lending
