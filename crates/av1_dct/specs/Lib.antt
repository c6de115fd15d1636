pub mod Arithmetic
pub mod Operations
pub mod Cosine
pub mod InPlace
pub mod Word
pub mod Columns
