pub mod Fields
pub mod Digest
pub mod Answers
pub mod Drawn
pub mod Rows
pub mod Calls
pub mod Available
