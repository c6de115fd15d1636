pub mod Digits
pub mod Filling
pub mod Performing
pub mod Told
pub mod Prefixes
pub mod Reading
