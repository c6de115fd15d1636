pub mod Filters
pub mod Motion
pub mod Places
pub mod Reference
pub mod Prediction
pub mod Laws
pub mod Scaffolding
