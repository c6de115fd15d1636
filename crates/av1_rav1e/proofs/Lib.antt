pub mod Lending
pub mod Places
pub mod Unchanged
pub mod NearLeaf
