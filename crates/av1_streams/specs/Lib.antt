pub mod Adapters
pub mod Faults
pub mod Memory
pub mod Streams
pub mod Tasks
