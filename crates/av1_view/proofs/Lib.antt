pub mod Groups
pub mod Pages
pub mod Joined
pub mod Packing
pub mod TraceOutcomes
pub mod FileAnswers
pub mod SequenceFiles
pub mod TilesFiles
