pub mod Samples
pub mod Differences
pub mod Rows
pub mod DifferenceLines
pub mod TraceErrors
pub mod Traces
pub mod Checking
pub mod Answers
