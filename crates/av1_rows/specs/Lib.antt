pub mod Errors
pub mod Runs
pub mod Rows
pub mod Tallies
pub mod Reports
pub mod Replays
