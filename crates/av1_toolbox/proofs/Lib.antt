pub mod Ends
pub mod EndsInTurn
