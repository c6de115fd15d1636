pub mod Tools
pub mod Answers
pub mod Ends
pub mod EndsInTurn
