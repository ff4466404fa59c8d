pub mod CallCases
pub mod Runs
pub mod Answers
