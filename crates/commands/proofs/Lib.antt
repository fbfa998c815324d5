pub mod Found
pub mod Taken
pub mod Entries
pub mod Writing
pub mod Back
pub mod Whole
pub mod Answered
