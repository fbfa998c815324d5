pub mod View
pub mod State
pub mod Entries
pub mod Lacks
pub mod Next
pub mod Listed
