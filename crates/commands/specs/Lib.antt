pub mod Calls
pub mod Reading
pub mod Looks
pub mod Writing
pub mod Laws
