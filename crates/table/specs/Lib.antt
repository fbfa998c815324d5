pub mod Named
pub mod Slots
pub mod Touching
pub mod Least
pub mod Changed
