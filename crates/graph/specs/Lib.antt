pub mod Counted
pub mod Placed
pub mod Members
pub mod Walk
pub mod Drawn
