pub mod Scans
pub mod Touches
pub mod Bests
