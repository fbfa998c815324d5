pub mod Words
pub mod WordLaws
pub mod Output
pub mod Levels
pub mod Plans
