pub mod Lines
pub mod Programs
pub mod Words
