pub mod Puts
pub mod Lines
pub mod States
pub mod Held
pub mod Streams
pub mod Laws
pub mod Steps
pub mod Apart
