pub mod Puts
pub mod Hexes
pub mod Carrying
pub mod Lengths
pub mod Apart
pub mod Going
pub mod Items
