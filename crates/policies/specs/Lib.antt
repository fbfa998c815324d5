pub mod Doing
pub mod Made
pub mod Covered
pub mod Uncounted
