pub mod Refusals
pub mod Causes
pub mod Limits
pub mod Value
