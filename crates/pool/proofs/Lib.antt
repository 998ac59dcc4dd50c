-- tests in order
pub mod Tested
pub mod TestsInOrder
pub mod Causes
-- a pool as a value, and limits
pub mod ValueLaws
pub mod Accepted
