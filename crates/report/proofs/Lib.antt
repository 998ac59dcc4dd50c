pub mod Pushing
pub mod Decimal
pub mod LineLaws
pub mod Spots
pub mod Composing
pub mod Lengths
