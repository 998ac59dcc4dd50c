pub mod Given
pub mod Changed
pub mod Looking
pub mod ByLowest
pub mod Keeping
pub mod EightLanes
pub mod ExchangesCall
