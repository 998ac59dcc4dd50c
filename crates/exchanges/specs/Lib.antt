pub mod ExchangesCall
pub mod inner
