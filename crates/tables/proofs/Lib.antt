pub mod BestCode
pub mod BestCall
pub mod FillingCode
pub mod PartsCode
