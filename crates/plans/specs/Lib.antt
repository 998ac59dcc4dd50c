pub mod Record
pub mod Kind
pub mod Check
pub mod CheckCall
pub mod inner
