pub mod RecordLaws
pub mod Passed
pub mod Scanning
pub mod ForPlaces
pub mod ReadLaws
pub mod ReadPool
pub mod Houses
pub mod ReadCauses
