-- What only inner contracts and proofs use: nothing here has to be believed.
pub mod Best
pub mod BestFilling
pub mod Filling
pub mod Paths
pub mod Lowest
