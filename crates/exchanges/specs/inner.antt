-- What only inner contracts and proofs use: nothing here has to be believed.
pub mod Abreast
pub mod ByLowest
pub mod Changed
pub mod Vertices
