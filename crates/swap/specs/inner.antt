-- What only inner contracts and proofs use: nothing here has to be believed.
pub mod Reading
pub mod Retrying
