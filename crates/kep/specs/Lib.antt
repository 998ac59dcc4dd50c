pub mod Lists
pub mod Graph
pub mod Sets
pub mod Exchange
pub mod Table
pub mod Trying
pub mod Plan
pub mod Retold
-- what contracts promise, worked out, and explained by the claims
pub mod computed
-- what only inner contracts and proofs use
pub mod inner
