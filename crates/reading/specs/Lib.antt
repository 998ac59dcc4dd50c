pub mod Fields
pub mod Records
-- what contracts promise, worked out, and explained by the claims
pub mod computed
-- what only inner contracts and proofs use
pub mod inner
