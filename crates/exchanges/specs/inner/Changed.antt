-- Part of a table rewritten: scaffolding of inner contracts and proofs, nothing a reader must believe.
use Rattle.std.specs.Prelude.{List, ◌≡◌, ℕ, ◌<◌, length, get_or}

-- `new` is `old` but for the entries below k at which P holds: these are the values of f
pub record Changed (P : ℕ → Type 0) (k : ℕ) (f : ℕ → ℕ) (old new : List ℕ) : Type 0 where
  pub same_length : length new ≡ length old
  pub done : (i : ℕ) → i < k → P i → get_or new i 0 ≡ f i
  pub kept : (i : ℕ) → (i < k → P i → ⊥) → get_or new i 0 ≡ get_or old i 0
