-- What holds of the set of one vertex, or of none where there is no room for it.
use Prim.Native.Nat.{ℕ, ◌^◌, ◌≤◌, ◌<◌}
use native.Mathlib.Decide.{dec_lt}
use native.Mathlib.Omega.{arith}
use lib.Dec.{ltb}
use borrow.Author.Tests.{lt-ltb, le-ltb}
use Rattle.kep.specs.Sets.{counted}

pub by_bit : (P : ℕ → Type 0) (v : ℕ) → (v < 16 → P (2 ^ v)) → (16 ≤ v → P 0) → P (counted (ltb v 16) (2 ^ v))
by_bit P v one none = elim (dec_lt v 16) [
  | yes l ↦ rw (lt-ltb v 16 l) (one l)
  | no n ↦ rw (le-ltb v 16 (omega arith)) (none (omega arith))
]
