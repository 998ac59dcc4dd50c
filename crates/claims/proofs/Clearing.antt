-- Demand 3, clearing: what the calls tell and leave, where they accept what they are lent. `clear_outcome` is what a call tells and `left` what it
-- leaves of the memory, by its contract; k is the number of members served, and r that of records.
use mathlib.Core.List.{List}
use mathlib.Core.Path.{◌≡◌}
use Prim.Native.Nat.{ℕ}
use Rattle.pool.specs.declared.value.Pool.{Pool}
use Rattle.pool.specs.declared.limits.Limits.{Limits}
use Rattle.pool.specs.Refusals.{accepted}
use Rattle.reading.specs.Records.{read_pool}
use Rattle.clearing.specs.computed.Cleared.{clear_outcome}
use Rattle.claims.specs.Plans.{Lent, Clears, left, value_tests, byte_tests}
use Rattle.claims.proofs.ClearingLaws.{value_cleared, bytes_cleared}

-- `clear` clears the pool that the bytes hold.
pub clear_clears : (bytes : List ℕ) (l : Limits) (lent : Lent) {k r : ℕ} → clear_outcome l (byte_tests bytes l lent) ≡ accepted (k, r)
    → (p : Pool) × (read_pool bytes ≡ accepted p) × Clears p l k r lent (left l (byte_tests bytes l lent) lent)
clear_clears bytes l lent told = bytes_cleared bytes l lent told

-- `clear_value` clears the pool value.
pub value_clears : (p : Pool) (l : Limits) (lent : Lent) {k r : ℕ} → clear_outcome l (value_tests p l lent) ≡ accepted (k, r)
    → Clears p l k r lent (left l (value_tests p l lent) lent)
value_clears p l lent told = value_cleared p l lent told
