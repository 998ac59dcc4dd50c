-- Demand 1: which causes a call meets, and what a refusal leaves. For each call: it refuses by number and spot exactly where the test of that number
-- is the first that fails, and accepts exactly where all pass; and a refusal leaves all lent memory as it was. That every call ends and does
-- nothing undefined is no theorem here: every function of every crate is proved for every input, and no public one has a `requires`.
--
-- A call's tests are a list, in the order of their numbers. `FirstFails ts n`: n is the number of the first test that fails, so all before it pass.
-- `FirstRecord tss n i`: record i is the first of which a test fails, and n is the number of that one. `FirstMet whole tss n at`: a test of the
-- whole, with spot 0; or all of these pass, and it is one of record `at`. (pool, proofs/TestsInOrder and proofs/Causes)
use mathlib.Core.List.{List, [], ◌∷◌}
use mathlib.Core.Logic.{◌↔◌, ◌⊎◌}
use mathlib.Core.Path.{◌≡◌}
use Prim.Native.Nat.{ℕ, ◌^◌}
use lib.ListN.{length, drop}
use Rattle.pool.specs.declared.value.Pool.{Pool}
use Rattle.pool.specs.declared.limits.Limits.{Limits}
use Rattle.kep.specs.Lists.{Each, flat}
use Rattle.kep.specs.Table.{served}
use Rattle.pool.specs.Refusals.{Outcome, accepted, refused, tested, and_then}
use Rattle.pool.specs.Limits.{limits_fit, test_limits}
use Rattle.reading.specs.Records.{length_tests, read_pool, pool_tests}
use Rattle.reading.specs.computed.Pool.{pool_of}
use Rattle.reading.specs.Fields.{pool_records}
use Rattle.pool.specs.Value.{graph_of, pool_fits, test_pool}
use Rattle.tables.specs.declared.best.BestFilled.{BestFilled}
use Rattle.tables.proofs.BestCall.{told_all}
use Rattle.tables.specs.Calls.{best_tests, best_outcome, best_left}
use Rattle.exchanges.specs.ExchangesCall.{exchanges_tests, exchanges_outcome, exchanges_left}
use Rattle.plans.specs.Check.{lists_in}
use Rattle.plans.specs.CheckCall.{check_outcome}
use Rattle.clearing.specs.computed.Cleared.{clear_outcome}
use Rattle.claims.specs.Plans.{whole_tests, records_tests, Lent, left, tests_of, value_tests, byte_tests}
use Rattle.pool.specs.Causes.{Pass, FirstFails, FirstMet}
use Rattle.pool.proofs.Causes.{alone_refused, alone_accepted}
use Rattle.reading.proofs.ReadCauses.{read_refused_by, read_accepted_by}
use Rattle.claims.proofs.CheckerLaws.{check_refused_by, check_accepted_by}
use Rattle.claims.proofs.ClearingLaws.{left_untouched, value_refused_by, value_accepted_by, no_6, bytes_refused_by, bytes_accepted_by}

-- ---- reading pool bytes: 1 and 2, and then 3, 4, 5 and 18 record by record. Nothing is lent to write.

module _ (bytes : List ℕ) where
  pub read_refuses : {n at : ℕ} → (read_pool bytes ≡ refused n at) ↔ FirstMet (length_tests bytes) (pool_tests [] (pool_records bytes)) n at
  read_refuses = read_refused_by bytes

  pub read_accepts : {p : Pool}
      → (read_pool bytes ≡ accepted p) ↔ (Each Pass (length_tests bytes) × Each (Each Pass) (pool_tests [] (pool_records bytes)) × (pool_of (pool_records bytes) ≡ p))
  read_accepts = read_accepted_by bytes

-- ---- a pool value, and limits, by themselves: 6 and 7

pub value_refuses : (p : Pool) {n at : ℕ} → (test_pool p ≡ refused n at) ↔ (FirstFails ((6, pool_fits p) ∷ []) n × (at ≡ 0))
unfolding test_pool
value_refuses p = alone_refused p ((6, pool_fits p) ∷ []) 0

pub limits_refuses : (l : Limits) {n at : ℕ} → (test_limits l ≡ refused n at) ↔ (FirstFails ((7, limits_fit l) ∷ []) n × (at ≡ 0))
unfolding test_limits
limits_refuses l = alone_refused l ((7, limits_fit l) ∷ []) 0

-- ---- filling the exchange table: 6, 7, 8

module _ (p : Pool) (l : Limits) (table : List ℕ) where
  pub exchanges_refuses : {n at : ℕ} → (exchanges_outcome p l table ≡ refused n at) ↔ (FirstFails (exchanges_tests p l (length table)) n × (at ≡ 0))
  unfolding exchanges_outcome
  exchanges_refuses = alone_refused (2 ^ p.size) (exchanges_tests p l (length table)) 0

  pub exchanges_accepts : {k : ℕ} → (exchanges_outcome p l table ≡ accepted k) ↔ (Each Pass (exchanges_tests p l (length table)) × (2 ^ p.size ≡ k))
  unfolding exchanges_outcome
  exchanges_accepts = alone_accepted (2 ^ p.size) (exchanges_tests p l (length table)) 0

  pub exchanges_untouched : {n at : ℕ} → exchanges_outcome p l table ≡ refused n at → exchanges_left p l table ≡ table
  unfolding exchanges_left
  exchanges_untouched e = rw e

-- ---- filling the best table: 6, 8, 9

module _ (p : Pool) (exchanges table : List ℕ) where
  pub best_refuses : {n at : ℕ} → (best_outcome p exchanges table ≡ refused n at) ↔ (FirstFails (best_tests p exchanges table) n × (at ≡ 0))
  unfolding best_outcome
  best_refuses = alone_refused (told_all p exchanges table) (best_tests p exchanges table) 0

  pub best_accepts : {filled : BestFilled} → (best_outcome p exchanges table ≡ accepted filled) ↔ (Each Pass (best_tests p exchanges table) × (told_all p exchanges table ≡ filled))
  unfolding best_outcome
  best_accepts = alone_accepted (told_all p exchanges table) (best_tests p exchanges table) 0

  pub best_untouched : {n at : ℕ} → best_outcome p exchanges table ≡ refused n at → best_left p exchanges table ≡ table
  unfolding best_left
  best_untouched e = rw e

-- ---- clearing

-- whichever of the two calls it is: `o` is what its tests came to
pub clearing_untouched : (l : Limits) (o : Outcome Pool) {n at : ℕ} → clear_outcome l o ≡ refused n at → (lent : Lent) → left l o lent ≡ lent
clearing_untouched l o e lent = left_untouched l o e lent

-- `clear_value`: 6 to 10
module _ (p : Pool) (l : Limits) (lent : Lent) where
  pub clear_value_refuses : {n at : ℕ} → (clear_outcome l (value_tests p l lent) ≡ refused n at) ↔ (FirstFails (tests_of p l lent) n × (at ≡ 0))
  clear_value_refuses = value_refused_by p l lent

  pub clear_value_accepts : ((k : ℕ) × (r : ℕ) × (clear_outcome l (value_tests p l lent) ≡ accepted (k, r))) ↔ Each Pass (tests_of p l lent)
  clear_value_accepts = value_accepted_by p l lent

-- `clear`: the causes of reading, and then 7 to 10. A pool that was read meets no 6.
module _ (bytes : List ℕ) (l : Limits) (lent : Lent) where
  pub read_meets_no_6 : byte_tests bytes l lent ≡ and_then (read_pool bytes) (λ p. tested (drop 1 (tests_of p l lent)) 0 (accepted p))
  read_meets_no_6 = no_6 bytes l lent

  pub clear_refuses : {n at : ℕ} → (clear_outcome l (byte_tests bytes l lent) ≡ refused n at)
      ↔ ((read_pool bytes ≡ refused n at) ⊎ ((p : Pool) × (read_pool bytes ≡ accepted p) × FirstFails (drop 1 (tests_of p l lent)) n × (at ≡ 0)))
  clear_refuses = bytes_refused_by bytes l lent

  pub clear_accepts : ((k : ℕ) × (r : ℕ) × (clear_outcome l (byte_tests bytes l lent) ≡ accepted (k, r)))
      ↔ ((p : Pool) × (read_pool bytes ≡ accepted p) × Each Pass (drop 1 (tests_of p l lent)))
  clear_accepts = bytes_accepted_by bytes l lent

-- ---- checking: the causes of reading, 7, 11, and then 12 to 17 record by record. Nothing is lent to write.

module _ (bytes : List ℕ) (l : Limits) (plan : List ℕ) where
  pub check_refuses : {n at : ℕ} → (check_outcome bytes l plan ≡ refused n at)
      ↔ ((read_pool bytes ≡ refused n at) ⊎ ((p : Pool) × (read_pool bytes ≡ accepted p) × FirstMet (whole_tests l plan) (records_tests p l plan) n at))
  check_refuses = check_refused_by bytes l plan

  pub check_accepts : {k : ℕ} → (check_outcome bytes l plan ≡ accepted k)
      ↔ (
      (p : Pool)
      × (read_pool bytes ≡ accepted p)
      × Each Pass (whole_tests l plan)
      × Each (Each Pass) (records_tests p l plan)
      × (served (graph_of p) (flat (lists_in plan)) ≡ k)
      )
  check_accepts = check_accepted_by bytes l plan
