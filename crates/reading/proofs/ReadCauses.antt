-- By which cause reading refuses: 1 and 2 of the whole, and then those of record after record.
use mathlib.Core.List.{List, [], ◌∷◌, ◌++◌}
use mathlib.Core.Logic.{◌↔◌}
use mathlib.Core.Path.{◌≡◌, refl, ap, ◌∙◌}
use Prim.Native.Nat.{ℕ, suc}
use native.Mathlib.Omega.{arith}
use lib.ListN.{length, length-append}
use Rattle.pool.specs.declared.value.Pool.{Pool}
use Rattle.kep.specs.Lists.{Each}
use Rattle.pool.specs.Causes.{Pass, FirstMet}
use Rattle.pool.specs.Refusals.{Outcome, accepted, refused, tested}
use Rattle.reading.specs.Fields.{pool_records}
use Rattle.reading.specs.Records.{length_tests, field_tests, pool_tests, records_tested, read_pool}
use Rattle.reading.specs.computed.Pool.{pool_of}
use Rattle.pool.proofs.Causes.{in_turn, met_refused, met_accepted}

records_in_turn : {A : Type 0} (before rs : List (List ℕ)) (rest : Outcome A) → records_tested before rs rest ≡ in_turn (pool_tests before rs) (length before) rest
unfolding records_tested in_turn pool_tests
records_in_turn before [] rest = refl
records_in_turn before (r ∷ rs) rest =
    let next : length (before ++ (r ∷ [])) ≡ suc (length before) = omega (arith, length-append before (r ∷ [])) in
    ap (λ o. tested (field_tests before r) (length before) o)
    (records_in_turn (before ++ (r ∷ [])) rs rest ∙ ap (λ at. in_turn (pool_tests (before ++ (r ∷ [])) rs) at rest) next)

module _ (bytes : List ℕ) where
  read_in_turn : read_pool bytes ≡ tested (length_tests bytes) 0 (in_turn (pool_tests [] (pool_records bytes)) 0 (accepted (pool_of (pool_records bytes))))
  unfolding read_pool
  read_in_turn = ap (λ o. tested (length_tests bytes) 0 o) (records_in_turn [] (pool_records bytes) (accepted (pool_of (pool_records bytes))))

  pub read_refused_by : {n at : ℕ} → (read_pool bytes ≡ refused n at) ↔ FirstMet (length_tests bytes) (pool_tests [] (pool_records bytes)) n at
  read_refused_by = rw read_in_turn (met_refused (pool_of (pool_records bytes)) (length_tests bytes) (pool_tests [] (pool_records bytes)))

  pub read_accepted_by : {p : Pool}
      → (read_pool bytes ≡ accepted p) ↔ (Each Pass (length_tests bytes) × Each (Each Pass) (pool_tests [] (pool_records bytes)) × (pool_of (pool_records bytes) ≡ p))
  read_accepted_by = rw read_in_turn (met_accepted (pool_of (pool_records bytes)) (length_tests bytes) (pool_tests [] (pool_records bytes)))
