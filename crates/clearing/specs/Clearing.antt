-- Clearing: what its answer stands for, and what is accepted.
use Rattle.std.specs.Prelude.{Bool, List, [], ◌∷◌, ◌++◌, ℕ, ◌*◌, ◌^◌, leb, length, Result, Ok, Err}
use Rattle.pool.specs.declared.value.Pool.{Pool}
use Rattle.pool.specs.declared.limits.Limits.{Limits}
use Rattle.pool.specs.declared.refusal.Refusal.{Refusal}
use Rattle.reading.specs.Records.{read_pool}
use Rattle.pool.specs.Refusals.{number_of, Outcome, accepted, refused, tested, and_then}
use Rattle.exchanges.specs.ExchangesCall.{exchanges_tests}
use Rattle.clearing.specs.declared.clearing.Cleared.{Cleared}

-- the members served and the number of records, or the refusal
abbrev pub cleared_outcome : Result Cleared Refusal → Outcome (ℕ × ℕ)
cleared_outcome (Ok c) = accepted (c.served, c.records)
cleared_outcome (Err r) = refused (number_of r.cause) r.at

-- ---- what is accepted

-- 6, 7 and 8 as for the exchange table; 9: a best table under 2 to the n entries; 10: a plan buffer under 16 × n bytes; by the lengths of what is lent
abbrev pub lent_tests : Pool → Limits → ℕ → ℕ → ℕ → List (ℕ × Bool)
lent_tests p l exchanges best plan =
    exchanges_tests p l exchanges ++ (9, leb (2 ^ p.size) best) ∷ (10, leb (16 * p.size) plan) ∷ []

-- by the memory itself
abbrev pub clear_tests : Pool → Limits → List ℕ → List ℕ → List ℕ → List (ℕ × Bool)
clear_tests p l exchanges best plan = lent_tests p l (length exchanges) (length best) (length plan)

-- of a pool value
unfoldable pub clearable_value : Pool → Limits → List ℕ → List ℕ → List ℕ → Outcome Pool
clearable_value p l exchanges best plan = tested (clear_tests p l exchanges best plan) 0 (accepted p)

-- of pool bytes: the causes of reading first; 6 is met by no pool that was read
unfoldable pub clearable : List ℕ → Limits → List ℕ → List ℕ → List ℕ → Outcome Pool
clearable bytes l exchanges best plan = and_then (read_pool bytes) (λ p. clearable_value p l exchanges best plan)
