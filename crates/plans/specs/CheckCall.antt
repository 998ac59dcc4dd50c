-- What the call of the checker tells.
use Rattle.std.specs.Prelude.{List, [], ◌∷◌, ℕ}
use Rattle.pool.specs.declared.limits.Limits.{Limits}
use Rattle.pool.specs.Refusals.{Outcome, tested, and_then}
use Rattle.pool.specs.Limits.{limits_fit}
use Rattle.pool.specs.Value.{graph_of}
use Rattle.reading.specs.Records.{read_pool}
use Rattle.plans.specs.Check.{check}

-- the causes of reading the pool; 7; then the plan, from 11 on
abbrev pub check_outcome : List ℕ → Limits → List ℕ → Outcome ℕ
check_outcome pool l plan = and_then (read_pool pool) (λ p. tested ((7, limits_fit l) ∷ []) 0 (check (graph_of p) l.cycle l.chain plan))
