-- The checker's call by the answers of the calls that it makes: reading the pool, testing the limits, checking the records.
use mathlib.Core.List.{List, [], ◌∷◌}
use mathlib.Core.Path.{◌≡◌, sym, ◌∙◌, ap}
use Prim.Native.Nat.{ℕ}
use Rattle.pool.specs.declared.limits.Limits.{Limits}
use Rattle.pool.specs.declared.value.Pool.{Pool}
use Rattle.pool.specs.Refusals.{Outcome, accepted, refused, tested, and_then}
use Rattle.pool.specs.Limits.{limits_fit, test_limits}
use Rattle.pool.specs.Value.{graph_of}
use Rattle.reading.specs.Records.{read_pool}
use Rattle.plans.specs.Check.{check}
use Rattle.plans.specs.CheckCall.{check_outcome}
use Rattle.pool.proofs.Tested.{with_rest}

module _ (pool : List ℕ) (l : Limits) (plan : List ℕ) where
  -- once the pool is read
  abbrev then : Pool → Outcome ℕ
  then p = tested ((7, limits_fit l) ∷ []) 0 (check (graph_of p) l.cycle l.chain plan)

  -- the causes of reading
  pub pool_refused : {n at : ℕ} → refused n at ≡ read_pool pool → refused n at ≡ check_outcome pool l plan
  pool_refused e = ap (λ o. and_then o then) e

  module _ {p : Pool} (read : accepted p ≡ read_pool pool) where
    -- 7
    pub limits_refused : {n at : ℕ} → refused n at ≡ test_limits l → refused n at ≡ check_outcome pool l plan
    unfolding test_limits
    limits_refused e = sym (with_rest l ((7, limits_fit l) ∷ []) 0 (sym e) (check (graph_of p) l.cycle l.chain plan)) ∙ ap (λ o. and_then o then) read

    -- the records
    pub records_checked : accepted l ≡ test_limits l → check (graph_of p) l.cycle l.chain plan ≡ check_outcome pool l plan
    unfolding test_limits
    records_checked e = sym (with_rest l ((7, limits_fit l) ∷ []) 0 (sym e) (check (graph_of p) l.cycle l.chain plan)) ∙ ap (λ o. and_then o then) read
