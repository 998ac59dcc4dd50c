-- Plan bytes, and what clearing does.
use Rattle.std.specs.Prelude.{Bool, List, [], ◌∷◌, ◌++◌, ◌≡◌, ℕ, suc, ◌*◌, ◌/◌, ◌%◌, ◌≤◌, T, eqb, length, take, drop, get_or}
use Rattle.pool.specs.declared.value.Pool.{Pool}
use Rattle.pool.specs.declared.limits.Limits.{Limits}
use Rattle.kep.specs.Lists.{flat}
use Rattle.kep.specs.Graph.{Graph}
use Rattle.kep.specs.Exchange.{head_of}
use Rattle.kep.specs.Table.{served, per_member}
use Rattle.kep.specs.computed.Table.{everything}
use Rattle.kep.specs.Plan.{Optimum}
use Rattle.pool.specs.Refusals.{Outcome, accepted}
use Rattle.pool.specs.Limits.{limits_fit}
use Rattle.reading.specs.Records.{read_pool}
use Rattle.pool.specs.Value.{graph_of, weeks_in, pool_fits}
use Rattle.plans.specs.Check.{vertices_of, records_in, lists_in, counts, fresh, record_tests, LegalForm}
use Rattle.plans.specs.CheckCall.{check_outcome}
use Rattle.clearing.specs.Clearing.{clear_tests, clearable_value, clearable}
use Rattle.clearing.specs.computed.Cleared.{exchanges_cleared, best_cleared, plan_cleared}
use Rattle.claims.specs.Tables.{ExchangeTable, BestTable}

-- Plan bytes are the record form of a legal plan of the pool that pool bytes hold, under limits that fit, and the plan serves k members.
-- (`LegalForm`: told in any order, with rings begun anywhere.)
pub record LegalPlan (bytes : List ℕ) (l : Limits) (plan : List ℕ) (k : ℕ) : Type 0 where
  pub pool : Pool
  pub read : read_pool bytes ≡ accepted pool
  pub fitting_limits : T (limits_fit l)
  pub legal : LegalForm (graph_of pool) l.cycle l.chain plan k

-- the checker's tests behind those of the pool: of the whole, 7 and 11, and then 12 to 17 of each record
abbrev pub whole_tests : Limits → List ℕ → List (ℕ × Bool)
whole_tests l plan = (7, limits_fit l) ∷ (11, eqb (length plan % 16) 0) ∷ []

-- before the first of the records stood the places `met`, and its first place must be `least` or more
unfoldable pub plan_tests : Graph → ℕ → ℕ → List ℕ → ℕ → List (List ℕ) → List (List (ℕ × Bool))
plan_tests g lc lp met least [] = []
plan_tests g lc lp met least (r ∷ rs) =
    record_tests g lc lp (fresh met) least r ∷ plan_tests g lc lp (met ++ vertices_of r) (suc (head_of (vertices_of r))) rs

-- those of a pool's plan, from its first record on
abbrev pub records_tests : Pool → Limits → List ℕ → List (List (ℕ × Bool))
records_tests p l plan = plan_tests (graph_of p) l.cycle l.chain [] 0 (records_in plan)

-- ---- clearing

-- the memory that it is lent
pub record Lent : Type 0 where
  pub exchanges : List ℕ
  pub best : List ℕ
  pub plan : List ℕ

-- its tests: 6 to 10 in their order, and what they come to of a pool value and of pool bytes
abbrev pub tests_of : Pool → Limits → Lent → List (ℕ × Bool)
tests_of p l lent = clear_tests p l lent.exchanges lent.best lent.plan

-- of a pool value
abbrev pub value_tests : Pool → Limits → Lent → Outcome Pool
value_tests p l lent = clearable_value p l lent.exchanges lent.best lent.plan

-- of pool bytes
abbrev pub byte_tests : List ℕ → Limits → Lent → Outcome Pool
byte_tests bytes l lent = clearable bytes l lent.exchanges lent.best lent.plan

-- what it leaves of the memory, by what its tests came to
abbrev pub left : Limits → Outcome Pool → Lent → Lent
left l o lent = record {
  exchanges = exchanges_cleared l o lent.exchanges;
  best = best_cleared l o lent.best;
  plan = plan_cleared l o lent.plan;
}

-- A call of clearing that told k members served and r records found the memory as `before` and left it as `after`:
pub record Clears (p : Pool) (l : Limits) (k r : ℕ) (before after : Lent) : Type 0 where
  -- The pool and the limits are accepted.
  pub fitting_pool : T (pool_fits p)
  pub fitting_limits : T (limits_fit l)
  -- The first 16 × r bytes of the plan buffer are r records; all behind them is untouched.
  pub records : length (records_in (take (16 * r) after.plan)) ≡ r
  pub room : 16 * r ≤ length before.plan
  pub beyond : drop (16 * r) after.plan ≡ drop (16 * r) before.plan
  pub as_long : length after.plan ≡ length before.plan
  -- These bytes are the record form of a legal plan that serves k (`.best .allowed`). No legal plan, told in any order with rings begun anywhere,
  -- serves more (`.best .most_members`). Of those that serve as many none has more weeks over the served (`.best .most_weeks`), and of those that also
  -- have as many none has a record form that comes before these bytes (`.best .first`). Nobody is served exactly where there is no ring and no chain
  -- (`.zero_clause`).
  pub optimum : Optimum (graph_of p) (weeks_in p) l.cycle l.chain (take (16 * r) after.plan) k
  -- k is the number of member places listed in the records, and the sum of their bytes 15.
  pub listed : served (graph_of p) (flat (lists_in (take (16 * r) after.plan))) ≡ k
  pub summed : counts (records_in (take (16 * r) after.plan)) ≡ k
  -- Both tables hold their meaning, the best table by the marks of the exchange table beside it; k is the members in its entry of all places.
  pub exchange_table : ExchangeTable p l before.exchanges after.exchanges
  pub best_table : BestTable p after.exchanges before.best after.best
  pub last_entry : get_or after.best (everything (graph_of p)) 0 / per_member ≡ k
  -- The checker accepts these bytes with k, for any pool bytes that hold the pool.
  pub checked : (bytes : List ℕ) → read_pool bytes ≡ accepted p → check_outcome bytes l (take (16 * r) after.plan) ≡ accepted k
