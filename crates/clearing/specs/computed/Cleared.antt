-- What clearing tells and leaves, worked out, by the pool that was accepted. `clear_clears` and `value_clears` (claims) say what it means.
use Rattle.std.specs.Prelude.{List, ◌++◌, ℕ, ◌^◌, length, drop}
use Rattle.pool.specs.declared.value.Pool.{Pool}
use Rattle.pool.specs.declared.limits.Limits.{Limits}
use Rattle.kep.specs.Lists.{flat, written_to}
use Rattle.kep.specs.Plan.{record_form}
use Rattle.kep.specs.Table.{served}
use Rattle.kep.specs.computed.Table.{entry, best_of}
use Rattle.kep.specs.computed.Answer.{answer}
use Rattle.pool.specs.Refusals.{Outcome, accepted, and_then, left_by}
use Rattle.pool.specs.Value.{graph_of}
use Rattle.tables.specs.Calls.{worth_in}

-- the plan that it answers with: of the legal plans that are worth most, members × 65,536 + weeks, the one whose records come first
abbrev pub plan_of : Pool → Limits → List (List ℕ)
plan_of p l = answer (worth_in p) (graph_of p) l.cycle l.chain

-- the members served and the number of records
abbrev pub clear_outcome : Limits → Outcome Pool → Outcome (ℕ × ℕ)
clear_outcome l o = and_then o (λ p. accepted (served (graph_of p) (flat (plan_of p l)), length (plan_of p l)))

-- the exchange table, which holds its meaning
abbrev pub exchanges_of : Pool → Limits → List ℕ → List ℕ
exchanges_of p l table = written_to (entry (graph_of p) l.cycle l.chain) (2 ^ p.size) table

-- the best table likewise
abbrev pub bests_of : Pool → Limits → List ℕ → List ℕ
bests_of p l table = written_to (best_of (worth_in p) (graph_of p) l.cycle l.chain) (2 ^ p.size) table

-- the plan's records stand at the front of the plan buffer
abbrev pub plan_written : Pool → Limits → List ℕ → List ℕ
plan_written p l plan = let records = record_form (graph_of p) (plan_of p l) in records ++ drop (length records) plan

-- the exchange table afterwards; on a refusal it holds what it held, and so do the other two
abbrev pub exchanges_cleared : Limits → Outcome Pool → List ℕ → List ℕ
exchanges_cleared l o table = left_by o (λ p. exchanges_of p l table) table

-- the best table
abbrev pub best_cleared : Limits → Outcome Pool → List ℕ → List ℕ
best_cleared l o table = left_by o (λ p. bests_of p l table) table

-- the plan buffer
abbrev pub plan_cleared : Limits → Outcome Pool → List ℕ → List ℕ
plan_cleared l o plan = left_by o (λ p. plan_written p l plan) plan
