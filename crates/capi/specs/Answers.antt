-- What the calls answer to C: an outcome as four numbers.
use Rattle.std.specs.Prelude.{List, ℕ}
use Rattle.pool.specs.declared.value.Pool.{Pool}
use Rattle.tables.specs.declared.best.BestFilled.{BestFilled}
use Rattle.pool.specs.Refusals.{Outcome, accepted, refused}
use Rattle.capi.specs.declared.answer.Answer.{Answer}

-- accepted: number 0, and what the call gives back
abbrev pub accepted_with : ℕ → ℕ → Answer
accepted_with first second = record { number = 0; at = 0; first = first; second = second }

-- refused: the number of the cause and its spot
abbrev pub refused_with : ℕ → ℕ → Answer
refused_with number at = record { number = number; at = at; first = 0; second = 0 }

-- reading a pool: places and houses
abbrev pub pool_answer : Outcome Pool → Answer
pool_answer (accepted p) = accepted_with p.size p.altruists
pool_answer (refused number at) = refused_with number at

-- the pool value that C tells by its parts
abbrev pub pool_from : ℕ → ℕ → List ℕ → List ℕ → Pool
pool_from places houses gives weeks = record { size = places; altruists = houses; gives = gives; weeks = weeks }

-- a count: the entries of the exchange table, or the members served
abbrev pub count_answer : Outcome ℕ → Answer
count_answer (accepted count) = accepted_with count 0
count_answer (refused number at) = refused_with number at

-- the best table: entries written, and parts tried
abbrev pub best_answer : Outcome BestFilled → Answer
best_answer (accepted f) = accepted_with f.entries f.tried
best_answer (refused number at) = refused_with number at

-- clearing: members served, and records written
abbrev pub clear_answer : Outcome (ℕ × ℕ) → Answer
clear_answer (accepted counts) = accepted_with counts.0 counts.1
clear_answer (refused number at) = refused_with number at
