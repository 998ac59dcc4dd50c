-- What the functions of the checker tell one another: the check of one record, where the vertices met are kept as a set.
use Rattle.std.specs.Prelude.{Bool, true, false, List, [], ◌∷◌, ◌≡◌, ℕ, ◌+◌, ◌^◌, T, Option, Some, None, Result, Ok, Err}
use Rattle.std.specs.Int.Bits.{bit_or}
use Rattle.pool.specs.declared.value.Pool.{Pool}
use Rattle.kep.specs.Sets.{has}
use Rattle.kep.specs.Graph.{Graph}
use Rattle.pool.specs.Refusals.{number_of, Outcome, accepted, refused, tested}
use Rattle.pool.specs.Value.{graph_of}
use Rattle.kep.specs.Exchange.{head_of}
use Rattle.kep.specs.Table.{served}
use Rattle.plans.specs.declared.check_record.Before.{Before}
use Rattle.plans.specs.declared.rules.Rules.{Rules}
use Rattle.sets.specs.declared.vertex_set.VertexSet.{VertexSet}
use Rattle.pool.specs.declared.refusal.Cause.{Cause}
use Rattle.plans.specs.Check.{vertices_of, lists_vertices, record_tests}

-- the test of 13 where m is the set of the vertices met; the set with xs added; and that set, none where xs meets 13
unfoldable pub fresh_in : ℕ → List ℕ → Bool
fresh_in m [] = true
fresh_in m (x ∷ xs) = elim (has m x) [ true ↦ false | false ↦ fresh_in (bit_or m (2 ^ x)) xs ]

unfoldable pub added : ℕ → List ℕ → ℕ
added m [] = m
added m (x ∷ xs) = added (bit_or m (2 ^ x)) xs

unfoldable pub met_with : ℕ → List ℕ → Option ℕ
met_with m xs = elim (fresh_in m xs) as (λ _. Option ℕ) [ true ↦ Some (added m xs) | false ↦ None ]

-- a set by its number
abbrev pub bits : Option VertexSet → Option ℕ
bits (Some s) = Some s.0
bits None = None

-- one record's tests; where it meets no cause, what stands before the next: the vertices met, the least first vertex allowed, the members served
abbrev pub record_check : Graph → ℕ → ℕ → Before → ℕ → List ℕ → Outcome (ℕ × ℕ × ℕ)
record_check g lc lp b at r =
    let xs = vertices_of r in
    tested (record_tests g lc lp (fresh_in b.met.0) b.least r) at (accepted (added b.met.0 xs, head_of xs + 1, b.served + served g xs))

-- what the answer on the record at a spot stands for
abbrev pub answer_outcome : ℕ → Result Before Cause → Outcome (ℕ × ℕ × ℕ)
answer_outcome at (Ok b) = accepted (b.met.0, b.least, b.served)
answer_outcome at (Err cause) = refused (number_of cause) at

-- what the check of one record ensures, at whatever spot it stands
pub record RecordChecked (s : Rules) (b : Before) (r : List ℕ) (answer : Result Before Cause) : Type 0 where
  pub at_spot : (at : ℕ) → answer_outcome at answer ≡ record_check (graph_of s.pool) s.limits.cycle s.limits.chain b at r

-- a record r that passes 12 lists the vertices xs
pub record Listed (p : Pool) (r xs : List ℕ) : Type 0 where
  pub passed : T (lists_vertices (graph_of p) r)
  pub vertices : xs ≡ vertices_of r
