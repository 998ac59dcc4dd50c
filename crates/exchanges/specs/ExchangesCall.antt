-- What the call that fills the exchange table tells and leaves.
use Rattle.std.specs.Prelude.{Bool, List, [], ◌∷◌, ℕ, ◌^◌, leb, length}
use Rattle.pool.specs.declared.value.Pool.{Pool}
use Rattle.pool.specs.declared.limits.Limits.{Limits}
use Rattle.kep.specs.Lists.{written_to}
use Rattle.kep.specs.computed.Table.{entry}
use Rattle.pool.specs.Limits.{limits_fit}
use Rattle.pool.specs.Refusals.{Outcome, accepted, tested, left_by}
use Rattle.pool.specs.Value.{graph_of, pool_fits}

-- 6: a pool value that does not fit; 7: a limit above 14; 8: a table under 2 to the n entries; by its length
abbrev pub exchanges_tests : Pool → Limits → ℕ → List (ℕ × Bool)
exchanges_tests p l table = (6, pool_fits p) ∷ (7, limits_fit l) ∷ (8, leb (2 ^ p.size) table) ∷ []

-- the entries written
unfoldable pub exchanges_outcome : Pool → Limits → List ℕ → Outcome ℕ
exchanges_outcome p l table = tested (exchanges_tests p l (length table)) 0 (accepted (2 ^ p.size))

-- every set's entry
unfoldable pub exchanges_left : Pool → Limits → List ℕ → List ℕ
exchanges_left p l table =
    left_by (exchanges_outcome p l table) (λ _. written_to (entry (graph_of p) l.cycle l.chain) (2 ^ p.size) table) table
