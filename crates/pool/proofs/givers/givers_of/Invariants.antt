use mathlib.Core.Path.{◌≡◌}
use Rattle.kep.specs.Sets.{set_where}
use Rattle.pool.specs.Value.{graph_of}
use Rattle.pool.proofs.givers.givers_of.Given as goal

abbrev pub invariant-loop-u : goal.invariant-loop-u
invariant-loop-u l = l.givers.0 ≡ set_where l.u (λ u. (graph_of l.pool).arc u l.v)
