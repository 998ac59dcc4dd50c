use mathlib.Core.Path.{◌≡◌}
use lib.ListN.{drop}
use Rattle.pool.specs.Value.{graph_of}
use Rattle.kep.specs.Exchange.{walk}
use Rattle.plans.proofs.rules.Rules.walks.Given as goal

abbrev pub invariant-loop-taker : goal.invariant-loop-taker
invariant-loop-taker l = walk (graph_of l.self.pool) l.giver (drop l.taker-index l.vertices) ≡ walk (graph_of l.self.pool) l.from l.vertices
