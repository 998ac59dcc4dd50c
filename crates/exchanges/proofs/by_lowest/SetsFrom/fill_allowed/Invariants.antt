use Prim.Native.Nat.{◌-◌, ◌<◌, ◌^◌}
use Rattle.pool.specs.Value.{graph_of}
use Rattle.exchanges.specs.inner.ByLowest.{Begins, Allowed, ends_within}
use Rattle.exchanges.specs.inner.Changed.{Changed}
use Rattle.exchanges.proofs.by_lowest.SetsFrom.fill_allowed.Given as goal

abbrev pub invariant-loop-set : goal.invariant-loop-set
invariant-loop-set l = (l.set < 2 ^ l.self.filling.now.pool.size → Allowed l.self.low l.most l.set) × Changed (λ i. (i < 2 ^ l.self.filling.now.pool.size) × Begins l.self.low i) l.set (ends_within (graph_of l.self.filling.now.pool) l.most) l.initial.table l.table

abbrev pub decreases-loop-set : goal.decreases-loop-set
decreases-loop-set l = l.end - l.set
