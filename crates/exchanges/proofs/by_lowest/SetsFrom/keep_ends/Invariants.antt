use Prim.Native.Nat.{◌-◌, ◌<◌, ◌^◌}
use Rattle.exchanges.specs.inner.ByLowest.{Begins, kept_of}
use Rattle.exchanges.specs.inner.Changed.{Changed}
use Rattle.exchanges.proofs.by_lowest.SetsFrom.keep_ends.Given as goal

abbrev pub invariant-loop-set : goal.invariant-loop-set
invariant-loop-set l = Begins l.self.low l.set × Changed (λ i. (i < 2 ^ l.self.filling.now.pool.size) × Begins l.self.low i) l.set (kept_of l.most l.closing l.initial.table) l.initial.table l.table

abbrev pub decreases-loop-set : goal.decreases-loop-set
decreases-loop-set l = l.set-end - l.set
