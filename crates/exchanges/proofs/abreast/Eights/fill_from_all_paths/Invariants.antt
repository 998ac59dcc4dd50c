use Prim.Native.Nat.{◌^◌}
use Rattle.exchanges.specs.inner.ByLowest.{entry_of}
use Rattle.exchanges.specs.inner.Changed.{Changed}
use Rattle.exchanges.proofs.ByLowest.{Before}
use Rattle.exchanges.proofs.abreast.Eights.fill_from_all_paths.Given as goal

abbrev pub invariant-loop-low : goal.invariant-loop-low
invariant-loop-low l = Changed (Before l.low) (2 ^ l.self.filling.now.pool.size) (entry_of l.self.filling.now.pool l.self.filling.now.limits) l.initial.table l.table
