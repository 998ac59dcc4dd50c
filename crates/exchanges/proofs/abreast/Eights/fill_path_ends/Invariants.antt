use mathlib.Core.Path.{◌≡◌}
use Prim.Native.Nat.{◌-◌, ◌%◌, ◌≤◌, ◌^◌}
use Rattle.pool.specs.Value.{graph_of}
use Rattle.kep.specs.inner.Filling.{ends}
use Rattle.exchanges.specs.inner.Changed.{Changed}
use Rattle.exchanges.proofs.abreast.Eights.fill_path_ends.Given as goal

abbrev pub invariant-loop-base : goal.invariant-loop-base
invariant-loop-base l =
    (l.base % 8 ≡ 0) × (l.base ≤ 2 ^ l.self.filling.now.pool.size) × Changed (λ i. i ≡ i) l.base (ends (graph_of l.self.filling.now.pool)) l.initial.table l.table

abbrev pub decreases-loop-base : goal.decreases-loop-base
decreases-loop-base l = l.base-end - l.base
