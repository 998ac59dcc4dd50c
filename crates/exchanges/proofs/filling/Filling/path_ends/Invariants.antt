use mathlib.Core.Path.{◌≡◌}
use Prim.Native.Nat.{◌+◌, ◌-◌}
use lib.Count.{ones}
use Rattle.kep.proofs.Sifting.{Sifting}
use Rattle.exchanges.proofs.Looking.{is_open}
use Rattle.exchanges.proofs.filling.Filling.path_ends.Given as goal

abbrev pub invariant-loop-bit : goal.invariant-loop-bit
invariant-loop-bit l = Sifting 64 (is_open l.self.givers l.table l.set) (l.set - l.first) l.bit-iterator.0 l.ends × (l.vertices + ones l.bit-iterator.0 ≡ ones l.set)
