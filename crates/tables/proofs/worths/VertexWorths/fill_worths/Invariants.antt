use mathlib.Core.Path.{◌≡◌}
use Prim.Native.Nat.{ℕ, ◌^◌, ◌<◌}
use lib.ListN.{get_or}
use Rattle.kep.specs.inner.BestFilling.{worth_by}
use Rattle.tables.proofs.worths.VertexWorths.fill_worths.Given as goal

-- the sets of the vertices below v have theirs
abbrev pub invariant-loop-v : goal.invariant-loop-v
invariant-loop-v l = (t : ℕ) → t < 2 ^ l.v → get_or l.table t 0 ≡ worth_by l.self.each l.self.size t
