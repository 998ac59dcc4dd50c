use mathlib.Core.Path.{◌≡◌}
use Prim.Native.Nat.{ℕ, ◌+◌, ◌<◌}
use lib.ListN.{get_or}
use Rattle.kep.specs.inner.BestFilling.{worth_by}
use Rattle.tables.proofs.worths.VertexWorths.add_vertex.Given as goal

-- the first s of the sets have come with the vertex too
abbrev pub invariant-loop-s : goal.invariant-loop-s
invariant-loop-s l = (t : ℕ) → t < l.sets + l.s → get_or l.table t 0 ≡ worth_by l.self.each l.self.size t
