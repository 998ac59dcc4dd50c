use mathlib.Core.Path.{◌≡◌, ◌∙◌, sym}
use Prim.Native.Nat.{◌-◌}
use native.Mathlib.Omega.{arith}
use lib.Bits.{and_le_l}
use lib.Dec.{eqb→eq}
use Rattle.kep.proofs.LowestBit.{lowest_taken}
use Rattle.kep.proofs.Tests.{from_true}
use Rattle.sets.proofs.vertex_set.VertexSet.take_lowest.Goals as goal

pub returns-then-is_empty-clause-left : goal.returns-then-is_empty-clause-left
returns-then-is_empty-clause-left c =
    let s = c.args.self.now.0 in
    let none : s ≡ 0 = eqb→eq s 0 (from_true (sym c.is_empty.ensures ∙ c.if-is_empty.true)) in
    omega (arith, lowest_taken 16 s (omega arith), and_le_l s (s - 1))

pub returns-clause-left : goal.returns-clause-left
returns-clause-left c = lowest_taken 16 c.args.self.now.0 (omega arith)
