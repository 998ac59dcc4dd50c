use mathlib.Core.Path.{sym, ◌∙◌}
use native.Mathlib.Omega.{arith}
use lib.Dec.{ltb, ltb→lt}
use Rattle.kep.proofs.ListLaws.{all_each}
use Rattle.kep.proofs.Rest.{each_here}
use Rattle.kep.proofs.Tests.{from_true, from_false}
use Rattle.plans.proofs.Meeting.{meeting_stop, meeting_next, meeting_end}
use Rattle.plans.proofs.vertices.Vertices.meet.Goals as goal

pub returns-then-has : goal.returns-then-has
returns-then-has c =
    meeting_stop c.loop-vertex.invariant c.loop-vertex-test.true (from_true (sym c.has.ensures ∙ c.if-has.true))

pub loop-vertex-preserved : goal.loop-vertex-preserved
loop-vertex-preserved c =
    let narrow = ltb→lt _ 14 (each_here c.loop-vertex.vertex-index (all_each (λ x. ltb x 14) c.args.self.listed.now c.args.self.below) c.loop-vertex-test.true) in
    meeting_next c.loop-vertex.invariant c.loop-vertex-test.true (omega (arith, narrow)) (from_false (sym c.has.ensures ∙ c.if-has.false)) c.with-all.ensures

pub returns : goal.returns
returns c = meeting_end c.loop-vertex.invariant c.loop-vertex-test.false
