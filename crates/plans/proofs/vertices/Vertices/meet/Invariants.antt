use Rattle.plans.proofs.Meeting.{Meeting}
use Rattle.plans.proofs.vertices.Vertices.meet.Given as goal

abbrev pub invariant-loop-vertex : goal.invariant-loop-vertex
invariant-loop-vertex l = Meeting l.self.listed.now l.initial.all.0 l.all.0 l.vertex-index
