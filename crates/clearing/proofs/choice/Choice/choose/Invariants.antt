use Rattle.clearing.specs.inner.Taking.{Clean}
use Rattle.clearing.proofs.ChoosingCode.{MadeOf}
use Rattle.clearing.proofs.choice.Choice.choose.Given as goal

abbrev pub invariant-loop-free : goal.invariant-loop-free
invariant-loop-free l = record { made : MadeOf l.self.pool l.self.limits l.initial.plan l.plan l.free.0 l.records; clean : Clean l.free.0 l.dead }

abbrev pub decreases-loop-free : goal.decreases-loop-free
decreases-loop-free l = l.free.0
