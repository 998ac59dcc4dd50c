use Rattle.pool.specs.Value.{graph_of}
use Rattle.plans.proofs.CheckSteps.{Checking}
use Rattle.plans.proofs.rules.Rules.check_records.Given as goal

abbrev pub invariant-loop-at : goal.invariant-loop-at
invariant-loop-at l = Checking (graph_of l.self.pool) l.self.limits.cycle l.self.limits.chain l.plan l.before.met.0 l.before.least l.before.served l.at-counter
