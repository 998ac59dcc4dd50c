use Rattle.swap.specs.inner.Retrying.{Retried}
use Rattle.swap.proofs.files.retried.Given as goal

-- what the calls that are left come to, all of them come to
abbrev pub invariant-loop : goal.invariant-loop
invariant-loop g l =
    goal.F-IsAlwaysCallable g l.call
    × ((r : _) (last : _) → Retried (goal.F-step g) l.call r last → Retried (goal.F-step g) l.initial.call r last)
