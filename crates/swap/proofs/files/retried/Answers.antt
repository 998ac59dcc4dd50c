use mathlib.Core.Path.{subst}
use Rattle.std.proofs.Common.{rules, of_calls}
use Rattle.swap.specs.inner.Retrying.{last, again}
use Rattle.swap.proofs.files.retried.Goals as goal

pub returns-in_default : goal.returns-in_default
returns-in_default g c = c.loop.invariant.1 _ _ (last (subst (λ r. goal.F-step g c.loop.call r c.call.new.self) c.in-Err.is c.call.ensures))

pub returns-in_default-2 : goal.returns-in_default-2
returns-in_default-2 g c = c.loop.invariant.1 _ _ (last c.call.ensures)

pub loop-preserved : goal.loop-preserved
loop-preserved g c = (search (rules, of_calls), λ r end more. c.loop.invariant.1 r end (again (subst (λ r. goal.F-step g c.loop.call r c.call.new.self) c.in-Err.is c.call.ensures) more))

pub returns : goal.returns
returns g c = c.loop.invariant.1 _ _ (last c.call-2.ensures)
