use Rattle.pool.specs.Limits.{test_limits}
use Rattle.pool.proofs.Tested.{alone_passes, alone_fails}
use Rattle.pool.proofs.limits.Limits.test.Goals as goal

pub returns-then-not-fit : goal.returns-then-not-fit
unfolding test_limits
returns-then-not-fit c = rw c.into.ensures (alone_fails 7 0 c.args.self c.fit.ensures c.if-not-fit.true)

pub returns : goal.returns
unfolding test_limits
returns c = alone_passes 7 0 c.args.self c.fit.ensures c.if-not-fit.false
