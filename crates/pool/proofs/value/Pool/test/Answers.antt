use Rattle.pool.specs.Value.{test_pool}
use Rattle.pool.proofs.Tested.{alone_passes, alone_fails}
use Rattle.pool.proofs.value.Pool.test.Goals as goal

pub returns-then-not-fits : goal.returns-then-not-fits
unfolding test_pool
returns-then-not-fits c = rw c.into.ensures (alone_fails 6 0 c.args.self c.fits.ensures c.if-not-fits.true)

pub returns : goal.returns
unfolding test_pool
returns c = alone_passes 6 0 c.args.self c.fits.ensures c.if-not-fits.false
