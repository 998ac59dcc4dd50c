-- What holds of a pool value and of limits whose tests accepted them.
use mathlib.Core.List.{[]}
use mathlib.Core.Path.{◌≡◌, sym}
use lib.Dec.{T}
use Rattle.pool.specs.declared.value.Pool.{Pool}
use Rattle.pool.specs.declared.limits.Limits.{Limits}
use Rattle.pool.specs.Refusals.{accepted}
use Rattle.pool.specs.Limits.{limits_fit, test_limits}
use Rattle.pool.specs.Value.{pool_fits, test_pool}
use Rattle.pool.proofs.Tested.{held}

pub fitting_pool : {p : Pool} → accepted p ≡ test_pool p → T (pool_fits p)
unfolding test_pool
fitting_pool {p} e = held 6 (pool_fits p) [] 0 p (sym e)

pub fitting_limits : {l : Limits} → accepted l ≡ test_limits l → T (limits_fit l)
unfolding test_limits
fitting_limits {l} e = held 7 (limits_fit l) [] 0 l (sym e)
