use native.Mathlib.Omega.{arith}
use Rattle.pool.proofs.Accepted.{fitting_pool, fitting_limits}
use Rattle.pool.proofs.ValueLaws.{fits_size, entries_are}
use Rattle.std.proofs.lemmas.Result.{err_from_is_err_and}
use Rattle.exchanges.proofs.ExchangesCall.{pool_refused, limits_refused, table_short, passes_all}
use Rattle.exchanges.proofs.exchanges.test_exchanges.Goals as goal

pub returns-in_err-test : goal.returns-in_err-test
returns-in_err-test c =
    let p = err_from_is_err_and c.from_residual.result c.from_residual.ensures.1 in
    let a = c.args in
    rw (p.1, p.2) (pool_refused a.pool a.limits a.table c.in_err-test.ensures)

pub overflow_shl-pool : goal.overflow_shl-pool
overflow_shl-pool c = omega (arith, fits_size c.args.pool (fitting_pool c.in_ok-test.ensures))

pub returns-in_err-test-2 : goal.returns-in_err-test-2
returns-in_err-test-2 c =
    let p = err_from_is_err_and c.from_residual-in_err-test-2.result c.from_residual-in_err-test-2.ensures.1 in
    let a = c.args in
    rw (p.1, p.2) (limits_refused a.pool a.limits a.table (fitting_pool c.in_ok-test.ensures) c.in_err-test-2.ensures)

pub returns-then-table-pool : goal.returns-then-table-pool
returns-then-table-pool c =
    let a = c.args in
    let fits = fitting_pool c.in_ok-test.ensures in
    rw c.into.ensures (table_short a.pool a.limits a.table fits (fitting_limits c.in_ok-test-2.ensures) (omega (arith, entries_are a.pool fits)))

pub returns : goal.returns
returns c =
    let a = c.args in
    let fits = fitting_pool c.in_ok-test.ensures in
    passes_all a.pool a.limits a.table fits (fitting_limits c.in_ok-test-2.ensures) (omega (arith, entries_are a.pool fits))
