use borrow.Author.Rules.{rules}
use native.Mathlib.Omega.{arith}
use Rattle.pool.proofs.ValueLaws.{fits_size, entries_are}
use Rattle.std.proofs.lemmas.Result.{err_from_is_err_and}
use Rattle.exchanges.proofs.ExchangesCall.{passed}
use Rattle.clearing.proofs.ClearingCode.{behind, best_short, plan_short, passes_all}
use Rattle.clearing.proofs.clearing.test_lent.Goals as goal

pub returns-in_err-test_exchanges : goal.returns-in_err-test_exchanges
returns-in_err-test_exchanges c =
    let a = c.args in
    let p = err_from_is_err_and c.from_residual.result c.from_residual.ensures.1 in
    rw (p.1, p.2) (behind a.pool a.limits a.exchanges a.best a.plan c.in_err-test_exchanges.ensures)

pub overflow_shl-entries : goal.overflow_shl-entries
overflow_shl-entries c = let a = c.args in omega (arith, fits_size a.pool (passed a.pool a.limits a.exchanges c.in_ok-test_exchanges.ensures).fits)

pub returns-then-best-entries : goal.returns-then-best-entries
returns-then-best-entries c =
    let a = c.args in
    let told = c.in_ok-test_exchanges.ensures in
    let are = entries_are a.pool (passed a.pool a.limits a.exchanges told).fits in
    search (rules, best_short a.pool a.limits a.exchanges a.best a.plan told (omega (arith, are)))

pub returns-then-plan-bytes : goal.returns-then-plan-bytes
returns-then-plan-bytes c =
    let a = c.args in
    let told = c.in_ok-test_exchanges.ensures in
    let are = entries_are a.pool (passed a.pool a.limits a.exchanges told).fits in
    search (rules, plan_short a.pool a.limits a.exchanges a.best a.plan told (omega (arith, are)) (omega arith))

pub returns : goal.returns
returns c =
    let a = c.args in
    let told = c.in_ok-test_exchanges.ensures in
    let are = entries_are a.pool (passed a.pool a.limits a.exchanges told).fits in
    passes_all a.pool a.limits a.exchanges a.best a.plan told (omega (arith, are)) (omega arith)
