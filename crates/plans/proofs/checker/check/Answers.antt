use mathlib.Core.Path.{sym, ◌∙◌}
use Rattle.std.proofs.lemmas.Result.{err_from_is_err_and}
use Rattle.reading.proofs.ReadPool.{read_fits}
use Rattle.plans.proofs.CheckCalls.{limits_refused, records_checked}
use Rattle.plans.proofs.checker.check.Goals as goal

pub returns-in_err-test : goal.returns-in_err-test
returns-in_err-test c =
    let p = err_from_is_err_and c.from_residual-in_err-test.result c.from_residual-in_err-test.ensures.1 in
    rw (p.1, p.2) (limits_refused _ _ _ c.in_ok-pool.ensures c.in_err-test.ensures)

pub invariant_of-check_records : goal.invariant_of-check_records
invariant_of-check_records c = record { pool_fits = read_fits c.args.pool.now (sym c.in_ok-pool.ensures) }

pub returns : goal.returns
returns c = c.check_records.ensures ∙ records_checked _ _ _ c.in_ok-pool.ensures c.in_ok-test.ensures
