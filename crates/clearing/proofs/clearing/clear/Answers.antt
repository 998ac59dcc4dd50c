use Rattle.std.proofs.lemmas.Result.{err_from_is_err_and}
use Rattle.clearing.proofs.ClearingCode.{tells_same, tells_refused, read_first, read_refused}
use Rattle.clearing.proofs.clearing.clear.Goals as goal

pub returns-in_err-read_pool : goal.returns-in_err-read_pool
returns-in_err-read_pool c =
    let a = c.args in
    let p = err_from_is_err_and c.from_residual.result c.from_residual.ensures.1 in
    let refusal = read_refused a.pool.now c.in_err-read_pool.ensures a.limits a.exchanges.now a.best.now a.plan.now in
    let told = tells_refused a.limits a.exchanges.now a.best.now a.plan.now refusal in
    rw (p.1, p.2) record { outcome = told.0; exchanges = told.1.0; best = told.1.1.0; plan = told.1.1.1 }

pub returns : goal.returns
returns c =
    let a = c.args in
    let first = read_first a.pool.now a.limits a.exchanges.now a.best.now a.plan.now c.in_ok-read_pool.ensures in
    let e = c.clear_value.ensures in
    let told = tells_same a.limits a.exchanges.now a.best.now a.plan.now first (e.outcome, (e.exchanges, (e.best, e.plan))) in
    record { outcome = told.0; exchanges = told.1.0; best = told.1.1.0; plan = told.1.1.1 }
