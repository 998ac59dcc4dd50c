use Rattle.std.proofs.lemmas.Result.{err_from_is_err_and}
use Rattle.clearing.specs.Clearing.{clearable_value}
use Rattle.clearing.proofs.ClearingCode.{tells_same, tells_refused}
use Rattle.clearing.proofs.clearing.clear_value.Goals as goal

pub returns-in_err-test_lent : goal.returns-in_err-test_lent
unfolding clearable_value
returns-in_err-test_lent c =
    let a = c.args in
    let p = err_from_is_err_and c.from_residual.result c.from_residual.ensures.1 in
    let told = tells_refused a.limits a.exchanges.now a.best.now a.plan.now c.in_err-test_lent.ensures in
    rw (p.1, p.2) record { outcome = told.0; exchanges = told.1.0; best = told.1.1.0; plan = told.1.1.1 }

pub clear_accepted-requires : goal.clear_accepted-requires
unfolding clearable_value
clear_accepted-requires c = c.in_ok-test_lent.ensures

pub returns : goal.returns
unfolding clearable_value
returns c =
    let a = c.args in
    let e = c.clear_accepted.ensures in
    let told = tells_same a.limits a.exchanges.now a.best.now a.plan.now c.in_ok-test_lent.ensures (e.outcome, (e.exchanges, (e.best, e.plan))) in
    record { outcome = told.0; exchanges = told.1.0; best = told.1.1.0; plan = told.1.1.1 }
