use native.Mathlib.Omega.{arith}
use Rattle.pool.proofs.Accepted.{fitting_pool}
use Rattle.pool.proofs.ValueLaws.{fits_size, entries_are}
use Rattle.std.proofs.lemmas.Result.{err_from_is_err_and}
use Rattle.tables.proofs.BestCall.{pool_refused, exchanges_short, table_short, filled}
use Rattle.tables.proofs.best.fill_best.Goals as goal

pub returns-in_err-test : goal.returns-in_err-test
returns-in_err-test c =
    let p = err_from_is_err_and c.from_residual.result c.from_residual.ensures.1 in
    let told = pool_refused c.args.pool c.args.exchanges.now c.args.table.now c.in_err-test.ensures in
    rw (p.1, p.2) record { outcome = told.0; left = told.1 }

pub overflow_shl-entries : goal.overflow_shl-entries
overflow_shl-entries c = omega (arith, fits_size c.args.pool (fitting_pool c.in_ok-test.ensures))

pub returns-then-exchanges-entries : goal.returns-then-exchanges-entries
returns-then-exchanges-entries c =
    let p = c.args.pool in
    let fits = fitting_pool c.in_ok-test.ensures in
    let told = exchanges_short p c.args.exchanges.now c.args.table.now fits (omega (arith, entries_are p fits)) in
    rw c.into.ensures record { outcome = told.0; left = told.1 }

pub returns-then-table-entries : goal.returns-then-table-entries
returns-then-table-entries c =
    let p = c.args.pool in
    let fits = fitting_pool c.in_ok-test.ensures in
    let told = table_short p c.args.exchanges.now c.args.table.now fits (omega (arith, entries_are p fits)) (omega (arith, entries_are p fits)) in
    rw c.into-then-table-entries.ensures record { outcome = told.0; left = told.1 }

pub new-requires : goal.new-requires
new-requires c = fitting_pool c.in_ok-test.ensures

pub returns : goal.returns
returns c =
    let p = c.args.pool in
    let fits = fitting_pool c.in_ok-test.ensures in
    let entries = entries_are p fits in
    let size = c.new.ensures.size in
    let told = filled p c.args.exchanges.now c.args.table.now fits (omega (arith, entries)) (omega (arith, entries)) entries c.new.ensures.each (rw size at c.fill_best-tried.ensures.left) (rw size at c.fill_best-tried.ensures.tried) in
    record { outcome = told.0; left = told.1 }
