use Rattle.std.proofs.lemmas.Result.{err_from_is_err_and}
use Rattle.exchanges.proofs.ExchangesCall.{passed, leaves, filled}
use Rattle.exchanges.proofs.exchanges.fill_exchanges.Goals as goal

pub returns-in_err-test_exchanges : goal.returns-in_err-test_exchanges
returns-in_err-test_exchanges c =
    let p = err_from_is_err_and c.from_residual.result c.from_residual.ensures.1 in
    let told = leaves c.args.pool c.args.limits c.args.table.now c.in_err-test_exchanges.ensures in
    rw (p.1, p.2) record { outcome = told.0; left = told.1 }

pub new-filling-requires : goal.new-filling-requires
new-filling-requires c = (passed c.args.pool c.args.limits _ c.in_ok-test_exchanges.ensures).fits

pub fill_by_lowest-requires : goal.fill_by_lowest-requires
fill_by_lowest-requires c = record { room = rw c.new-filling.ensures.pool (passed c.args.pool c.args.limits _ c.in_ok-test_exchanges.ensures).long }

pub returns : goal.returns
returns c =
    let a = c.args in
    let told = c.in_ok-test_exchanges.ensures in
    let of = c.new-filling.ensures in
    let written = rw (of.pool, of.limits) at c.fill_by_lowest.ensures in
    let done = filled a.pool a.limits a.table.now told (rw of.pool at c.sets.ensures) written in
    record { outcome = done.0; left = done.1 }
