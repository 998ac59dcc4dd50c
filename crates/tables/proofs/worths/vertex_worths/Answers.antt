use Rattle.std.proofs.Common.{rules}
use Rattle.tables.specs.Calls.{worth_in}
use Rattle.kep.proofs.FromFn.{from_fn_tabulated}
use Rattle.tables.proofs.worths.vertex_worths.Goals as goal

pub returns : goal.returns
returns c = from_fn_tabulated _ (worth_in c.args.pool) _ (λ i y q k. search rules) 14 c.from_fn.ensures.items
