use borrow.Author.Rules.{rules}
use Rattle.kep.specs.Graph.{givers}
use Rattle.kep.proofs.FromFn.{from_fn_tabulated}
use Rattle.pool.specs.Value.{graph_of}
use Rattle.pool.proofs.givers.all_givers.Goals as goal

pub returns : goal.returns
returns c = from_fn_tabulated _ (givers (graph_of c.args.pool)) _ (λ v y q k. search rules) 14 c.from_fn.ensures.items
