use mathlib.Core.Path.{ap, ◌∙◌}
use Rattle.pool.specs.Limits.{most_vertices}
use Rattle.exchanges.specs.inner.ByLowest.{limit_at}
use Rattle.exchanges.proofs.filling.Filling.limit_of.Goals as goal

pub returns-clause-limit : goal.returns-clause-limit
unfolding limit_at
returns-clause-limit c = c.most_vertices.ensures.most ∙ ap (most_vertices c.args.self.now.limits) c.is_altruist.ensures
