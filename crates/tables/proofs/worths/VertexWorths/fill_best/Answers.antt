use lib.Pow.{pow_mono}
use Rattle.tables.proofs.worths.VertexWorths.fill_best.Goals as goal

pub fill_best_by-requires-else-self-le-FEW-clause-offers_long : goal.fill_best_by-requires-else-self-le-FEW-clause-offers_long
fill_best_by-requires-else-self-le-FEW-clause-offers_long c = pow_mono c.args.self.now.small.few
