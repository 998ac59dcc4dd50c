use Rattle.std.proofs.Common.{sym, arith}
use Rattle.kep.proofs.Operations.{size_ones}
use Rattle.sets.proofs.vertex_set.VertexSet.size.Goals as goal

pub returns : goal.returns
returns c = sym (size_ones 16 c.args.self.0 (omega arith))
