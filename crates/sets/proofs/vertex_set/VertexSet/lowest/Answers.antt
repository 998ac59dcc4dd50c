use Rattle.std.proofs.Common.{sym}
use Rattle.kep.proofs.SetLaws.{lowest_trailing}
use Rattle.sets.proofs.vertex_set.VertexSet.lowest.Goals as goal

pub returns : goal.returns
returns c = sym (lowest_trailing 16 c.args.self.0)
