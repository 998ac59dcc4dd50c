use mathlib.Core.Path.{sym}
use native.Mathlib.Omega.{arith}
use Rattle.kep.proofs.Operations.{both_and}
use Rattle.sets.proofs.vertex_set.VertexSetBitAnd.bitand.Goals as goal

pub returns : goal.returns
returns c = sym (both_and 16 c.args.self.0 c.args.other.0 (omega arith))
