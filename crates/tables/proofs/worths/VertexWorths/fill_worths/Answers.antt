use native.Mathlib.Omega.{arith}
use lib.Pow.{pow_pos}
use Rattle.tables.proofs.BestCode.{worth_first}
use Rattle.tables.proofs.worths.VertexWorths.fill_worths.Goals as goal

pub loop-v-init : goal.loop-v-init
loop-v-init c = worth_first c.args.self.now.small _ (omega (arith, c.requires, pow_pos c.args.self.now.size))
