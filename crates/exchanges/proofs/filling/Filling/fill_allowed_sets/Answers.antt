use mathlib.Core.Bool.{false}
use native.Mathlib.Omega.{arith}
use Rattle.exchanges.proofs.ByLowest.{still_held, before_more, before_all}
use Rattle.exchanges.proofs.filling.Filling.fill_allowed_sets.Goals as goal

pub fill_exchanges-requires-clause-held : goal.fill_exchanges-requires-clause-held
fill_exchanges-requires-clause-held c = still_held c.args.self.now false (rw c.sets.ensures at c.clear_table.ensures) c.loop-low.invariant

pub loop-low-preserved : goal.loop-low-preserved
loop-low-preserved c = before_more c.args.self.now false (rw c.sets.ensures at c.clear_table.ensures) c.loop-low.invariant c.fill_exchanges.ensures

pub returns : goal.returns
returns c = before_all c.args.self.now false (rw c.sets.ensures at c.clear_table.ensures) c.loop-low.invariant (omega arith) c.requires.room
