use mathlib.Core.Bool.{true}
use native.Mathlib.Omega.{arith}
use Rattle.exchanges.proofs.ByLowest.{still_held, before_more, before_all}
use Rattle.exchanges.proofs.abreast.Eights.fill_from_all_paths.Goals as goal

pub keep_exchanges-requires-clause-held : goal.keep_exchanges-requires-clause-held
keep_exchanges-requires-clause-held c = still_held c.args.self.now.filling.now true c.fill_path_ends.ensures c.loop-low.invariant

pub loop-low-preserved : goal.loop-low-preserved
loop-low-preserved c = before_more c.args.self.now.filling.now true c.fill_path_ends.ensures c.loop-low.invariant c.keep_exchanges.ensures

pub returns : goal.returns
returns c = before_all c.args.self.now.filling.now true c.fill_path_ends.ensures c.loop-low.invariant (omega arith) c.requires.room
