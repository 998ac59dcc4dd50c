use Rattle.exchanges.proofs.ByLowest.{steps, jumps}
use Rattle.exchanges.proofs.by_lowest.next_allowed.Goals as goal

pub returns-then-vertices-most : goal.returns-then-vertices-most
returns-then-vertices-most c l first counted ok = steps first ok (rw counted at c.if-vertices-most.true)

pub returns : goal.returns
returns c l first counted ok = jumps first ok (rw counted at c.if-vertices-most.false)
