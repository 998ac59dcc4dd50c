use Rattle.pool.proofs.ValueLaws.{entries_are}
use Rattle.tables.proofs.BestCode.{worths_are}
use Rattle.tables.proofs.worths.VertexWorths.new.Goals as goal

pub invariant_of-result : goal.invariant_of-result
invariant_of-result c =
    rw c.vertex_worths.ensures (record { counted = entries_are c.args.pool c.requires; small = worths_are c.args.pool c.requires })
