use native.Mathlib.Nat.{pos_of_ne-zero}
use native.Mathlib.Omega.{arith}
use borrow.Author.Tests.{ne_eqb}
use Rattle.kep.proofs.LowestBit.{lowest_bit, lowest_out, trailing_is}
use Rattle.exchanges.proofs.vertices.VerticesIterator.next.Goals as goal

pub returns-clause-steps : goal.returns-clause-steps
returns-clause-steps c =
    let s = c.args.self.now.0 in
    let ne = c.if-self-eq0.false in
    let some = pos_of_ne-zero ne in
    record { tells = rw (ne_eqb s 0 ne, lowest_bit s some, trailing_is s some 64 (omega arith)); leaves = lowest_out s some }
