use Prim.Native.Nat.{◌<◌, ◌^◌}
use native.Mathlib.Omega.{arith}
use Rattle.exchanges.proofs.ByLowest.{begins_next, stride, kept_more}
use Rattle.exchanges.proofs.Changed.{changed_end}
use Rattle.exchanges.proofs.by_lowest.SetsFrom.keep_ends.Goals as goal

pub loop-set-preserved : goal.loop-set-preserved
loop-set-preserved c =
    let a = c.args in
    let s = a.self.now in
    let n = s.filling.now.pool.size in
    let small : c.loop-set.set < 2 ^ n = omega arith in
    let (begins, done) = c.loop-set.invariant in
    rw (stride s.low c.first-first.ensures) (begins_next begins, kept_more s.low n a.closing a.most a.table.now c.requires.room small begins done c.closing_within.ensures)

-- where no other set comes after
pub returns-2 : goal.returns-2
returns-2 c =
    let a = c.args in
    let s = a.self.now in
    let n = s.filling.now.pool.size in
    let small : c.loop-set.set < 2 ^ n = omega arith in
    let (begins, done) = c.loop-set.invariant in
    changed_end (2 ^ n) (kept_more s.low n a.closing a.most a.table.now c.requires.room small begins done c.closing_within.ensures) (omega (arith, stride s.low c.first-first.ensures))
