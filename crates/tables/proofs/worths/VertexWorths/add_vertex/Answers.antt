use mathlib.Core.Path.{◌≡◌}
use mathlib.Core.List.{List}
use Prim.Native.Nat.{ℕ, suc, ◌+◌, ◌*◌, ◌%◌, ◌^◌, ◌≤◌, ◌<◌}
use native.Mathlib.Omega.{arith}
use lib.Pow.{pow_mono}
use Rattle.kep.proofs.Operations.{one_shl}
use Rattle.kep.specs.inner.BestFilling.{Worths}
use Rattle.tables.proofs.BestCode.{worth_fits, worth_next, worth_stored}
use Rattle.tables.proofs.worths.VertexWorths.add_vertex.Goals as goal

-- how many sets the lower vertices have, as code works it out, and that twice as many are within all
sets_are : {size v : ℕ} {each : List ℕ} → Worths size each → v < size → 1 * 2 ^ v % 2 ^ 64 ≡ 2 ^ v
sets_are {v = v} worths l = one_shl 64 v (omega (arith, worths.few))

twice : {size v : ℕ} → v < size → 2 ^ v + 2 ^ v ≤ 2 ^ size
twice {size} {v} l = let more : 2 ^ suc v ≤ 2 ^ size = pow_mono l in omega arith

pub bounds-table-s : goal.bounds-table-s
bounds-table-s c = omega (arith, sets_are c.args.self.now.small c.requires.in_pool, twice c.requires.in_pool)

pub overflow_add-table : goal.overflow_add-table
overflow_add-table c =
    let worths = c.args.self.now.small in
    let e = sets_are worths c.requires.in_pool in
    omega (arith, worth_next worths c.requires.in_pool (omega arith) _ (rw e at c.loop-s.invariant), worth_fits worths (2 ^ c.args.v + c.loop-s.s))

pub bounds-table-sets : goal.bounds-table-sets
bounds-table-sets c = omega (arith, sets_are c.args.self.now.small c.requires.in_pool, twice c.requires.in_pool)

pub loop-s-preserved : goal.loop-s-preserved
loop-s-preserved c =
    let worths = c.args.self.now.small in
    let e = sets_are worths c.requires.in_pool in
    rw e (λ t l. worth_stored worths c.requires.in_pool (omega arith) _ (rw e at c.loop-s.invariant) (omega (arith, twice c.requires.in_pool)) t (omega arith))
