use mathlib.Core.Path.{◌≡◌, refl}
use Prim.Native.Nat.{ℕ, ◌+◌, ◌%◌, ◌<◌, ◌≤◌, ◌^◌}
use native.Mathlib.Omega.{arith}
use Rattle.pool.specs.Value.{graph_of}
use Rattle.exchanges.specs.declared.filling.Filling.{Filling}
use Rattle.exchanges.proofs.EightLanes.{eight_known, eight_more, eights}
use Rattle.exchanges.proofs.abreast.Eights.fill_path_ends.Goals as goal

-- eight more sets are sets of the pool
block : (f : Filling) → 3 ≤ f.pool.size → {base : ℕ} → base < 2 ^ f.pool.size → base % 8 ≡ 0 → base + 8 ≤ 2 ^ f.pool.size
block f three less m = omega (arith, eights f.pool.size three)

pub common_ends-eight-requires-clause-room : goal.common_ends-eight-requires-clause-room
common_ends-eight-requires-clause-room c =
    omega (arith, block c.args.self.now.filling.now c.args.self.now.three_vertices (omega arith) c.loop-base.invariant.0, c.requires.room)

pub common_ends-eight-requires-clause-sets_in_pool : goal.common_ends-eight-requires-clause-sets_in_pool
common_ends-eight-requires-clause-sets_in_pool c = block c.args.self.now.filling.now c.args.self.now.three_vertices (omega arith) c.loop-base.invariant.0

pub common_ends-eight-requires-clause-smaller_known : goal.common_ends-eight-requires-clause-smaller_known
common_ends-eight-requires-clause-smaller_known c =
    let (m, _, filled) = c.loop-base.invariant in
    eight_known c.loop-base.base m (graph_of c.args.self.now.filling.now.pool) c.loop-base.table (λ i b. filled.done i b refl)

pub store_eight-requires : goal.store_eight-requires
store_eight-requires c = omega (arith, block c.args.self.now.filling.now c.args.self.now.three_vertices (omega arith) c.loop-base.invariant.0)

pub loop-base-preserved : goal.loop-base-preserved
loop-base-preserved c =
    let (m, _, filled) = c.loop-base.invariant in (
      omega (arith, m),
      block c.args.self.now.filling.now c.args.self.now.three_vertices (omega arith) m,
      eight_more (graph_of c.args.self.now.filling.now.pool) c.loop-base.base c.all_ends-found.ensures filled c.store_eight.ensures,
    )

-- where the last eight are stored
pub returns-2 : goal.returns-2
returns-2 c =
    let f = c.args.self.now.filling.now in
    let (m, _, filled) = c.loop-base.invariant in
    let inside : c.loop-base.base + 8 ≤ 2 ^ f.pool.size = block f c.args.self.now.three_vertices (omega arith) m in
    let done : c.loop-base.base + 8 ≡ 2 ^ f.pool.size = omega arith in
    rw done at (eight_more (graph_of f.pool) c.loop-base.base c.all_ends-found.ensures filled c.store_eight.ensures)
