use mathlib.Core.Path.{refl}
use Prim.Native.Nat.{◌^◌}
use native.Mathlib.Omega.{arith}
use Rattle.exchanges.proofs.Changed.{changed_none}
use Rattle.exchanges.proofs.ByLowest.{kept_counted, kept_all, ones_few}
use Rattle.exchanges.proofs.by_lowest.SetsFrom.keep_exchanges.Goals.{then-from-most, else-from-most}
use Rattle.exchanges.proofs.by_lowest.SetsFrom.keep_exchanges.Goals as goal

pub returns : goal.returns
returns c =
    let a = c.args in
    let f = a.self.now.filling.now in
    let limit = c.limit_of-most.ensures.limit in
    let held = changed_none (2 ^ f.pool.size) c.requires.held.each in
    elim c.if-from-most.branch [
      | then-from-most w ↦
          kept_all c.closing.ensures held (λ _ _ _ _. refl)
          (λ s small b more. absurd (omega (arith, w.if-from-most.true, limit, ones_few a.self.now.low f.pool.size s c.args.self.now.in_pool small b)))
          (rw w.counted-is at c.keep_ends.ensures)
      | else-from-most w ↦ kept_counted c.closing.ensures held (λ _ _ _ _. refl) (rw (w.counted-is, limit) at c.keep_ends.ensures)
    ]
