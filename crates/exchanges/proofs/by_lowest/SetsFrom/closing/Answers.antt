use borrow.Author.Tests.{ltb-true, ltb-false}
use mathlib.Core.Path.{ap, sym, ◌∙◌}
use native.Mathlib.Omega.{arith}
use Prim.Native.Nat.{ℕ, ◌-◌}
use Rattle.pool.specs.Value.{graph_of}
use Rattle.kep.proofs.Operations.{one_shl}
use Rattle.pool.proofs.ValueLaws.{fits_formed}
use Rattle.exchanges.proofs.Given.{fits, few, known_givers}
use Rattle.exchanges.proofs.Keeping.{member_closes, altruist_closes}
use Rattle.exchanges.proofs.by_lowest.SetsFrom.closing.Goals as goal

pub returns-then-is_altruist : goal.returns-then-is_altruist
returns-then-is_altruist c =
    let f = c.args.self.now.filling.now in
    let l = c.args.self.now.low in
    altruist_closes (graph_of f.pool) (fits_formed f.pool (fits f)) f.limits.cycle f.limits.chain l (few f) c.args.self.now.in_pool (ltb-true _ _ (sym c.is_altruist.ensures ∙ c.if-is_altruist.true))
    (ap (λ (x : ℕ). 65535 - x) (one_shl 16 l (omega (arith, few f))))

pub returns-else-is_altruist : goal.returns-else-is_altruist
returns-else-is_altruist c =
    let f = c.args.self.now.filling.now in
    let l = c.args.self.now.low in
    rw c.from.ensures
    (member_closes (graph_of f.pool) (fits_formed f.pool (fits f)) f.limits.cycle f.limits.chain l (ltb-false _ _ (sym c.is_altruist.ensures ∙ c.if-is_altruist.false)) (known_givers f l c.args.self.now.in_pool))
