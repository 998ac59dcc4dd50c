use borrow.Author.Rules.{rules}
use Rattle.kep.proofs.OverRange.{all_below}
use Rattle.pool.specs.Value.{takers_fit, arcs_fit}
use Rattle.pool.proofs.value.Pool.arcs_fit.Goals as goal

pub returns : goal.returns
unfolding arcs_fit
returns c =
    let pool = c.args.self.now in
    all_below (takers_fit pool.size pool.altruists pool.gives) _ (λ v b q k. search rules) 14 c.all.ensures.ran
