use borrow.Author.Tests.{ltb-true, ltb-false}
use mathlib.Core.Path.{◌∙◌, ap}
use Rattle.pool.specs.Value.{graph_of}
use Rattle.kep.specs.Exchange.{walk}
use Rattle.plans.proofs.CheckArcs.{tail_part, joined_chain, joined_cycle}
use Rattle.plans.proofs.rules.Rules.all_joined.Goals as goal

pub returns-then-is_altruist : goal.returns-then-is_altruist
returns-then-is_altruist c =
    let xs = c.args.vertices.listed.now in
    c.walks.ensures
    ∙ rw c.first-first.ensures.value (ap (walk _ _) (tail_part xs) ∙ joined_chain (graph_of c.args.self.now.pool) xs c.args.vertices.some (ltb-true _ _ (cc)))

pub returns : goal.returns
returns c =
    c.walks-2.ensures ∙ rw c.last.ensures (joined_cycle (graph_of c.args.self.now.pool) c.args.vertices.listed.now c.args.vertices.some
    (ltb-false _ _ (cc)))
