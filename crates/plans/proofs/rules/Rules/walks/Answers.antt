use mathlib.Core.Path.{sym, ◌∙◌}
use Rattle.pool.specs.Value.{graph_of}
use Rattle.plans.proofs.CheckArcs.{walk_next, walk_stop, walk_end}
use Rattle.plans.proofs.rules.Rules.walks.Goals as goal

pub returns-then-not-arc : goal.returns-then-not-arc
returns-then-not-arc c =
    let a = c.args in
    walk_stop (graph_of a.self.now.pool) c.loop-taker.giver a.vertices.now c.loop-taker.invariant c.loop-taker-test.true
    (sym c.arc.ensures ∙ c.if-not-arc.true)

pub loop-taker-preserved : goal.loop-taker-preserved
loop-taker-preserved c =
    let a = c.args in
    walk_next (graph_of a.self.now.pool) c.loop-taker.giver a.vertices.now c.loop-taker.invariant c.loop-taker-test.true
    (sym c.arc.ensures ∙ c.if-not-arc.false)

pub returns : goal.returns
returns c =
    let a = c.args in
    walk_end (graph_of a.self.now.pool) c.loop-taker.giver a.vertices.now c.loop-taker.invariant c.loop-taker-test.false
