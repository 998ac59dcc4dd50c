use mathlib.Core.Path.{ap, ◌∙◌}
use Rattle.kep.specs.Graph.{is_altruist}
use Rattle.pool.specs.Value.{graph_of}
use Rattle.plans.proofs.CheckArcs.{limits_told}
use Rattle.plans.proofs.rules.Rules.within_limits.Goals as goal

pub returns : goal.returns
returns c =
    let s = c.args.self.now in
    rw c.most_vertices.ensures.most
    (limits_told (graph_of s.pool) s.limits c.args.vertices.listed.now c.args.vertices.some
    (c.is_altruist-of_chain.ensures ∙ ap (is_altruist (graph_of s.pool)) c.first.ensures.value))
