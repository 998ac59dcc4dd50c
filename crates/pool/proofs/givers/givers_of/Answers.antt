use borrow.Author.Rules.{rules}
use mathlib.Core.Bool.{Bool}
use mathlib.Core.Path.{◌≡◌, refl, ap, ◌∙◌}
use Prim.Native.Nat.{ℕ}
use native.Mathlib.Omega.{arith}
use Rattle.kep.specs.Sets.{set_where}
use Rattle.sets.specs.declared.vertex_set.VertexSet.{VertexSet}
use Rattle.pool.specs.Value.{graph_of}
use Rattle.kep.proofs.SetLoops.{made_with, made_without}
use Rattle.pool.proofs.ValueLaws.{givers_found}
use Rattle.pool.proofs.givers.givers_of.Goals.{else-gives_to, then-gives_to}
use Rattle.pool.proofs.givers.givers_of.Goals as goal

pub loop-u-init : goal.loop-u-init
unfolding set_where
loop-u-init c = refl

pub loop-u-preserved : goal.loop-u-preserved
loop-u-preserved c =
    let a = c.args in
    let p : ℕ → Bool = λ u. (graph_of a.pool.now).arc u a.v in
    let test = c.gives_to.ensures in
    elim c.if-gives_to.branch [
      | then-gives_to w ↦ made_with p c.loop-u.invariant test 16 (omega arith) w.if-gives_to.true (ap (λ (x : VertexSet). x.0) w.givers-is ∙ w.with-givers.ensures)
      | else-gives_to w ↦ made_without p c.loop-u.invariant test w.if-gives_to.false (ap (λ (x : VertexSet). x.0) w.givers-is)
    ]

pub returns : goal.returns
returns c =
    let done : c.loop-u.u ≡ 14 = omega arith in
    rw done at c.loop-u.invariant ∙ givers_found c.args.pool.now c.args.v (search rules)
