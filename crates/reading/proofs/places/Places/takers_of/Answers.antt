use mathlib.Core.Bool.{Bool}
use mathlib.Core.List.{[]}
use mathlib.Core.Path.{refl, ap, ◌∙◌}
use Prim.Native.Nat.{ℕ}
use native.Mathlib.Omega.{arith}
use lib.ListN.{get_or}
use Rattle.sets.specs.declared.vertex_set.VertexSet.{VertexSet}
use Rattle.kep.specs.Sets.{set_where}
use Rattle.kep.proofs.SetLoops.{made_with, made_without}
use Rattle.reading.specs.computed.Pool.{record_gives}
use Rattle.reading.proofs.places.Places.takers_of.Goals.{else-gives, then-gives}
use Rattle.reading.proofs.places.Places.takers_of.Goals as goal

pub loop-v-init : goal.loop-v-init
unfolding set_where
loop-v-init c = refl

pub loop-v-preserved : goal.loop-v-preserved
loop-v-preserved c =
    let p : ℕ → Bool = λ v. record_gives c.args.giver.now (get_or c.args.self.now.records.now v []) in
    elim c.if-gives.branch [
      | then-gives w ↦ made_with p c.loop-v.invariant c.gives.ensures 16 (omega arith) w.if-gives.true (ap (λ (x : VertexSet). x.0) w.set-is ∙ w.with-set.ensures)
      | else-gives w ↦ made_without p c.loop-v.invariant c.gives.ensures w.if-gives.false (ap (λ (x : VertexSet). x.0) w.set-is)
    ]
