use mathlib.Core.Path.{sym}
use native.Mathlib.Omega.{arith}
use Rattle.kep.proofs.Operations.{one_shl, below_set}
use Rattle.sets.proofs.vertex_set.VertexSet.below.Goals as goal

pub returns-then-end-gt15 : goal.returns-then-end-gt15
returns-then-end-gt15 c = sym (below_set 16 c.args.end 16 (omega arith) (λ u l. (λ _. l, λ _. omega arith)))

pub returns : goal.returns
returns c =
    let n = c.args.end in
    rw (one_shl 16 n (omega arith)) (sym (below_set 16 n n (omega arith) (λ u l. (λ h. h, λ h. h))))
