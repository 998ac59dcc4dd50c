use mathlib.Core.Bool.{not}
use mathlib.Core.Path.{◌≡◌, sym}
use native.Mathlib.Omega.{arith}
use lib.Bits.{bit_and, and_zero_r}
use lib.Dec.{eqb}
use Rattle.kep.specs.Sets.{has}
use Rattle.kep.proofs.SetLaws.{has_below}
use Rattle.kep.proofs.SetLoops.{bit_flag}
use Rattle.kep.proofs.Tests.{is_false}
use Rattle.sets.proofs.OneBit.{by_bit}
use Rattle.sets.proofs.vertex_set.VertexSet.has.Goals as goal

pub returns : goal.returns
returns c =
    let s = c.args.self.0 in
    let v = c.args.v in
    rw c.bit.ensures
    (by_bit (λ b. not (eqb (bit_and s b) 0) ≡ has s v) v (λ l. bit_flag s v) (λ h. rw (and_zero_r s) (sym (is_false (has s v) (λ t. omega (arith, has_below 16 s v (omega arith) t))))))
