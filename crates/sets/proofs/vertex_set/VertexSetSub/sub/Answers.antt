use Prim.Native.Nat.{◌-◌}
use native.Mathlib.Omega.{arith}
use lib.Bits.{and_comm}
use Rattle.std.proofs.lemmas.Nat.{and-not}
use Rattle.kep.proofs.Operations.{rest_and}
use Rattle.sets.proofs.vertex_set.VertexSetSub.sub.Goals as goal

pub returns : goal.returns
returns c =
    let s = c.args.self.0 in
    let t = c.args.other.0 in
    omega (arith, rest_and 16 s (omega arith) t, and-not 16 t s (omega arith) (omega arith), and_comm s (65535 - t))
