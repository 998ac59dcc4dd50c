use mathlib.Core.Path.{◌≡◌}
use Prim.Native.Nat.{◌+◌, ◌-◌}
use native.Mathlib.Omega.{arith}
use Rattle.kep.proofs.Twos.{two_sum, part_neither}
use Rattle.tables.proofs.PartsCode.{from_at}
use Rattle.tables.proofs.fours.Fours.alone.Goals as goal

pub overflow_add-result-2 : goal.overflow_add-result-2
overflow_add-result-2 c =
    let f = c.args.self.now in
    let e : f.s - c.args.t ≡ f.b + (c.args.u + f.a) = omega (arith, two_sum f.two_aside) in
    omega (arith, rw e at (f.can_try.under c.args.t c.requires.some (part_neither f.two_aside c.requires.inside)), f.can_try.fits, from_at f.b f.table.now f.beyond_is (c.args.u + f.a))
