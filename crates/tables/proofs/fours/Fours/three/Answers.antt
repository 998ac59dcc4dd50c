use mathlib.Core.Path.{◌≡◌}
use Prim.Native.Nat.{◌+◌, ◌-◌}
use native.Mathlib.Omega.{arith}
use Rattle.kep.proofs.Twos.{two_sum, two_some, part_both, part_second, part_first}
use Rattle.tables.proofs.PartsCode.{from_at}
use Rattle.tables.proofs.fours.Fours.three.Goals as goal

pub overflow_add-result-2 : goal.overflow_add-result-2
overflow_add-result-2 c =
    let f = c.args.self.now in
    let e : f.s - (f.b + (c.args.t + f.a)) ≡ c.args.u = omega (arith, two_sum f.two_aside) in
    omega (arith, rw e at (f.can_try.under _ (omega (arith, two_some f.two_aside)) (part_both f.two_aside c.requires.inside)), f.can_try.fits, from_at f.b f.offers.now f.later_is (c.args.t + f.a))

pub overflow_add-result-4 : goal.overflow_add-result-4
overflow_add-result-4 c =
    let f = c.args.self.now in
    let e : f.s - (f.b + c.args.t) ≡ c.args.u + f.a = omega (arith, two_sum f.two_aside) in
    omega (arith, rw e at (f.can_try.under _ (omega (arith, two_some f.two_aside)) (part_second f.two_aside c.requires.inside)), f.can_try.fits, from_at f.b f.offers.now f.later_is c.args.t)

pub overflow_add-result-6 : goal.overflow_add-result-6
overflow_add-result-6 c =
    let f = c.args.self.now in
    let e : f.s - (c.args.t + f.a) ≡ f.b + c.args.u = omega (arith, two_sum f.two_aside) in
    omega (arith, rw e at (f.can_try.under _ (omega (arith, two_some f.two_aside)) (part_first f.two_aside c.requires.inside)), f.can_try.fits, from_at f.b f.table.now f.beyond_is c.args.u)
