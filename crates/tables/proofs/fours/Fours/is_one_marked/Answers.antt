use Prim.Native.Nat.{◌+◌}
use native.Mathlib.Omega.{arith}
use lib.ListN.{get_or}
use Rattle.kep.specs.inner.BestFilling.{mark}
use Rattle.tables.proofs.PartsCode.{from_at, four_below}
use Rattle.tables.proofs.fours.Fours.is_one_marked.Goals as goal

pub returns : goal.returns
returns c r =
    let f = c.args.self.now in
    let t = c.args.t in
    let below = four_below mark (get_or f.later.now (t + f.a) 0) (get_or f.later.now t 0) (get_or f.offers.now (t + f.a) 0) (get_or f.offers.now t 0) r in
    record {
      both = omega (arith, from_at f.b f.offers.now f.later_is (t + f.a));
      second = omega (arith, from_at f.b f.offers.now f.later_is t);
      first = omega arith;
      alone = omega arith;
    }
