use Prim.Native.Nat.{◌+◌, ◌-◌}
use Rattle.kep.specs.Sets.{Part}
use Rattle.kep.specs.inner.BestFilling.{looked}
use Rattle.kep.proofs.Down.{parts_from}
use Rattle.kep.proofs.Trying.{Trying}
use Rattle.tables.proofs.fours.try_fours.Given as goal

-- the groups from that of t down are left to try
abbrev pub invariant-loop-t : goal.invariant-loop-t
invariant-loop-t g l = record {
  inside : Part l.t (l.s - l.a - l.b);
  left : Trying (looked l.offers l.table l.s) l.all l.s (parts_from (l.b + (l.t + l.a)) l.s) l.most l.before;
}

abbrev pub decreases-loop-t : goal.decreases-loop-t
decreases-loop-t g l = l.t
