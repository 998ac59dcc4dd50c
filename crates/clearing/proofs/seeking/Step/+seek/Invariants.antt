-- The search ends, since a longer path leaves fewer vertices free beside it.
use Rattle.std.proofs.Common.{◌-◌}
use Rattle.clearing.specs.inner.Seeking.{ways_of}
use Rattle.clearing.proofs.Seek.{Trying}
use Rattle.clearing.proofs.seeking.Step.+seek.Given as goal

abbrev pub decreases-seek : goal.decreases-seek
decreases-seek l = l.self.now.free.0 - l.path.set.0

abbrev pub invariant-loop-v : goal.invariant-loop-v
invariant-loop-v l = Trying (ways_of l.self) l.initial.dead l.initial.bytes l.path.set.0 l.path.last l.dead l.bytes l.left.0

abbrev pub decreases-loop-v : goal.decreases-loop-v
decreases-loop-v l = l.left.0
