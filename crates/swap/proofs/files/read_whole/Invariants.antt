use Rattle.std.proofs.Common.{length, take, ◌-◌, ◌≤◌}
use Rattle.std.specs.Io.KnownBytes.{Consumes}
use Rattle.swap.proofs.files.read_whole.Given as goal

-- what stands at the front of the buffer is what was consumed
abbrev pub invariant-loop-done : goal.invariant-loop-done
invariant-loop-done g l = record {
  inside : l.done ≤ length l.buffer;
  bytes : Consumes (g.R.Read.remaining l.initial.file) (g.R.Read.remaining l.file) (take l.done l.buffer);
}

abbrev pub decreases-loop-done : goal.decreases-loop-done
decreases-loop-done g l = length l.initial.buffer - l.done
