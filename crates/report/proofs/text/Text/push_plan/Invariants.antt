use mathlib.Core.List.{◌++◌}
use mathlib.Core.Path.{◌≡◌}
use Prim.Native.Nat.{◌+◌, ◌*◌, ◌≤◌}
use lib.ListN.{length, drop}
use Rattle.report.specs.Text.{served_line, record_lines}
use Rattle.report.specs.inner.Writing.{pushed}
use Rattle.report.proofs.text.Text.push_plan.Given as goal

abbrev pub invariant-loop-bytes : goal.invariant-loop-bytes
invariant-loop-bytes l =
    (pushed l.self (record_lines (drop l.bytes-index l.records)) ≡ pushed l.fn.self (served_line l.served l.members ++ record_lines l.records))
    × (length l.self ≤ 1024)
    × (length (record_lines l.records) ≤ 62 * l.bytes-index + length (record_lines (drop l.bytes-index l.records)))
