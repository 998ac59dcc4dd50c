use mathlib.Core.List.{◌++◌}
use mathlib.Core.Path.{◌≡◌}
use lib.ListN.{length, drop, get_or}
use Rattle.plans.specs.Check.{vertices_of}
use Rattle.report.specs.Text.{kind_word, places_text}
use Rattle.report.specs.inner.Writing.{pushed}
use Rattle.report.proofs.text.Text.push_record.Given as goal

abbrev pub invariant-loop-place : goal.invariant-loop-place
invariant-loop-place l =
    pushed l.self (places_text (drop (length l.yielded) (vertices_of l.bytes)))
    ≡ pushed l.fn.self (kind_word (get_or l.bytes 14 0) ++ places_text (vertices_of l.bytes))
