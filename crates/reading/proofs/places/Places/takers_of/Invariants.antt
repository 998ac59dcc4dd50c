use mathlib.Core.List.{[]}
use mathlib.Core.Path.{◌≡◌}
use lib.ListN.{get_or}
use Rattle.kep.specs.Sets.{set_where}
use Rattle.reading.specs.computed.Pool.{record_gives}
use Rattle.reading.proofs.places.Places.takers_of.Given as goal

abbrev pub invariant-loop-v : goal.invariant-loop-v
invariant-loop-v l = l.set.0 ≡ set_where l.v (λ v. record_gives l.giver (get_or l.self.records.now v []))
