use Rattle.reading.proofs.Scanning.{Scanning}
use Rattle.reading.proofs.places.Places.count_houses.Given as goal

abbrev pub invariant-loop-at : goal.invariant-loop-at
invariant-loop-at l = Scanning l.self.records.now l.houses_only l.houses l.at-counter
