use mathlib.Core.List.{[]}
use mathlib.Core.Path.{sym}
use Rattle.reading.specs.computed.Pool.{takers_of}
use Rattle.reading.proofs.places.Places.takers_at.Goals as goal

pub returns-in-Some : goal.returns-in-Some
unfolding takers_of
returns-in-Some c = let found = c.in-Some.ensures.lookup in rw (sym found.0, sym (found.3.1 [])) c.takers_of.ensures
