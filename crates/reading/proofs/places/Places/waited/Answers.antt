use mathlib.Core.Path.{◌∙◌}
use Rattle.reading.specs.computed.Pool.{weeks_at}
use borrow.Author.Rules.{rules}
use Rattle.kep.proofs.FromFn.{from_fn_tabulated}
use Rattle.reading.proofs.ForPlaces.{places_told}
use Rattle.reading.proofs.places.Places.waited.Goals as goal

pub returns : goal.returns
returns c = from_fn_tabulated _ _ _ (λ u y q k. search rules) 14 c.from_fn.ensures.items ∙ places_told (weeks_at c.args.self.now.records.now) _ c.args.self.now.few
