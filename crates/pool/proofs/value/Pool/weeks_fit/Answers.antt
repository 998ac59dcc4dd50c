use borrow.Author.Rules.{rules}
use lib.Dec.{leb, ltb}
use lib.ListN.{get_or}
use Rattle.kep.specs.Sets.{counted}
use Rattle.kep.proofs.OverRange.{all_below}
use Rattle.pool.specs.Value.{weeks_fit, most_weeks_waited}
use Rattle.pool.proofs.value.Pool.weeks_fit.Goals as goal

pub returns : goal.returns
unfolding weeks_fit
returns c =
    let pool = c.args.self.now in
    all_below (λ v. leb (get_or pool.weeks v 0) (counted (ltb v pool.size) most_weeks_waited)) _ (λ v b q k. search rules) 14 c.all.ensures.ran
