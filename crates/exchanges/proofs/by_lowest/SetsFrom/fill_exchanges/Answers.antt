use borrow.Author.Tests.{ltb-true}
use mathlib.Core.Path.{sym, ◌∙◌}
use native.Mathlib.Omega.{arith}
use lib.Pow.{pow-lt}
use Rattle.pool.specs.Value.{graph_of}
use Rattle.pool.proofs.ValueLaws.{fits_formed}
use Rattle.exchanges.proofs.Given.{fits}
use Rattle.exchanges.proofs.ByLowest.{within, beyond, kept_all, chains_entered}
use Rattle.exchanges.proofs.by_lowest.SetsFrom.fill_exchanges.Goals as goal

pub bounds-table-first : goal.bounds-table-first
bounds-table-first c = omega (arith, c.fill_allowed.ensures.same_length, pow-lt c.args.self.now.in_pool)

pub returns-then-is_altruist : goal.returns-then-is_altruist
returns-then-is_altruist c =
    let s = c.args.self.now in
    let f = s.filling.now in
    rw c.first.ensures
    (chains_entered (graph_of f.pool) (fits_formed f.pool (fits f)) f.limits.cycle f.limits.chain s.low f.pool.size s.in_pool (ltb-true _ _ (sym c.is_altruist.ensures ∙ c.if-is_altruist.true)) c.requires.room
    (rw c.limit_of.ensures.limit at c.fill_allowed.ensures))

pub returns-else-is_altruist : goal.returns-else-is_altruist
returns-else-is_altruist c =
    let g = graph_of c.args.self.now.filling.now.pool in
    kept_all c.closing.ensures (rw c.limit_of.ensures.limit at c.fill_allowed.ensures) (λ s _ _ fits. within g _ s fits) (λ s _ _ more. beyond g _ s more) c.keep_ends.ensures
