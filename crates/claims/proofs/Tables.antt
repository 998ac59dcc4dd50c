-- Demand 2, the tables: what the calls that fill them tell and leave, where they accept what they are lent.
use mathlib.Core.List.{List}
use mathlib.Core.Path.{◌≡◌}
use Prim.Native.Nat.{ℕ, ◌/◌, ◌^◌}
use lib.ListN.{get_or}
use Rattle.pool.specs.declared.value.Pool.{Pool}
use Rattle.pool.specs.declared.limits.Limits.{Limits}
use Rattle.kep.specs.Table.{per_member}
use Rattle.kep.specs.Trying.{tried_over}
use Rattle.pool.specs.Refusals.{accepted}
use Rattle.tables.specs.declared.best.BestFilled.{BestFilled}
use Rattle.tables.specs.Calls.{marked, members_held, best_outcome, best_left}
use Rattle.exchanges.specs.ExchangesCall.{exchanges_outcome, exchanges_left}
use Rattle.claims.specs.Tables.{ExchangeTable, BestTable}
use Rattle.claims.proofs.TableLaws.{exchanges_left_lem, best_left_lem}

-- `fill_exchanges` returns the number of entries, 2 to the n, and leaves an exchange table of the pool under the limits.
pub exchanges_filled : (p : Pool) (l : Limits) (table : List ℕ) {k : ℕ} → exchanges_outcome p l table ≡ accepted k
    → (k ≡ 2 ^ p.size) × ExchangeTable p l table (exchanges_left p l table)
exchanges_filled p l table filled = exchanges_left_lem p l table filled

-- `fill_best` returns the number of entries and the parts tried over all sets, and leaves a best table over the marks of the lent exchange
-- table, whatever that holds. Whether a part serves every member with the best of the rest is told by the table that is left: by the
-- members in its entry of the rest.
pub best_filled : (p : Pool) (exchanges table : List ℕ) {filled : BestFilled} → best_outcome p exchanges table ≡ accepted filled
    → (filled.entries ≡ 2 ^ p.size)
    × (filled.tried ≡ tried_over (members_held p) (λ r. get_or (best_left p exchanges table) r 0 / per_member) (marked exchanges) (2 ^ p.size))
    × BestTable p exchanges table (best_left p exchanges table)
best_filled p exchanges table told = best_left_lem p exchanges table told
