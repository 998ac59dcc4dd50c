-- Tables that were written from the front hold their meaning; so do those that the filling calls leave.
use mathlib.Core.List.{List}
use mathlib.Core.Path.{◌≡◌, refl, sym, ap, ◌∙◌}
use Prim.Native.Nat.{ℕ, ◌/◌, ◌^◌, ◌≤◌, ◌<◌}
use native.Mathlib.Omega.{arith}
use lib.Dec.{T, leb→le}
use lib.ListN.{length, get_or, drop}
use lib.Pow.{pow_pos, pow-lt}
use lib.Seq.{drop_at, length_front, length-take-le}
use Rattle.pool.specs.declared.value.Pool.{Pool}
use Rattle.pool.specs.declared.limits.Limits.{Limits}
use Rattle.kep.specs.Lists.{tabulate, written_to}
use Rattle.kep.specs.Table.{per_member}
use Rattle.kep.specs.Trying.{tried_over}
use Rattle.kep.specs.computed.Table.{entry, best}
use Rattle.pool.specs.Refusals.{accepted}
use Rattle.pool.specs.Value.{graph_of, weeks_in, pool_fits}
use Rattle.tables.specs.declared.best.BestFilled.{BestFilled}
use Rattle.tables.proofs.BestCall.{told_all}
use Rattle.tables.specs.Calls.{marked, set_worth, members_held, best_tried, best_tests, best_outcome, best_left}
use Rattle.exchanges.specs.ExchangesCall.{exchanges_tests, exchanges_outcome, exchanges_left}
use Rattle.claims.specs.Tables.{ExchangeTable, BestTable}
use Rattle.kep.proofs.Each.{each_first, each_rest}
use Rattle.kep.proofs.Tables.{length_tabulate, written_at}
use Rattle.kep.proofs.EntryMeaning.{entry_ends, entry_some, entry_empty, entry_altruist}
use Rattle.kep.proofs.BestFilling.{over_same}
use Rattle.kep.proofs.Weeks.{weeks_held_lem, members_told}
use Rattle.pool.proofs.Causes.{alone_accepted}
use Rattle.pool.proofs.ValueLaws.{fits_altruists, few_weeks}

-- ---- a table whose first k entries were written with the values of f

module _ (f : ℕ → ℕ) (k : ℕ) (old : List ℕ) where
  written_beyond : drop k (written_to f k old) ≡ drop k old
  written_beyond = drop_at (tabulate f k) (drop k old) k (length_tabulate f k)

  written_long : k ≤ length old → length (written_to f k old) ≡ length old
  written_long long = length_front old (tabulate f k) k (length_tabulate f k ∙ sym (length-take-le k old long))

-- with the entries of the exchange table
pub written_exchanges : (p : Pool) (l : Limits) → T (pool_fits p) → (old : List ℕ) → 2 ^ p.size ≤ length old
    → ExchangeTable p l old (written_to (entry (graph_of p) l.cycle l.chain) (2 ^ p.size) old)
written_exchanges p l fits old long =
    let g = graph_of p in
    let lc = l.cycle in
    let lp = l.chain in
    record {
      marks = λ s h. rw (written_at (entry g lc lp) (2 ^ p.size) old refl s h) (entry_some g lc lp s);
      ends = λ s h v. rw (written_at (entry g lc lp) (2 ^ p.size) old refl s h) (entry_ends g lc lp s v);
      none = written_at (entry g lc lp) (2 ^ p.size) old refl 0 (omega (arith, pow_pos p.size)) ∙ entry_empty g lc lp;
      lone_house = λ a h. written_at (entry g lc lp) (2 ^ p.size) old refl (2 ^ a) (pow-lt (omega (arith, h, fits_altruists p fits))) ∙ entry_altruist g lc lp a h;
      beyond = written_beyond (entry g lc lp) (2 ^ p.size) old;
      as_long = written_long (entry g lc lp) (2 ^ p.size) old long;
    }

-- with the best of an exchange table's marks, by whatever name f
pub written_best : (p : Pool) → T (pool_fits p) → (exchanges old : List ℕ) → 2 ^ p.size ≤ length old
    → (f : ℕ → ℕ) → ((s : ℕ) → s < 2 ^ p.size → best (set_worth p) (marked exchanges) s ≡ f s) → BestTable p exchanges old (written_to f (2 ^ p.size) old)
written_best p fits exchanges old long f same = record {
  entries = λ s h. rw (written_at f (2 ^ p.size) old refl s h, ← same s h) (weeks_held_lem (graph_of p) (weeks_in p) (few_weeks p fits) (marked exchanges) s);
  beyond = written_beyond f (2 ^ p.size) old;
  as_long = written_long f (2 ^ p.size) old long;
}

-- ---- what the filling calls accept

module _ (p : Pool) (l : Limits) (table : List ℕ) {k : ℕ} (filled : exchanges_outcome p l table ≡ accepted k) where
  exchanges_tests_lem : T (pool_fits p) × (2 ^ p.size ≤ length table) × (2 ^ p.size ≡ k)
  unfolding exchanges_outcome
  exchanges_tests_lem =
      let (six, count) = (alone_accepted (2 ^ p.size) (exchanges_tests p l (length table)) 0).0 filled in
      (each_first six, leb→le (2 ^ p.size) (length table) (each_first (each_rest (each_rest six))), count)

  pub exchanges_left_lem : (k ≡ 2 ^ p.size) × ExchangeTable p l table (exchanges_left p l table)
  unfolding exchanges_left
  exchanges_left_lem = let (fits, long, count) = exchanges_tests_lem in (sym count, rw filled (written_exchanges p l fits table long))

module _ (p : Pool) (exchanges table : List ℕ) {filled : BestFilled} (told : best_outcome p exchanges table ≡ accepted filled) where
  best_tests_lem : T (pool_fits p) × (2 ^ p.size ≤ length table) × (told_all p exchanges table ≡ filled)
  unfolding best_outcome
  best_tests_lem =
      let (six, counts) = (alone_accepted (told_all p exchanges table) (best_tests p exchanges table) 0).0 told in
      (each_first six, leb→le (2 ^ p.size) (length table) (each_first (each_rest (each_rest six))), counts)

  -- the entries tell the members
  tried_told : T (pool_fits p) → (f : ℕ → ℕ) → ((s : ℕ) → s < 2 ^ p.size → f s ≡ best (set_worth p) (marked exchanges) s)
      → best_tried p exchanges ≡ tried_over (members_held p) (λ r. f r / per_member) (marked exchanges) (2 ^ p.size)
  unfolding best_tried
  tried_told fits f same =
      over_same (members_held p) (best (members_held p) (marked exchanges)) (λ r. f r / per_member) (marked exchanges) (2 ^ p.size)
      (λ s l. members_told (graph_of p) (weeks_in p) (few_weeks p fits) (marked exchanges) s ∙ ap (λ (x : ℕ). x / per_member) (sym (same s l)))

  pub best_left_lem : (filled.entries ≡ 2 ^ p.size)
      × (filled.tried ≡ tried_over (members_held p) (λ r. get_or (best_left p exchanges table) r 0 / per_member) (marked exchanges) (2 ^ p.size))
      × BestTable p exchanges table (best_left p exchanges table)
  unfolding best_left
  best_left_lem =
      let (fits, long, counts) = best_tests_lem in
      let bests = best (set_worth p) (marked exchanges) in
      rw told (
        sym (ap (λ (f : BestFilled). f.entries) counts),
        sym (ap (λ (f : BestFilled). f.tried) counts) ∙ tried_told fits (λ r. get_or (written_to bests (2 ^ p.size) table) r 0) (written_at bests (2 ^ p.size) table refl),
        written_best p fits exchanges table long bests (λ s h. refl),
      )
