-- The two tables as clearing leaves them: the best table goes by the marks of the exchange table beside it, so it holds the best of
-- the pool's exchanges.
use mathlib.Core.Bool.{Bool, not}
use mathlib.Core.List.{List, ◌++◌}
use mathlib.Core.Path.{◌≡◌, sym, ap, ◌∙◌}
use Prim.Native.Nat.{ℕ, ◌+◌, ◌-◌, ◌/◌, ◌^◌, ◌≤◌, ◌<◌}
use native.Mathlib.Nat.{le_antisymm, mul-le-mul_right}
use native.Mathlib.Omega.{arith}
use lib.Dec.{T, eqb}
use lib.ListN.{length, get_or, drop}
use lib.Pow.{pow_pos}
use Rattle.pool.specs.declared.value.Pool.{Pool}
use Rattle.pool.specs.declared.limits.Limits.{Limits}
use Rattle.kep.specs.Lists.{flat}
use Rattle.pool.specs.Limits.{limits_fit}
use Rattle.kep.specs.Sets.{Part}
use Rattle.pool.specs.Value.{graph_of, weeks_in, most_weeks_waited, pool_fits}
use Rattle.tables.specs.Calls.{marked, worth_in, set_worth, best_left}
use Rattle.exchanges.specs.ExchangesCall.{exchanges_left}
use Rattle.kep.specs.Table.{served, per_member, Family}
use Rattle.kep.specs.computed.Table.{entry, marks, best, best_of, everything}
use Rattle.clearing.specs.computed.Cleared.{plan_of, exchanges_of, bests_of}
use Rattle.clearing.specs.inner.Taking.{TablesHold}
use Rattle.kep.proofs.Tables.{written_at, tabulate_below, written_front}
use Rattle.kep.proofs.Parts.{part_le}
use Rattle.kep.proofs.BestTable.{best_attained, best_bound, best_worth}
use Rattle.exchanges.proofs.ExchangesCall.{passes_all as exchanges_pass, leaves as exchanges_leave}
use Rattle.tables.proofs.BestCode.{worth_most}
use Rattle.tables.proofs.BestCall.{accepted_all as best_accepted}
use Rattle.kep.proofs.Answer.{answer_best, answer_legal}
use Rattle.kep.proofs.BestPlan.{best_count}
use Rattle.kep.proofs.Weeks.{waited_small, weeks_told}
use Rattle.kep.proofs.Worth.{worth_le}
use Rattle.pool.proofs.ValueLaws.{fits_size, few_weeks}

-- ---- marks that agree on the parts of a set give it the same best

module _ (v : ℕ → ℕ) (m m' : ℕ → Bool) (s : ℕ) where
  best_more : ((t : ℕ) → Part t s → T (m t) → T (m' t)) → best v m s ≤ best v m' s
  best_more more =
      let (ts, family, worth) = best_attained v m s in
      let also_family : Family m' s ts = record {
        each = λ t i. let k = family.each t i in record { nonempty = k.nonempty; marked = more t k.inside k.marked; inside = k.inside };
        disjoint = family.disjoint;
      } in
      omega (arith, worth, best_bound v m' also_family)

pub best_agrees : (v : ℕ → ℕ) (m m' : ℕ → Bool) (s : ℕ) → ((t : ℕ) → Part t s → m t ≡ m' t) → best v m s ≡ best v m' s
best_agrees v m m' s same =
    le_antisymm (best_more v m m' s (λ t i k. rw (← same t i) k)) (best_more v m' m s (λ t i k. rw (same t i) k))

module _ (p : Pool) (l : Limits) (fits : T (pool_fits p)) where
  -- ---- the exchange table: none of 6 to 8 is met

  pub exchanges_filled : (table : List ℕ) {left : List ℕ} → T (limits_fit l) → 2 ^ p.size ≤ length table → left ≡ exchanges_left p l table → left ≡ exchanges_of p l table
  exchanges_filled table within long e = e ∙ sym (exchanges_leave p l table (exchanges_pass p l (length table) fits within long)).1

  -- ---- the best table over it: none of 6, 8 and 9 is met

  module _ (table₀ : List ℕ) {exchanges : List ℕ} (filled : exchanges ≡ exchanges_of p l table₀) where
    -- its marks are those of the pool
    marks_agree : (t : ℕ) → t < 2 ^ p.size → marked exchanges t ≡ marks (graph_of p) l.cycle l.chain t
    unfolding marks
    marks_agree t b = ap (λ (x : ℕ). not (eqb x 0)) (written_at (entry (graph_of p) l.cycle l.chain) (2 ^ p.size) table₀ filled t b)

    pub bests_agree : (s : ℕ) → s < 2 ^ p.size → best (set_worth p) (marked exchanges) s ≡ best_of (worth_in p) (graph_of p) l.cycle l.chain s
    bests_agree s b = best_agrees (set_worth p) (marked exchanges) (marks (graph_of p) l.cycle l.chain) s (λ t i. marks_agree t (omega (arith, part_le i)))

    pub best_filled : (table : List ℕ) {left : List ℕ} → 2 ^ p.size ≤ length exchanges → 2 ^ p.size ≤ length table → left ≡ best_left p exchanges table → left ≡ bests_of p l table
    best_filled table long also_long e =
        e
        ∙ sym (best_accepted p exchanges table fits long also_long).1
        ∙ ap (λ (xs : List ℕ). xs ++ drop (2 ^ p.size) table) (tabulate_below (best (set_worth p) (marked exchanges)) (best_of (worth_in p) (graph_of p) l.cycle l.chain) (2 ^ p.size) bests_agree)

    -- so the choice may go by both
    pub filled_hold : (table : List ℕ) {left : List ℕ} → left ≡ bests_of p l table → TablesHold p l exchanges left
    filled_hold table e = record {
      exchanges_hold = written_front (entry (graph_of p) l.cycle l.chain) (2 ^ p.size) table₀ filled;
      best_hold = written_front (best_of (worth_in p) (graph_of p) l.cycle l.chain) (2 ^ p.size) table e;
    }

  -- the last entry of the best table tells the members served
  module _ (table : List ℕ) {left : List ℕ} (filled : left ≡ bests_of p l table) where
    last_best : get_or left (2 ^ p.size - 1) 0 ≡ best_of (worth_in p) (graph_of p) l.cycle l.chain (everything (graph_of p))
    last_best = written_at (best_of (worth_in p) (graph_of p) l.cycle l.chain) (2 ^ p.size) table filled (2 ^ p.size - 1) (omega (arith, pow_pos p.size))

    pub last_served : get_or left (2 ^ p.size - 1) 0 / per_member ≡ served (graph_of p) (flat (plan_of p l))
    last_served =
        let g = graph_of p in
        let below = waited_small g (weeks_in p) (few_weeks p fits) l.cycle l.chain in
        ap (λ (x : ℕ). x / per_member) (last_best ∙ sym (best_count g l.cycle l.chain (worth_in p) (answer_best g l.cycle l.chain (worth_in p))))
        ∙ weeks_told g (weeks_in p) below (plan_of p l) (answer_legal g l.cycle l.chain (worth_in p))

    -- which fit a byte
    pub last_few : get_or left (2 ^ p.size - 1) 0 / per_member ≤ 14
    last_few =
        let most = worth_le (worth_in p) p.size (everything (graph_of p)) (per_member + most_weeks_waited) (worth_most p fits) in
        omega (arith, last_best, best_worth (worth_in p) (marks (graph_of p) l.cycle l.chain) p.size (everything (graph_of p)), most, mul-le-mul_right (per_member + most_weeks_waited) (fits_size p fits))
