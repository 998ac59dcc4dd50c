-- The outcomes of the call that fills the best table: 6, 8, 9, or the entries written and the parts tried.
use mathlib.Core.Bool.{Bool, true, false}
use mathlib.Core.List.{List}
use mathlib.Core.Logic.{◌↔◌}
use mathlib.Core.Path.{◌≡◌, refl, sym, ap, ap₂, ◌∙◌}
use Prim.Native.Nat.{ℕ, ◌+◌, ◌^◌, ◌≤◌, ◌<◌}
use native.Mathlib.Omega.{arith}
use lib.Dec.{T, le→leb}
use lib.ListN.{length}
use Rattle.pool.specs.declared.value.Pool.{Pool}
use Rattle.tables.specs.declared.best.BestFilled.{BestFilled}
use Rattle.kep.specs.Lists.{none, also, tabulate, written_to}
use Rattle.kep.specs.Sets.{counted}
use Rattle.kep.specs.Graph.{is_member}
use Rattle.kep.specs.Table.{member_worth, per_member}
use Rattle.kep.specs.Trying.{tried_over}
use Rattle.pool.specs.Refusals.{Outcome, accepted, refused, left_by}
use Rattle.pool.specs.Value.{graph_of, weeks_in, pool_fits, test_pool}
use Rattle.kep.specs.computed.Table.{best}
use Rattle.tables.specs.Calls.{marked, worth_in, set_worth, best_tried, best_tests, best_outcome, best_left}
use Rattle.kep.specs.inner.BestFilling.{worth_by}
use Rattle.kep.proofs.Covered.{over_alike}
use Rattle.pool.proofs.Tested.{all_pass}
use Rattle.pool.proofs.TestsInOrder.{refuses, alone, short, tells}
use Rattle.pool.specs.Causes.{FirstFails, here, later}
use Rattle.tables.proofs.BestCode.{worth_is}

abbrev filled_with : ℕ → ℕ → BestFilled
filled_with entries tried = record { entries = entries; tried = tried }

module _ (p : Pool) (exchanges table : List ℕ) where
  -- what is told where all tests pass
  abbrev pub told_all : BestFilled
  told_all = filled_with (2 ^ p.size) (best_tried p exchanges)

  -- the contract: what is told, and what the table holds then
  abbrev pub Tells : Outcome BestFilled → List ℕ → Type 0
  Tells told left = (told ≡ best_outcome p exchanges table) × (left ≡ best_left p exchanges table)

  leaves : {told : Outcome BestFilled} → told ≡ best_outcome p exchanges table → Tells told (left_by told (λ _. written_to (best (set_worth p) (marked exchanges)) (2 ^ p.size) table) table)
  unfolding best_left
  leaves e = tells (λ _. written_to (best (set_worth p) (marked exchanges)) (2 ^ p.size) table) table e

  -- by worth as many parts are tried as by members: the same vertices are worth nothing
  tried_is : tried_over (set_worth p) (best (set_worth p) (marked exchanges)) (marked exchanges) (2 ^ p.size) ≡ best_tried p exchanges
  unfolding best_tried
  tried_is =
      over_alike (worth_in p) (member_worth (graph_of p)) p.size (λ x l. alike (is_member (graph_of p) x) (per_member + weeks_in p x) (omega arith)) (marked exchanges) (2 ^ p.size)
    where
      alike : (b : Bool) (k : ℕ) → 0 < k → (counted b k ≡ 0) ↔ (counted b 1 ≡ 0)
      alike true k p = (λ e. absurd (omega arith), λ e. absurd (omega arith))
      alike false k p = (λ e. refl, λ e. refl)

  -- the first test that fails decides
  met : {n : ℕ} → FirstFails (best_tests p exchanges table) n → refused n 0 ≡ best_outcome p exchanges table
  unfolding best_outcome
  met r = refuses (best_tests p exchanges table) 0 (accepted told_all) r

  pub pool_refused : {n at : ℕ} → refused n at ≡ test_pool p → Tells (refused n at) table
  unfolding test_pool
  pool_refused e = leaves (alone p 6 (pool_fits p) 0 e (λ f. met (here f)))

  module _ (fits : T (pool_fits p)) where
    pub exchanges_short : length exchanges < 2 ^ p.size → Tells (refused 8 0) table
    exchanges_short s = leaves (met (later fits (here (short s))))

    module _ (long : 2 ^ p.size ≤ length exchanges) where
      pub table_short : length table < 2 ^ p.size → Tells (refused 9 0) table
      table_short s = leaves (met (later fits (later (le→leb _ _ long) (here (short s)))))

      module _ (table_long : 2 ^ p.size ≤ length table) where
        pub accepted_all : Tells (accepted told_all) (written_to (best (set_worth p) (marked exchanges)) (2 ^ p.size) table)
        unfolding best_outcome
        accepted_all =
            leaves (sym (all_pass 0 (accepted told_all) {ts = best_tests p exchanges table} (also fits (also (le→leb _ _ long) (also (le→leb _ _ table_long) none)))))

        -- all pass, the entries are written and the parts counted: by the number of entries as code works it out, and by the worths of the vertices
        pub filled : {entries count : ℕ} {each left : List ℕ} → entries ≡ 2 ^ p.size → each ≡ tabulate (worth_in p) 14
            → left ≡ written_to (best (worth_by each p.size) (marked exchanges)) (2 ^ p.size) table
            → count ≡ tried_over (worth_by each p.size) (best (worth_by each p.size) (marked exchanges)) (marked exchanges) (2 ^ p.size) → Tells (accepted (filled_with entries count)) left
        filled {each = each} e w h k =
            let m : ℕ → Bool = marked exchanges in
            let worths : worth_by each p.size ≡ set_worth p = ap (λ (xs : List ℕ). worth_by xs p.size) w ∙ worth_is p fits in (
              ap₂ (λ (x y : ℕ). accepted (filled_with x y)) e (k ∙ ap (λ (v : ℕ → ℕ). tried_over v (best v m) m (2 ^ p.size)) worths ∙ tried_is) ∙ accepted_all.0,
              h ∙ ap (λ (v : ℕ → ℕ). written_to (best v m) (2 ^ p.size) table) worths ∙ accepted_all.1,
            )
