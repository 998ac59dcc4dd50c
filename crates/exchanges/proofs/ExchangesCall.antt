-- The call that fills the exchange table: the first cause met, and what it leaves.
use mathlib.Core.List.{List}
use mathlib.Core.Path.{◌≡◌, sym, ap, ◌∙◌}
use Prim.Native.Nat.{ℕ, ◌^◌, ◌≤◌, ◌<◌}
use lib.Dec.{T, leb→le, le→leb}
use lib.ListN.{length}
use Rattle.pool.specs.declared.value.Pool.{Pool}
use Rattle.pool.specs.declared.limits.Limits.{Limits}
use Rattle.kep.specs.Lists.{none, also, written_to}
use Rattle.pool.specs.Refusals.{Outcome, accepted, refused, tested, and_then, left_by}
use Rattle.pool.specs.Limits.{limits_fit, test_limits}
use Rattle.pool.specs.Value.{graph_of, pool_fits, test_pool}
use Rattle.kep.specs.computed.Table.{entry}
use Rattle.exchanges.specs.ExchangesCall.{exchanges_tests, exchanges_outcome, exchanges_left}
use Rattle.kep.proofs.Each.{each_first, each_rest}
use Rattle.pool.proofs.Tested.{all_pass, all_held, with_rest}
use Rattle.pool.proofs.TestsInOrder.{refuses, alone, short, tells}
use Rattle.pool.specs.Causes.{FirstFails, here, later}

-- ---- 6, 7 and 8, by the length of the table

module _ (p : Pool) (l : Limits) (table : ℕ) where
  abbrev Told : Outcome Pool → Type 0
  Told o = o ≡ tested (exchanges_tests p l table) 0 (accepted p)

  -- the first test that fails decides
  met : {n : ℕ} → FirstFails (exchanges_tests p l table) n → Told (refused n 0)
  met r = refuses (exchanges_tests p l table) 0 (accepted p) r

  pub pool_refused : {n at : ℕ} → refused n at ≡ test_pool p → Told (refused n at)
  unfolding test_pool
  pool_refused e = alone p 6 (pool_fits p) 0 e (λ f. met (here f))

  -- what passing says
  pub record Passed : Type 0 where
    pub fits : T (pool_fits p)
    pub within : T (limits_fit l)
    pub long : 2 ^ p.size ≤ table

  pub passed : Told (accepted p) → Passed
  passed e =
      let (six, _) = all_held (exchanges_tests p l table) 0 (accepted p) (sym e) in
      let seven = each_rest six in
      record { fits = each_first six; within = each_first seven; long = leb→le (2 ^ p.size) table (each_first (each_rest seven)) }

  module _ (fits : T (pool_fits p)) where
    pub limits_refused : {n at : ℕ} → refused n at ≡ test_limits l → Told (refused n at)
    unfolding test_limits
    limits_refused e = alone l 7 (limits_fit l) 0 e (λ f. met (later fits (here f)))

    module _ (within : T (limits_fit l)) where
      pub table_short : table < 2 ^ p.size → Told (refused 8 0)
      table_short h = met (later fits (later within (here (short h))))

      pub passes_all : 2 ^ p.size ≤ table → Told (accepted p)
      passes_all h = sym (all_pass 0 (accepted p) {ts = exchanges_tests p l table} (also fits (also within (also (le→leb _ _ h) none))))

-- ---- the call

module _ (p : Pool) (l : Limits) (table : List ℕ) where
  -- the contract: what is told, and what the table holds then
  abbrev pub Tells : Outcome ℕ → List ℕ → Type 0
  Tells told left = (told ≡ exchanges_outcome p l table) × (left ≡ exchanges_left p l table)

  abbrev pub written : List ℕ
  written = written_to (entry (graph_of p) l.cycle l.chain) (2 ^ p.size) table

  -- by what its tests told
  pub leaves : {o : Outcome Pool} → Told p l (length table) o → let told = and_then o (λ _. accepted (2 ^ p.size)) in Tells told (left_by told (λ _. written) table)
  unfolding exchanges_outcome exchanges_left
  leaves e = tells (λ _. written) table (sym (with_rest p (exchanges_tests p l (length table)) 0 (sym e) (accepted (2 ^ p.size))))

  -- as code tells the number of entries
  pub filled : {entries : ℕ} {left : List ℕ} → Told p l (length table) (accepted p) → entries ≡ 2 ^ p.size → left ≡ written → Tells (accepted entries) left
  filled t e done = let (told, kept) = leaves t in (ap accepted e ∙ told, done ∙ kept)
