-- The call: its tests in their order, and what it tells and leaves where one fails and where all pass.
use mathlib.Core.Bool.{Bool}
use mathlib.Core.List.{List, [], ◌∷◌}
use mathlib.Core.Path.{◌≡◌, refl, sym, ap, ◌∙◌}
use Prim.Native.Nat.{ℕ, ◌*◌, ◌^◌, ◌≤◌, ◌<◌}
use lib.Dec.{T, leb, leb→le, le→leb}
use lib.ListN.{length}
use Rattle.pool.specs.declared.value.Pool.{Pool}
use Rattle.pool.specs.declared.limits.Limits.{Limits}
use Rattle.pool.specs.Limits.{limits_fit}
use Rattle.reading.specs.Records.{read_pool}
use Rattle.pool.specs.Refusals.{Outcome, accepted, refused, tested, and_then}
use Rattle.pool.specs.Value.{pool_fits}
use Rattle.kep.specs.Lists.{none, also}
use Rattle.exchanges.specs.ExchangesCall.{exchanges_tests}
use Rattle.clearing.specs.Clearing.{lent_tests, clear_tests, clearable_value, clearable}
use Rattle.clearing.specs.computed.Cleared.{clear_outcome, exchanges_cleared, best_cleared, plan_cleared}
use Rattle.kep.proofs.Each.{each_first, each_rest}
use Rattle.pool.proofs.Tested.{all_held, all_pass, with_rest}
use Rattle.pool.proofs.TestsInOrder.{refuses, short}
use Rattle.pool.specs.Causes.{here, later}

-- ---- 6 to 10

module _ (p : Pool) (l : Limits) (exchanges best plan : ℕ) where
  abbrev Told : Outcome Pool → Type 0
  Told o = o ≡ tested (lent_tests p l exchanges best plan) 0 (accepted p)

  -- 9 and 10
  abbrev others : List (ℕ × Bool)
  others = (9, leb (2 ^ p.size) best) ∷ (10, leb (16 * p.size) plan) ∷ []

  -- they are made where those of the exchange table passed
  pub behind : {o : Outcome Pool} → o ≡ tested (exchanges_tests p l exchanges) 0 (accepted p) → Told (and_then o (λ _. tested others 0 (accepted p)))
  unfolding tested
  behind e = sym (with_rest p (exchanges_tests p l exchanges) 0 (sym e) (tested others 0 (accepted p)))

  module _ (passed : accepted p ≡ tested (exchanges_tests p l exchanges) 0 (accepted p)) where
    pub best_short : best < 2 ^ p.size → Told (refused 9 0)
    best_short s = refuses others 0 (accepted p) (here (short s)) ∙ behind passed

    module _ (best_long : 2 ^ p.size ≤ best) where
      pub plan_short : plan < 16 * p.size → Told (refused 10 0)
      plan_short s = refuses others 0 (accepted p) (later (le→leb _ _ best_long) (here (short s))) ∙ behind passed

      pub passes_all : 16 * p.size ≤ plan → Told (accepted p)
      passes_all plan_long = sym (all_pass 0 (accepted p) {ts = others} (also (le→leb _ _ best_long) (also (le→leb _ _ plan_long) none))) ∙ behind passed

module _ (p : Pool) (l : Limits) (exchanges best plan : List ℕ) where
  -- what passing says
  pub record Passed : Type 0 where
    pub fits : T (pool_fits p)
    pub within : T (limits_fit l)
    pub exchanges_long : 2 ^ p.size ≤ length exchanges
    pub best_long : 2 ^ p.size ≤ length best
    pub plan_long : 16 * p.size ≤ length plan

  pub passed : {q : Pool} → accepted q ≡ clearable_value p l exchanges best plan → Passed
  unfolding clearable_value
  passed e =
      let (six, _) = all_held (clear_tests p l exchanges best plan) 0 (accepted p) (sym e) in
      let seven = each_rest six in
      let eight = each_rest seven in
      let nine = each_rest eight in
      record {
        fits = each_first six;
        within = each_first seven;
        exchanges_long = leb→le (2 ^ p.size) (length exchanges) (each_first eight);
        best_long = leb→le (2 ^ p.size) (length best) (each_first nine);
        plan_long = leb→le (16 * p.size) (length plan) (each_first (each_rest nine));
      }

-- ---- what is told and left, by the pool accepted

-- as a contract has it
abbrev pub Tells : Limits → Outcome Pool → List ℕ → List ℕ → List ℕ → Outcome (ℕ × ℕ) → List ℕ → List ℕ → List ℕ → Type 0
Tells l o exchanges best plan told exchanges' best' plan' =
    (told ≡ clear_outcome l o) × ((exchanges' ≡ exchanges_cleared l o exchanges) × ((best' ≡ best_cleared l o best) × (plan' ≡ plan_cleared l o plan)))

-- what is told of one outcome is told of another that is the same
pub tells_same : (l : Limits) (exchanges best plan : List ℕ) {o o' : Outcome Pool} {told : Outcome (ℕ × ℕ)} {exchanges' best' plan' : List ℕ} → o ≡ o'
    → Tells l o exchanges best plan told exchanges' best' plan' → Tells l o' exchanges best plan told exchanges' best' plan'
tells_same l exchanges best plan e h = rw (← e) h

-- a refusal is told, and leaves all that is lent
pub tells_refused : (l : Limits) (exchanges best plan : List ℕ) {o : Outcome Pool} {n at : ℕ} → refused n at ≡ o → Tells l o exchanges best plan (refused n at) exchanges best plan
tells_refused l exchanges best plan e = rw (← e) (refl, (refl, (refl, refl)))

-- ---- reading first

pub read_first : (bytes : List ℕ) (l : Limits) (exchanges best plan : List ℕ) {o : Outcome Pool} → o ≡ read_pool bytes
    → and_then o (λ p. clearable_value p l exchanges best plan) ≡ clearable bytes l exchanges best plan
unfolding clearable
read_first bytes l exchanges best plan e = ap (λ (o : Outcome Pool). and_then o (λ p. clearable_value p l exchanges best plan)) e

pub read_refused : (bytes : List ℕ) {n at : ℕ} → refused n at ≡ read_pool bytes
    → (l : Limits) (exchanges best plan : List ℕ) → refused n at ≡ clearable bytes l exchanges best plan
read_refused bytes e l exchanges best plan = read_first bytes l exchanges best plan e
