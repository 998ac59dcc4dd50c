-- Calls that make their tests in order refuse by the first that fails. One way for all of them.
use mathlib.Core.Bool.{Bool, true, false}
use mathlib.Core.List.{List, [], ◌∷◌}
use mathlib.Core.Path.{◌≡◌, sym, ap, ◌∙◌}
use Prim.Native.Nat.{ℕ, ◌<◌}
use native.Mathlib.Omega.{arith}
use lib.Dec.{T, leb, leb→le}
use Rattle.pool.specs.Causes.{FirstFails, here, later}
use Rattle.pool.specs.Refusals.{Outcome, accepted, refused, tested, left_by}
use Rattle.pool.proofs.Tested.{passes, fails, not_both}

-- by it the call refuses
pub refuses : {A : Type 0} (ts : List (ℕ × Bool)) (at : ℕ) (rest : Outcome A) {n : ℕ} → FirstFails ts n → refused n at ≡ tested ts at rest
refuses [] at rest f = elim f [ ]
refuses ((n, b) ∷ ts) at rest (here f) = sym (fails n b ts at rest f)
refuses ((k, b) ∷ ts) at rest (later h r) = refuses ts at rest r ∙ sym (passes k b ts at rest h)

-- a test that is made alone refuses: so does what refuses where it fails
pub alone : {A B : Type 0} (a : A) (k : ℕ) (b : Bool) (i : ℕ) {n at : ℕ} {o : Outcome B} → refused n at ≡ tested ((k, b) ∷ []) i (accepted a)
    → ((T b → ⊥) → refused k i ≡ o) → refused n at ≡ o
unfolding tested
alone a k b i {n} {at} {o} e = go b e
  where
    go : (b : Bool) → refused n at ≡ tested ((k, b) ∷ []) i (accepted a) → ((T b → ⊥) → refused k i ≡ o) → refused n at ≡ o
    go true e f = absurd (not_both (sym e))
    go false e f = let same : n ≡ k = cc in let spot : at ≡ i = cc in rw (same, spot) (f (λ t. t))

-- less is lent than is needed
pub short : {need lent : ℕ} → lent < need → T (leb need lent) → ⊥
short {need} {lent} h t = omega (arith, leb→le need lent t)

-- what a call tells decides what it leaves in the memory that it is lent
pub tells : {A B : Type 0} {o told : Outcome A} (new : A → B) (old : B) → told ≡ o → (told ≡ o) × (left_by told new old ≡ left_by o new old)
tells new old e = (e, ap (λ o. left_by o new old) e)
