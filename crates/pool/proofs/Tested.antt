-- Laws of tests made in order: where one passes and where one fails, and how a call goes by the outcome of another.
use mathlib.Core.Bool.{Bool, true, false}
use mathlib.Core.List.{List, [], ◌∷◌, ◌++◌}
use mathlib.Core.Path.{◌≡◌, refl, sym, ap, subst, ◌∙◌}
use Prim.Native.Nat.{ℕ}
use native.Mathlib.Omega.{arith}
use lib.Dec.{T}
use Rattle.std.specs.Prelude.{Result, Ok, Err, MatchResult}
use Rattle.std.specs.Result.{IsErrAnd}
use Rattle.pool.specs.declared.refusal.Cause.{Cause}
use Rattle.pool.specs.declared.refusal.Refusal.{Refusal}
use Rattle.kep.specs.Lists.{Each, none, also}
use Rattle.pool.specs.Causes.{Pass}
use Rattle.pool.specs.Refusals.{Outcome, accepted, refused, outcome, tested, and_then}
use Rattle.kep.proofs.Tests.{from_true, from_false}
use Rattle.kep.proofs.Each.{each_first}

module _ {A : Type 0} (n : ℕ) (b : Bool) (ts : List (ℕ × Bool)) (at : ℕ) (rest : Outcome A) where
  pub passes : T b → tested ((n, b) ∷ ts) at rest ≡ tested ts at rest
  unfolding tested
  passes t = go b t
    where
      go : (b : Bool) → T b → tested ((n, b) ∷ ts) at rest ≡ tested ts at rest
      go true t = refl
      go false t = absurd t

  pub fails : (T b → ⊥) → tested ((n, b) ∷ ts) at rest ≡ refused n at
  unfolding tested
  fails f = go b f
    where
      go : (b : Bool) → (T b → ⊥) → tested ((n, b) ∷ ts) at rest ≡ refused n at
      go true f = absurd (f tt)
      go false f = refl

-- one test alone, by what code found of it
module _ {A : Type 0} (n at : ℕ) (a : A) {b found : Bool} (e : found ≡ b) where
  pub alone_passes : found ≡ true → accepted a ≡ tested ((n, b) ∷ []) at (accepted a)
  unfolding tested
  alone_passes t = sym (passes n b [] at (accepted a) (from_true (sym e ∙ t)))

  pub alone_fails : found ≡ false → refused n at ≡ tested ((n, b) ∷ []) at (accepted a)
  alone_fails f = sym (fails n b [] at (accepted a) (from_false (sym e ∙ f)))

-- accepting is not refusing
pub not_both : {A : Type 0} {a : A} {n at : ℕ} → accepted a ≡ refused n at → ⊥
not_both {a = a} {n = n} {at = at} e = let z : ◌≡◌ {A = ℕ} 0 1 = cc in omega arith

-- a result whose outcome is known to be accepted
pub accepts : {A : Type 0} (r : Result A Refusal) {a : A} → outcome r ≡ accepted a → r ≡ Ok a
accepts (Ok b) e = cc
accepts (Err r) e = absurd (not_both (sym e))

-- a result whose cause `map_err` told with a spot, by what was learnt of its closure
module _ {A : Type 0} (r : Result A Cause) {m : Result A Refusal} (Q : Cause → Refusal → Type 0) (h : MatchResult r (λ x. m ≡ Ok x) (λ e. IsErrAnd m (Q e))) where
  pub spot_ok : {x : A} → m ≡ Ok x → r ≡ Ok x
  spot_ok q = go r h q
    where
      go : {x : A} (r : Result A Cause) → MatchResult r (λ x. m ≡ Ok x) (λ e. IsErrAnd m (Q e)) → m ≡ Ok x → r ≡ Ok x
      go (Ok y) h q = ap Ok (let same : ◌≡◌ {A = Result A Refusal} (Ok y) (Ok _) = sym h ∙ q in cc)
      go {x} (Err e) h q = absurd (subst (λ n. IsErrAnd n (Q e)) q h)

  pub spot_err : {d : Refusal} → m ≡ Err d → (e : Cause) × (r ≡ Err e) × Q e d
  spot_err q = go r h q
    where
      go : {d : Refusal} (r : Result A Cause) → MatchResult r (λ x. m ≡ Ok x) (λ e. IsErrAnd m (Q e)) → m ≡ Err d → (e : Cause) × (r ≡ Err e) × Q e d
      go (Ok y) h q = let e : ◌≡◌ {A = Result A Refusal} (Ok y) (Err _) = sym h ∙ q in cc
      go (Err e) h q = (e, refl, subst (λ n. IsErrAnd n (Q e)) q h)

-- what follows the rest follows the tests
pub tested_then : {A B : Type 0} (ts : List (ℕ × Bool)) (at : ℕ) (o : Outcome A) (f : A → Outcome B) → tested ts at (and_then o f) ≡ and_then (tested ts at o) f
unfolding tested
tested_then [] at o f = refl
tested_then {A} {B} (t ∷ ts) at o f = go t.1 (tested_then ts at o f)
  where
    go : (b : Bool) → tested ts at (and_then o f) ≡ and_then (tested ts at o) f
        → ◌≡◌ {A = Outcome B} (elim b [ true ↦ tested ts at (and_then o f) | false ↦ refused t.0 at ])
        (and_then (elim b as (λ _. Outcome A) [ true ↦ tested ts at o | false ↦ refused t.0 at ]) f)
    go true ih = ih
    go false ih = refl

-- where all tests passed, the outcome is that of the rest; a refusal stays, whatever the rest is
pub with_rest : {A B : Type 0} (a : A) (ts : List (ℕ × Bool)) (at : ℕ) {o : Outcome A} → tested ts at (accepted a) ≡ o → (rest : Outcome B)
    → tested ts at rest ≡ and_then o (λ _. rest)
with_rest a ts at e rest = tested_then ts at (accepted a) (λ _. rest) ∙ ap (λ o. and_then o (λ _. rest)) e

-- where something was accepted, every test holds, and the rest accepted it
pub all_held : {A : Type 0} {a : A} (ts : List (ℕ × Bool)) (at : ℕ) (o : Outcome A) → tested ts at o ≡ accepted a → Each (λ t. T t.1) ts × (o ≡ accepted a)
unfolding tested
all_held [] at o e = (none, e)
all_held {A} {a} (t ∷ ts) at o e = go t.1 refl e (all_held ts at o)
  where
    go : (b : Bool) → t.1 ≡ b → ◌≡◌ {A = Outcome A} (elim b [ true ↦ tested ts at o | false ↦ refused t.0 at ]) (accepted a)
        → (tested ts at o ≡ accepted a → Each (λ t. T t.1) ts × (o ≡ accepted a)) → Each (λ t. T t.1) (t ∷ ts) × (o ≡ accepted a)
    go true q e ih = let (hs, f) = ih e in (also {x = t} (from_true q) hs, f)
    go false q e ih = absurd (not_both (sym e))

-- the first of them
pub held : {A : Type 0} (n : ℕ) (b : Bool) (ts : List (ℕ × Bool)) (at : ℕ) (a : A) {c : A} → tested ((n, b) ∷ ts) at (accepted a) ≡ accepted c → T b
held n b ts at a e = each_first (all_held ((n, b) ∷ ts) at (accepted a) e).0

-- ---- tests known one by one

module _ {A : Type 0} (at : ℕ) (rest : Outcome A) where
  -- where all hold, the outcome is that of the rest
  pub all_pass : {ts : List (ℕ × Bool)} → Each Pass ts → tested ts at rest ≡ rest
  unfolding tested
  all_pass none = refl
  all_pass (also {x = (n, b)} {xs = ts} h hs) = passes n b ts at rest h ∙ all_pass hs

  -- the first that fails decides
  pub first_fails : (before : List (ℕ × Bool)) (n : ℕ) (b : Bool) (after : List (ℕ × Bool)) → Each Pass before → (T b → ⊥)
      → tested (before ++ (n, b) ∷ after) at rest ≡ refused n at
  first_fails [] n b after none f = fails n b after at rest f
  first_fails ((k, c) ∷ before) n b after (also h hs) f =
      passes k c (before ++ (n, b) ∷ after) at rest h ∙ first_fails before n b after hs f
