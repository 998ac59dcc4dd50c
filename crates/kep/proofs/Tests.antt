-- Tests as facts: what `T` says of the Boolean operations, and of two numbers compared.
use mathlib.Core.Bool.{Bool, ◌&&◌, true, false, ◌||◌, not}
use mathlib.Core.Logic.{◌↔◌, ◌⊎◌, inl, inr, ◌≢◌}
use mathlib.Core.Path.{◌≡◌, refl, sym}
use Prim.Native.Nat.{ℕ, ◌<◌}
use native.Mathlib.Decide.{dec_lt}
use native.Mathlib.Omega.{arith}
use lib.Dec.{T, eqb, eqb_refl, eqb→eq, T_not, not_T}

-- ---- and, or, not

pub and_left : (a b : Bool) → T (a && b) → T a
and_left true b t = tt
and_left false b t = t

pub and_right : (a b : Bool) → T (a && b) → T b
and_right true b t = t
and_right false b t = absurd t

pub and_both : (a b : Bool) → T a → T b → T (a && b)
and_both true b s t = t
and_both false b s t = s

pub and_iff : (a b : Bool) → T (a && b) ↔ (T a × T b)
and_iff a b = (λ t. (and_left a b t, and_right a b t), λ p. and_both a b p.0 p.1)

pub and_iff₃ : (a b c : Bool) → T (a && b && c) ↔ (T a × T b × T c)
and_iff₃ true b c = let r = and_iff b c in (λ t. let p = r.0 t in (tt, p.0, p.1), λ p. r.1 (p.1, p.2))
and_iff₃ false b c = (λ t. absurd t, λ p. p.0)

pub or_left : (a b : Bool) → T a → T (a || b)
or_left true b t = tt
or_left false b t = absurd t

pub or_right : (a b : Bool) → T b → T (a || b)
or_right true b t = tt
or_right false b t = t

pub or_cases : (a b : Bool) → T (a || b) → T a ⊎ T b
or_cases true b t = inl t
or_cases false b t = inr t

pub implies_iff : (a b : Bool) → T (not a || b) ↔ (T a → T b)
implies_iff true b = (λ t _. t, λ f. f tt)
implies_iff false b = (λ _ f. absurd f, λ _. tt)

-- the choices by which the definitions recurse, as Boolean operations
pub if_and : (a b : Bool) → elim a as (λ _. Bool) [ true ↦ b | false ↦ false ] ≡ (a && b)
if_and true b = refl
if_and false b = refl

pub if_or : (a b : Bool) → elim a as (λ _. Bool) [ true ↦ true | false ↦ b ] ≡ (a || b)
if_or true b = refl
if_or false b = refl

pub if_not : (a b : Bool) → elim a as (λ _. Bool) [ true ↦ false | false ↦ b ] ≡ (not a && b)
if_not true b = refl
if_not false b = refl

-- ---- true and false

-- a test passes or fails
pub passes? : (b : Bool) → T b ⊎ (T b → ⊥)
passes? true = inl tt
passes? false = inr (λ t. t)

-- a test that passes is true, one that fails is false
pub is_true : (b : Bool) → T b → b ≡ true
is_true true t = refl
is_true false t = absurd t

pub is_false : (b : Bool) → (T b → ⊥) → b ≡ false
is_false true n = absurd (n tt)
is_false false n = refl

pub from_true : {b : Bool} → b ≡ true → T b
from_true e = rw e tt

pub from_false : {b : Bool} → b ≡ false → T b → ⊥
from_false e t = rw e at t

-- two tests that pass together are the same
pub same_test : (a b : Bool) → (T a → T b) → (T b → T a) → a ≡ b
same_test a true f g = is_true a (g tt)
same_test a false f g = is_false a f

-- ---- numbers

pub eq→eqb : (a b : ℕ) → a ≡ b → T (eqb a b)
eq→eqb a b e = rw e (eqb_refl b)

pub eqb_sym : (a b : ℕ) → eqb a b ≡ eqb b a
eqb_sym a b = same_test (eqb a b) (eqb b a) (λ t. eq→eqb b a (sym (eqb→eq a b t))) (λ t. eq→eqb a b (sym (eqb→eq b a t)))

pub differ_iff : (a b : ℕ) → T (not (eqb a b)) ↔ (a ≢ b)
differ_iff a b = (λ t e. T_not (eqb a b) t (eq→eqb a b e), λ ne. not_T (eqb a b) (λ t. ne (eqb→eq a b t)))

-- of two numbers the first is below, equal, or above
pub data Compared (a b : ℕ) : Type 0 where
  below : a < b → Compared a b
  equal : a ≡ b → Compared a b
  above : b < a → Compared a b

pub compared : (a b : ℕ) → Compared a b
compared a b = go (dec_lt a b) (dec_lt b a)
  where
    go : Dec (a < b) → Dec (b < a) → Compared a b
    go (yes h) d = below h
    go (no k) (yes h) = above h
    go (no k) (no l) = equal (omega arith)
