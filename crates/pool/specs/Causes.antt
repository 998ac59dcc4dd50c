-- By which cause a call refuses: the words of the claims for demand 1. A call's tests are a list of numbers with their tests.
use Rattle.std.specs.Prelude.{Bool, List, ◌∷◌, ◌⊎◌, ◌≡◌, ℕ, suc, T}
use Rattle.kep.specs.Lists.{Each}

-- the test passes
abbrev pub Pass : ℕ × Bool → Type 0
Pass t = T t.1

-- the first test that fails has number n, so all before it pass
pub data FirstFails : List (ℕ × Bool) → ℕ → Type 0 where
  here : {n : ℕ} {b : Bool} {ts : List (ℕ × Bool)} → (T b → ⊥) → FirstFails ((n, b) ∷ ts) n
  later : {n k : ℕ} {b : Bool} {ts : List (ℕ × Bool)} → T b → FirstFails ts n → FirstFails ((k, b) ∷ ts) n

-- the first of several lists of tests of which a test fails is list i, and n is the number of its first that fails
pub data FirstRecord : List (List (ℕ × Bool)) → ℕ → ℕ → Type 0 where
  in_this : {ts : List (ℕ × Bool)} {more : List (List (ℕ × Bool))} {n : ℕ} → FirstFails ts n → FirstRecord (ts ∷ more) n 0
  in_later : {ts : List (ℕ × Bool)} {more : List (List (ℕ × Bool))} {n i : ℕ} → Each Pass ts → FirstRecord more n i → FirstRecord (ts ∷ more) n (suc i)

-- tests of the whole, with spot 0, and then of record after record: the first that fails has number n, and its spot is `at`
abbrev pub FirstMet : List (ℕ × Bool) → List (List (ℕ × Bool)) → ℕ → ℕ → Type 0
FirstMet whole records n at = (FirstFails whole n × (at ≡ 0)) ⊎ (Each Pass whole × FirstRecord records n at)
