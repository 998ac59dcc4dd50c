-- The greatest value over a list.
use mathlib.Core.List.Memᴰ
use mathlib.Core.List.{List, ◌++◌, Memᴰ, [], ◌∷◌}
use mathlib.Core.Logic.{◌⊎◌, inl, inr}
use mathlib.Core.Path.{◌≡◌, refl, sym}
use Prim.Native.Nat.{ℕ, ◌≤◌, max}
use native.Mathlib.Decide.{dec_le}
use native.Mathlib.Nat.{zero-max, le-max_left, max-le, max-eq_left}
use native.Mathlib.Omega.{arith}
use Rattle.kep.specs.computed.Table.{greatest_of}

-- it is at least each of the values
pub greatest_bound : (f : ℕ → ℕ) (xs : List ℕ) (x : ℕ) → Memᴰ x xs → f x ≤ greatest_of f xs
unfolding greatest_of
greatest_bound f [] x m = absurd (Memᴰ.not-nil m)
greatest_bound f (y ∷ ys) x m = go (Memᴰ.cases_cons m) (greatest_bound f ys x)
  where
    go : (x ≡ y) ⊎ Memᴰ x ys → (Memᴰ x ys → f x ≤ greatest_of f ys) → f x ≤ max (f y) (greatest_of f ys)
    go (inl e) ih = rw e (le-max_left (f y) (greatest_of f ys))
    go (inr n) ih = omega (arith, ih n)

-- and no more than a bound of them all
pub greatest_least : (f : ℕ → ℕ) (xs : List ℕ) (b : ℕ) → ((x : ℕ) → Memᴰ x xs → f x ≤ b) → greatest_of f xs ≤ b
unfolding greatest_of
greatest_least f [] b h = omega arith
greatest_least f (y ∷ ys) b h = max-le (h y (Memᴰ.head refl)) (greatest_least f ys b (λ x m. h x (Memᴰ.tail m)))

-- it is one of the values, or 0 where there is none
pub greatest_attained : (f : ℕ → ℕ) (xs : List ℕ) → (greatest_of f xs ≡ 0) ⊎ ((x : ℕ) × Memᴰ x xs × (greatest_of f xs ≡ f x))
unfolding greatest_of
greatest_attained f [] = inl refl
greatest_attained f (y ∷ ys) = inr (go (dec_le (greatest_of f ys) (f y)) (greatest_attained f ys))
  where
    Found : Type 0
    Found = (x : ℕ) × Memᴰ x (y ∷ ys) × (max (f y) (greatest_of f ys) ≡ f x)

    go : Dec (greatest_of f ys ≤ f y) → (greatest_of f ys ≡ 0) ⊎ ((x : ℕ) × Memᴰ x ys × (greatest_of f ys ≡ f x)) → Found
    go (yes h) r = (y, Memᴰ.head refl, max-eq_left h)
    go (no h) (inl e) = absurd (h (omega arith))
    go (no h) (inr (x, m, e)) = (x, Memᴰ.tail m, omega arith)

-- of lists put together
pub greatest_append : (f : ℕ → ℕ) (xs ys : List ℕ) → greatest_of f (xs ++ ys) ≡ max (greatest_of f xs) (greatest_of f ys)
unfolding greatest_of
greatest_append f [] ys = sym (zero-max (greatest_of f ys))
greatest_append f (x ∷ xs) ys = omega (arith, greatest_append f xs ys)
