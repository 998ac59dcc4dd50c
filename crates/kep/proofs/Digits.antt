-- Numbers k * a + b with b below k: they tell a and b, and are compared by a first and then by b.
use mathlib.Core.Path.{◌≡◌, ◌∙◌, ap}
use Prim.Native.Nat.{ℕ, ◌+◌, ◌*◌, ◌/◌, ◌%◌, ◌≤◌, ◌<◌}
use native.Mathlib.Decide.{dec_le}
use native.Mathlib.Nat.{mul-le-mul_left, mul-suc, mul-add-div, div-eq_of_lt, mul-add-mod_self_left, mod-eq_of_lt}
use native.Mathlib.Omega.{arith}

pub digits : (k a : ℕ) {b c : ℕ} → b < k → k * a + b ≡ c → (c / k ≡ a) × (c % k ≡ b)
digits k a {b} {c} l e =
    let positive : 0 < k = omega arith in
    rw (← e) (omega (arith, mul-add-div positive a b, div-eq_of_lt l), mul-add-mod_self_left k a b ∙ mod-eq_of_lt l)

-- what has the greater a is greater
higher : (k : ℕ) {a c d : ℕ} (b : ℕ) → c < a → d < k → k * c + d < k * a + b
higher k {a} {c} b h l = omega (arith, mul-le-mul_left k h, mul-suc k c)

-- so what is no greater has no greater a
pub high_le : (k a c : ℕ) {b : ℕ} (d : ℕ) → b < k → k * c + d ≤ k * a + b → c ≤ a
high_le k a c d l h = go (dec_le c a)
  where
    go : Dec (c ≤ a) → c ≤ a
    go (yes y) = y
    go (no n) = let above : a < c = omega arith in absurd (omega (arith, higher k d above l))

-- and, where a is the same, no greater b
pub low_le : (k : ℕ) {a c : ℕ} (b d : ℕ) → c ≡ a → k * c + d ≤ k * a + b → d ≤ b
low_le k b d e h = omega (arith, ap (λ (x : ℕ). k * x) e)
