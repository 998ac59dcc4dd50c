-- Numbers in base ten: one digit, or the digits of a tenth and one more.
use mathlib.Core.List.{[], ◌∷◌, ◌++◌}
use mathlib.Core.Path.{◌≡◌, sym, ap, ◌∙◌}
use Prim.Native.Nat.{ℕ, zero, suc, ◌+◌, ◌/◌, ◌%◌, ◌≤◌, ◌<◌}
use native.Mathlib.Omega.{arith}
use native.Mathlib.Decide.{dec_le}
use borrow.Author.Tests.{lt-ltb, le-ltb}
use Rattle.report.specs.Text.{digits, decimal}

digits_one : (k n : ℕ) → n < 10 → digits (suc k) n ≡ (48 + n) ∷ []
unfolding digits
digits_one k n h = rw (lt-ltb n 10 h, digits)

digits_more : (k n : ℕ) → 10 ≤ n → digits (suc k) n ≡ digits k (n / 10) ++ ((48 + n % 10) ∷ [])
unfolding digits
digits_more k n h = rw (le-ltb n 10 h, digits)

-- how far one counts makes no difference
digits_any : (k m n : ℕ) → n < k → n < m → digits k n ≡ digits m n
digits_any zero m n h l = absurd (omega arith)
digits_any (suc k) zero n h l = absurd (omega arith)
digits_any (suc k) (suc m) n h l =
    elim (dec_le 10 n) [
      | yes big ↦ digits_more k n big ∙ ap (λ d. d ++ ((48 + n % 10) ∷ [])) (digits_any k m (n / 10) (omega arith) (omega arith)) ∙ sym (digits_more m n big)
      | no small ↦ digits_one k n (omega arith) ∙ sym (digits_one m n (omega arith))
    ]

pub decimal_one : (n : ℕ) → n < 10 → decimal n ≡ (48 + n) ∷ []
unfolding decimal
decimal_one n h = digits_one n n h

pub decimal_more : (n : ℕ) → 10 ≤ n → decimal n ≡ decimal (n / 10) ++ ((48 + n % 10) ∷ [])
unfolding decimal
decimal_more n h = digits_more n n h ∙ ap (λ l. l ++ ((48 + n % 10) ∷ [])) (digits_any n (suc (n / 10)) (n / 10) (omega arith) (omega arith))
