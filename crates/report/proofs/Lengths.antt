-- How long the lines are at most.
use mathlib.Core.Bool.{Bool, true, false}
use mathlib.Core.List.{List, [], ◌∷◌}
use Prim.Native.Nat.{ℕ, zero, suc, ◌+◌, ◌*◌, ◌/◌, ◌%◌, ◌≤◌, ◌<◌}
use native.Mathlib.Omega.{arith}
use native.Mathlib.Decide.{dec_le}
use mathlib.Core.Path.{ap}
use lib.Dec.{eqb}
use lib.ListN.{length, take, get_or, length-append}
use Rattle.plans.specs.Check.{listed}
use Rattle.report.specs.Text.{decimal, kind_word, place_text, places_text, served_line, refused_line}
use Rattle.report.proofs.Decimal.{decimal_one, decimal_more}

decimal_two : (n : ℕ) → n < 100 → length (decimal n) ≤ 2
decimal_two n h =
    elim (dec_le 10 n) [
      | yes big ↦ omega (arith, ap length (decimal_more n big), ap length (decimal_one (n / 10) (omega arith)), length-append (decimal (n / 10)) ((48 + n % 10) ∷ []))
      | no small ↦ omega (arith, ap length (decimal_one n (omega arith)))
    ]

pub decimal_three : (n : ℕ) → n < 1000 → length (decimal n) ≤ 3
decimal_three n h =
    elim (dec_le 10 n) [
      | yes big ↦ omega (arith, ap length (decimal_more n big), decimal_two (n / 10) (omega arith), length-append (decimal (n / 10)) ((48 + n % 10) ∷ []))
      | no small ↦ omega (arith, ap length (decimal_one n (omega arith)))
    ]

pub served_short : (s m : ℕ) → s < 1000 → m < 1000 → length (served_line s m) ≤ 18
served_short s m h k = simp length-append (omega (arith, decimal_three s h, decimal_three m k))

pub refused_short : (number at : ℕ) → number < 1000 → at < 1000 → length (refused_line number at) ≤ 16
refused_short number at h k = simp length-append (omega (arith, decimal_three number h, decimal_three at k))

pub kind_short : (kind : ℕ) → length (kind_word kind) ≤ 5
unfolding kind_word
kind_short kind = go (eqb kind 67)
  where
    go : (t : Bool) → length (elim t as (λ _. List ℕ) [ true ↦ 99 ∷ 104 ∷ 97 ∷ 105 ∷ 110 ∷ [] | false ↦ 114 ∷ 105 ∷ 110 ∷ 103 ∷ [] ]) ≤ 5
    go true = omega arith
    go false = omega arith

-- of the first n bytes
pub places_short : (n : ℕ) (bytes : List ℕ) → ((i : ℕ) → get_or bytes i 0 < 1000) → length (places_text (listed (take n bytes))) ≤ 4 * n
unfolding listed places_text place_text
places_short zero bytes h = omega arith
places_short (suc n) [] h = omega arith
places_short (suc n) (b ∷ bs) h = go (eqb b 255) (places_short n bs (λ i. h (suc i)))
  where
    go : (t : Bool) → length (places_text (listed (take n bs))) ≤ 4 * n
        → length (places_text (elim t as (λ _. List ℕ) [ true ↦ [] | false ↦ b ∷ listed (take n bs) ])) ≤ 4 * suc n
    go true k = omega arith
    go false k = omega (arith, k, decimal_three b (h 0), length-append (decimal b) (places_text (listed (take n bs))))
