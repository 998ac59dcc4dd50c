-- The nonempty parts of a set from the set itself down by number: from t to `bit_and (t - 1) s`.
use mathlib.Core.Bool.{Bool}
use mathlib.Core.List.Memᴰ
use mathlib.Core.List.{List, [], ◌∷◌, Memᴰ}
use mathlib.Core.Logic.{◌⊎◌, inl, inr, ⊎_elim, ◌↔◌}
use mathlib.Core.Path.{◌≡◌, refl, ap, ◌∙◌}
use Prim.Native.Nat.{◌-◌, ℕ, ◌<◌, ◌%◌, ◌/◌, ◌*◌, ◌+◌, min, ◌≤◌, zero, suc}
use native.Mathlib.Nat.{le_refl, eq-or-lt_of_le}
use native.Mathlib.Omega.{arith}
use lib.Bits.{bit_and, and_le_l, and_step}
use lib.Dec.{T, eqb, eqb→eq}
use lib.ListN.{length}
use Rattle.kep.specs.Lists.{keep, nil, cons, Pairwise}
use Rattle.kep.specs.Sets.{Part}
use Rattle.kep.specs.Trying.{down_from, falling_parts}
use Rattle.kep.proofs.Tests.{is_true, is_false, eq→eqb}
use Rattle.kep.proofs.Each.{each_of, keep_yes, keep_no, keep_part, keep_in, keep_out, keep_length}
use Rattle.kep.proofs.Ordered.{pairwise_part}
use Rattle.kep.proofs.SetLaws.{odd, even, parity, Parity}
use Rattle.kep.proofs.Parts.{and_part, part_and, part_of_and, part_half, part_low, part_le}

-- ---- the step: for a nonempty part t of s, `bit_and (t - 1) s` is the greatest part of s below t

pub step_part : (t s : ℕ) → Part (bit_and (t - 1) s) s
step_part t s = and_part (t - 1) s

pub step_below : (t s : ℕ) → 0 < t → bit_and (t - 1) s < t
step_below t s h = omega (arith, and_le_l (t - 1) s)

-- t is odd: t - 1 is t without vertex 0, a part of s itself
step_odd : {t s : ℕ} → Part t s → t % 2 ≡ 1 → bit_and (t - 1) s ≡ t - 1
step_odd {t} {s} h o =
    let half : (t - 1) / 2 ≡ t / 2 = omega arith in
    let e : bit_and (t - 1) s ≡ bit_and (t / 2) (s / 2) * 2 + min ((t - 1) % 2) (s % 2) = rw (← half) (and_step (t - 1) s) in
    omega (arith, part_and (part_half h))

-- t is even: the step of its half, with vertex 0 as s has it
step_even : (t s : ℕ) → 0 < t → t % 2 ≡ 0 → bit_and (t - 1) s ≡ bit_and (t / 2 - 1) (s / 2) * 2 + s % 2
step_even t s p o =
    let half : (t - 1) / 2 ≡ t / 2 - 1 = omega arith in
    let e : bit_and (t - 1) s ≡ bit_and (t / 2 - 1) (s / 2) * 2 + min ((t - 1) % 2) (s % 2) = rw (← half) (and_step (t - 1) s) in
    omega arith

pub step_greatest : {t s u : ℕ} → Part t s → Part u s → u < t → u ≤ bit_and (t - 1) s
step_greatest {t} {s} {u} h k l = go t t s u (le_refl t) h k l
  where
    go : (n t s u : ℕ) → t ≤ n → Part t s → Part u s → u < t → u ≤ bit_and (t - 1) s
    go zero t s u b h k l = absurd (omega arith)
    go (suc n) t s u b h k l = by_low (parity t) (λ m. go n (t / 2) (s / 2) (u / 2) (omega arith) (part_half h) (part_half k) m)
      where
        by_low : Parity t → (u / 2 < t / 2 → u / 2 ≤ bit_and (t / 2 - 1) (s / 2)) → u ≤ bit_and (t - 1) s
        by_low (odd o o') below = omega (arith, step_odd h o)
        by_low (even o o') below = omega (arith, step_even t s (omega arith) o, below (omega arith), part_low k)

-- ---- the list of the nonempty parts of s, from a part t of s down

abbrev part : ℕ → ℕ → Bool
part s u = eqb (bit_and u s) u

abbrev pub parts_from : ℕ → ℕ → List ℕ
parts_from t s = keep (λ u. eqb (bit_and u s) u) (down_from t)

-- numbers that fail the test are passed over
keep_over : (p : ℕ → Bool) (j k : ℕ) → j ≤ k → ((x : ℕ) → j < x → x ≤ k → T (p x) → ⊥) → keep p (down_from k) ≡ keep p (down_from j)
unfolding down_from
keep_over p j zero l n = let e : j ≡ 0 = omega arith in rw e
keep_over p j (suc k) l n = go (eq-or-lt_of_le l) (keep_over p j k)
  where
    go : (j ≡ suc k) ⊎ (j < suc k) → (j ≤ k → ((x : ℕ) → j < x → x ≤ k → T (p x) → ⊥) → keep p (down_from k) ≡ keep p (down_from j)) → keep p (down_from (suc k)) ≡ keep p (down_from j)
    go (inl e) ih = rw e
    go (inr h) ih = keep_no p (suc k) (down_from k) (is_false (p (suc k)) (n (suc k) h (omega arith))) ∙ ih (omega arith) (λ x b c. n x b (omega arith))

pub from_none : (s : ℕ) → parts_from 0 s ≡ []
unfolding keep down_from
from_none s = refl

pub from_step : (t : ℕ) {s : ℕ} → Part t s → 0 < t → parts_from t s ≡ t ∷ parts_from (bit_and (t - 1) s) s
unfolding down_from
from_step zero h p = absurd (omega arith)
from_step (suc k) {s} h p =
    let next = bit_and (suc k - 1) s in
    keep_yes (part s) (suc k) (down_from k) (is_true (part s (suc k)) (eq→eqb (bit_and (suc k) s) (suc k) (part_and h)))
    ∙ ap (λ (ts : List ℕ). suc k ∷ ts)
    (keep_over (part s) next k (omega (arith, step_below (suc k) s p)) (λ x b c q. omega (arith, step_greatest h (part_of_and (eqb→eq (bit_and x s) x q)) (omega arith))))

-- ---- which they are, and how many

down_out : (k t : ℕ) → Memᴰ t (down_from k) → (0 < t) × (t ≤ k)
unfolding down_from
down_out zero t m = absurd (Memᴰ.not-nil m)
down_out (suc k) t m = ⊎_elim (λ e. (omega arith, omega arith)) (λ n. let (some, most) = down_out k t n in (some, omega arith)) (Memᴰ.cases_cons m)

down_in : (k t : ℕ) → 0 < t → t ≤ k → Memᴰ t (down_from k)
unfolding down_from
down_in zero t p l = absurd (omega arith)
down_in (suc k) t p l = ⊎_elim (λ e. Memᴰ.head e) (λ h. Memᴰ.tail (down_in k t p (omega arith))) (eq-or-lt_of_le l)

down_length : (k : ℕ) → length (down_from k) ≡ k
unfolding down_from
down_length zero = refl
down_length (suc k) = ap suc (down_length k)

pub in_falling : (s t : ℕ) → Memᴰ t (falling_parts s) ↔ ((0 < t) × Part t s)
unfolding falling_parts
in_falling s t = (
  (λ m. let (among, passes) = keep_out (part s) (down_from s) m in ((down_out s t among).0, part_of_and (eqb→eq (bit_and t s) t passes))),
  (λ r. keep_in (part s) (down_in s t r.0 (part_le r.1)) (eq→eqb (bit_and t s) t (part_and r.1))),
)

down_falls : (k : ℕ) → Pairwise (λ x y. y < x) (down_from k)
unfolding down_from
down_falls zero = nil
down_falls (suc k) = cons (each_of (down_from k) (λ t m. omega (arith, (down_out k t m).1))) (down_falls k)

-- each number of the list is above all that come after it: so no part comes twice
pub parts_falling : (s : ℕ) → Pairwise (λ x y. y < x) (falling_parts s)
unfolding falling_parts
parts_falling s = pairwise_part (keep_part (part s) (down_from s)) (down_falls s)

pub falling_length : (s : ℕ) → length (falling_parts s) ≤ s
unfolding falling_parts
falling_length s = omega (arith, keep_length (part s) (down_from s), down_length s)
