-- Sets as numbers, bit by bit: equal bits and equal numbers, the width of a set, and its lowest vertex.
use mathlib.Core.Bool.{Bool, false, true, true≢false}
use mathlib.Core.Logic.{◌↔◌}
use mathlib.Core.Path.{◌≡◌, ap, sym, ◌∙◌, refl}
use Prim.Native.Nat.{◌-◌, zero, ℕ, ◌%◌, suc, ◌/◌, ◌^◌, ◌<◌, ◌+◌, ◌≤◌, zero-le, suc-le-suc}
use native.Mathlib.Nat.{div-one, zero-div, mod-lt, zero-lt-suc, pow-suc, zero-add, add-zero, suc-add, add-suc}
use native.Mathlib.Numerals.{one-add}
use native.Mathlib.Omega.{arith}
use lib.Count.{count_trailing_zeros, under}
use lib.Dec.{eqb, T}
use lib.Pow.{shr-shr, pow_pos}
use Rattle.kep.specs.Sets.{has, first_where, lowest_below}
use Rattle.kep.specs.inner.Lowest.{lowest}
use Rattle.kep.proofs.Tests.{same_test}

-- ---- a set's vertices, the lowest first: what holds of 0 and, through the half of s, of x + 1

pub has_zero : (s : ℕ) → has s 0 ≡ eqb (s % 2) 1
unfolding has
has_zero s = ap (λ (d : ℕ). eqb (d % 2) 1) (div-one s)

pub has_suc : (s x : ℕ) → has s (suc x) ≡ has (s / 2) x
unfolding has
has_suc s x = ap (λ (d : ℕ). eqb (d % 2) 1) (ap (λ (e : ℕ). s / 2 ^ e) (sym (one-add x)) ∙ sym (shr-shr s 1 x))

-- nothing is in the empty set
pub has_none : (x : ℕ) → has 0 x ≡ false
unfolding has
has_none x = ap (λ (d : ℕ). eqb (d % 2) 1) (zero-div (2 ^ x))

pub not_in_empty : (x : ℕ) → T (has 0 x) → ⊥
not_in_empty x t = rw has_none at t

pub has_even : (s : ℕ) → s % 2 ≡ 0 → has s 0 ≡ false
has_even s e = has_zero s ∙ ap (λ (x : ℕ). eqb x 1) e

pub has_odd : (s : ℕ) → s % 2 ≡ 1 → has s 0 ≡ true
has_odd s e = has_zero s ∙ ap (λ (x : ℕ). eqb x 1) e

-- a number is even, and vertex 0 is not in it, or odd, and it is
pub data Parity (s : ℕ) : Type 0 where
  even : s % 2 ≡ 0 → has s 0 ≡ false → Parity s
  odd : s % 2 ≡ 1 → has s 0 ≡ true → Parity s

pub parity : (s : ℕ) → Parity s
parity s = go (s % 2) refl (mod-lt s (zero-lt-suc 1))
  where
    go : (d : ℕ) → s % 2 ≡ d → d < 2 → Parity s
    go zero e h = even e (has_even s e)
    go (suc zero) e h = odd e (has_odd s e)
    go (suc (suc d)) e h = absurd (omega arith)

pub is_even : (s : ℕ) → (T (has s 0) → ⊥) → s % 2 ≡ 0
is_even s n = go (parity s)
  where
    go : Parity s → s % 2 ≡ 0
    go (even e f) = e
    go (odd e f) = absurd (n (rw f tt))

-- ---- sets with the same vertices are the same number

same_low : {a b : ℕ} → Parity a → Parity b → has a 0 ≡ has b 0 → a % 2 ≡ b % 2
same_low (even p p') (even q q') h = p ∙ sym q
same_low (even p p') (odd q q') h = absurd (true≢false (sym q' ∙ sym h ∙ p'))
same_low (odd p p') (even q q') h = absurd (true≢false (sym p' ∙ h ∙ q'))
same_low (odd p p') (odd q q') h = p ∙ sym q

pub same_bits : (a b : ℕ) → ((x : ℕ) → has a x ≡ has b x) → a ≡ b
same_bits a b h = go (a + b) a b (omega arith) (omega arith) h
  where
    go : (k a b : ℕ) → a ≤ k → b ≤ k → ((x : ℕ) → has a x ≡ has b x) → a ≡ b
    go zero a b p q h = omega arith
    go (suc k) a b p q h =
        let halves : a / 2 ≡ b / 2 = go k (a / 2) (b / 2) (omega arith) (omega arith) (λ x. sym (has_suc a x) ∙ h (suc x) ∙ has_suc b x) in
        let lows : a % 2 ≡ b % 2 = same_low (parity a) (parity b) (h 0) in
        omega arith

pub same_set : (s t : ℕ) → ((v : ℕ) → T (has s v) ↔ T (has t v)) → s ≡ t
same_set s t same = same_bits s t (λ v. same_test (has s v) (has t v) (same v).0 (same v).1)

-- a set with nothing in it is 0
pub empty_set : (s : ℕ) → ((v : ℕ) → T (has s v) → ⊥) → s ≡ 0
empty_set s nothing = same_set s 0 (λ v. (λ h. absurd (nothing v h), λ h. absurd (not_in_empty v h)))

-- ---- width: a set of vertices below n is a number below 2 ^ n

pub below_pow : (n : ℕ) → n < 2 ^ n
below_pow zero = omega arith
below_pow (suc n) = omega (arith, below_pow n)

pub bits_lt : (n s : ℕ) → ((v : ℕ) → T (has s v) → v < n) → s < 2 ^ n
bits_lt zero s f = omega (arith, empty_set s (λ v t. omega (arith, f v t)))
bits_lt (suc n) s f =
    let half : s / 2 < 2 ^ n = bits_lt n (s / 2) (λ v t. omega (arith, f (suc v) (rw has_suc t))) in
    omega (arith, pow-suc 2 n)

pub has_below : (n s v : ℕ) → s < 2 ^ n → T (has s v) → v < n
has_below zero s v l t = let z : s ≡ 0 = omega arith in absurd (not_in_empty v (rw z at t))
has_below (suc n) s zero l t = omega arith
has_below (suc n) s (suc v) l t = omega (arith, has_below n (s / 2) v (omega (arith, pow-suc 2 n)) (rw has_suc at t))

-- the set of all vertices below n
pub has_full : (n v : ℕ) → v < n → T (has (2 ^ n - 1) v)
has_full zero v l = absurd (omega arith)
has_full (suc n) zero l = rw (has_odd (2 ^ suc n - 1) (omega (arith, pow-suc 2 n, pow_pos n))) tt
has_full (suc n) (suc v) l =
    let half : (2 ^ suc n - 1) / 2 ≡ 2 ^ n - 1 = omega (arith, pow-suc 2 n, pow_pos n) in
    rw (has_suc (2 ^ suc n - 1) v, half) (has_full n v (omega arith))

-- ---- the lowest vertex

-- l is in s, and none lower
pub record IsLowest (s l : ℕ) : Type 0 where
  pub is_in : T (has s l)
  pub least : (u : ℕ) → T (has s u) → l ≤ u

pub one_lowest : (s l m : ℕ) → IsLowest s l → IsLowest s m → l ≡ m
one_lowest s l m p q = omega (arith, p.least m q.is_in, q.least l p.is_in)

-- what trailing zeros count, in a set of vertices below k
pub trailing_lowest : (k s : ℕ) → 0 < s → s < 2 ^ k → IsLowest s (count_trailing_zeros k s)
unfolding count_trailing_zeros
trailing_lowest zero s p b = absurd (no p b)
  where
    no : 0 < s → s < 1 → ⊥
    no p b = omega arith
trailing_lowest (suc k) s p b = go (trailing_lowest k (s / 2)) (parity s)
  where
    go : (0 < s / 2 → s / 2 < 2 ^ k → IsLowest (s / 2) (count_trailing_zeros k (s / 2))) → Parity s → IsLowest s (under (s % 2) (count_trailing_zeros k (s / 2)))
    go ih (odd e f) = rw e (record { is_in = rw f tt; least = λ u _. zero-le })
    go ih (even e f) =
        let half : IsLowest (s / 2) (count_trailing_zeros k (s / 2)) = ih (omega arith) (omega arith) in
        rw e (record { is_in = rw has_suc half.is_in; least = least half })
      where
        least : IsLowest (s / 2) (count_trailing_zeros k (s / 2)) → (u : ℕ) → T (has s u) → suc (count_trailing_zeros k (s / 2)) ≤ u
        least half zero h = absurd (rw f at h)
        least half (suc u) h = suc-le-suc (half.least u (rw has_suc at h))

-- the lowest vertex below k, and k where there is none, is what trailing zeros count
pub lowest_trailing : (k s : ℕ) → lowest_below k s ≡ count_trailing_zeros k s
unfolding lowest_below first_where count_trailing_zeros
lowest_trailing k s = from k 0 s (λ x. ap (has s) (zero-add x)) ∙ zero-add (count_trailing_zeros k s)
  where
    choose : {r : ℕ} (b : Bool) (at later more : ℕ) → b ≡ has r 0 → Parity r → later ≡ suc at + more
        → elim b as (λ _. ℕ) [ true ↦ at | false ↦ later ] ≡ at + under (r % 2) more
    choose true at later more q (odd e f) h = rw e (omega arith)
    choose true at later more q (even e f) h = absurd (true≢false (q ∙ f))
    choose false at later more q (odd e f) h = absurd (true≢false (sym (q ∙ f)))
    choose false at later more q (even e f) h = rw e (omega arith)

    -- r is s without its lowest `at` vertices, moved down
    from : (k at r : ℕ) → ((x : ℕ) → has s (at + x) ≡ has r x) → first_where k at (has s) ≡ at + count_trailing_zeros k r
    from zero at r same = sym (add-zero at)
    from (suc k) at r same =
        let next : (x : ℕ) → has s (suc at + x) ≡ has (r / 2) x = λ x. rw (suc-add at x, ← add-suc at x) (same (suc x) ∙ has_suc r x) in
        let here : has s at ≡ has r 0 = rw add-zero at (same 0) in
        choose (has s at) at (first_where k (suc at) (has s)) (count_trailing_zeros k (r / 2)) here (parity r) (from k (suc at) (r / 2) next)

pub lowest_is : (s : ℕ) → 0 < s → IsLowest s (lowest s)
unfolding lowest
lowest_is s p = rw (lowest_trailing s s) (trailing_lowest s s p (below_pow s))

-- a set with something in it is not 0, and one that is not 0 has something in it
pub nonempty : (s v : ℕ) → T (has s v) → 0 < s
nonempty zero v h = absurd (not_in_empty v h)
nonempty (suc s) v h = omega arith

pub some_bit : (s : ℕ) → 0 < s → (v : ℕ) × T (has s v)
some_bit s p = (lowest s, (lowest_is s p).is_in)

-- the lowest vertex, known otherwise: by its property, or as the lowest below k of a set of vertices below k
pub lowest_eq : (s l : ℕ) → IsLowest s l → lowest s ≡ l
lowest_eq s l low = one_lowest s (lowest s) l (lowest_is s (nonempty s l low.is_in)) low

pub lowest_below_lem : (k s : ℕ) → 0 < s → s < 2 ^ k → lowest_below k s ≡ lowest s
lowest_below_lem k s p b = lowest_trailing k s ∙ sym (lowest_eq s (count_trailing_zeros k s) (trailing_lowest k s p b))
