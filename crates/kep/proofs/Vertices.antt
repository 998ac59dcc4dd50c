-- Sets with one vertex more and one vertex less, and the set of the vertices at which a test holds.
use mathlib.Core.Bool.{Bool, true, false}
use mathlib.Core.Logic.{◌↔◌, ◌⊎◌, ⊎_elim, inl, inr, ◌≢◌}
use mathlib.Core.Path.{◌≡◌, refl, ◌∙◌, sym, ap}
use Prim.Native.Nat.{◌-◌, ℕ, ◌^◌, zero, suc, ◌/◌, ◌+◌, ◌%◌, ◌≤◌, ◌<◌}
use native.Mathlib.Nat.{pow-suc, add_comm, not-suc-le-zero, eq-or-lt_of_le, le_of_suc-le-suc, add-zero}
use native.Mathlib.Omega.{arith}
use lib.Bits.{bit_and, bit_or}
use lib.Count.{ones, ones_step}
use lib.Dec.{eqb, eqb-suc-zero, eqb-zero-suc, eqb-suc-suc, T, eqb→eq}
use Rattle.kep.specs.Sets.{has, Disjoint, Part, set_where, counted}
use Rattle.kep.proofs.Tests.{eq→eqb, or_cases, or_left, or_right, is_true, is_false}
use Rattle.kep.proofs.SetLaws.{has_odd, has_suc, has_none, has_even, is_even, not_in_empty, bits_lt}
use Rattle.kep.proofs.Parts.{has_sum, part_le, in_rest, meets, or_sum, disjoint_sym, or_part}

-- ---- one vertex alone

-- 2 ^ x is the set of x alone
pub has_power : (x y : ℕ) → has (2 ^ x) y ≡ eqb y x
has_power zero zero = has_odd 1 refl
has_power zero (suc y) = has_suc 1 y ∙ has_none y ∙ sym (eqb-suc-zero y)
has_power (suc x) zero = has_even (2 ^ suc x) (omega (arith, pow-suc 2 x)) ∙ sym (eqb-zero-suc x)
has_power (suc x) (suc y) =
    let half : 2 ^ suc x / 2 ≡ 2 ^ x = omega (arith, pow-suc 2 x) in
    has_suc (2 ^ suc x) y ∙ ap (λ (s : ℕ). has s y) half ∙ has_power x y ∙ sym (eqb-suc-suc y x)

pub in_power : (x y : ℕ) → T (has (2 ^ x) y) ↔ (y ≡ x)
in_power x y = (λ t. eqb→eq y x (rw has_power at t), λ e. rw (has_power x y) (eq→eqb y x e))

-- it is disjoint from a set that has not x, and a part of one that has
pub power_disjoint : (x s : ℕ) → (T (has s x) → ⊥) → Disjoint (2 ^ x) s
power_disjoint x s n = record { never = λ y p q. n (rw ((in_power x y).0 p) at q) }

pub power_part : (s x : ℕ) → T (has s x) → Part (2 ^ x) s
power_part s x h = record { within = λ y p. rw ((in_power x y).0 p) h }

-- ---- one vertex more

-- u is in s with v where it is v or in s
pub in_with : (s v u : ℕ) → (T (has s v) → ⊥) → T (has (2 ^ v + s) u) ↔ ((u ≡ v) ⊎ T (has s u))
in_with s v u n = (
  λ h. ⊎_elim (λ p. inl ((in_power v u).0 p)) (λ p. inr p) (or_cases (has (2 ^ v) u) (has s u) (rw (has_sum (power_disjoint v s n) u) at h)),
  λ c. rw (has_sum (power_disjoint v s n) u) (⊎_elim (λ e. or_left (has (2 ^ v) u) (has s u) ((in_power v u).1 e)) (or_right (has (2 ^ v) u) (has s u)) c),
)

pub with_part : {S U : ℕ} (v : ℕ) → Part S U → T (has U v) → (T (has S v) → ⊥) → Part (2 ^ v + S) U
with_part {S} {U} v h k n = record { within = λ x t. ⊎_elim (λ e. rw e k) (h.within x) ((in_with S v x n).0 t) }

-- one vertex more is one more to count
pub ones_with : (s v : ℕ) → (T (has s v) → ⊥) → ones (2 ^ v + s) ≡ suc (ones s)
ones_with s zero n =
    let half : (1 + s) / 2 ≡ s / 2 = omega (arith, is_even s n) in
    let parity : (1 + s) % 2 ≡ 1 = omega (arith, is_even s n) in
    rw (ones_step (1 + s), half, parity, ones_step s, is_even s n) (omega arith)
ones_with s (suc v) n =
    let half : (2 ^ suc v + s) / 2 ≡ 2 ^ v + s / 2 = omega arith in
    let parity : (2 ^ suc v + s) % 2 ≡ s % 2 = omega arith in
    rw (ones_step (2 ^ suc v + s), half, parity, ones_step s, ones_with (s / 2) v (rw has_suc at n)) (omega arith)

-- ---- one vertex less

pub bit_le : (s v : ℕ) → T (has s v) → 2 ^ v ≤ s
bit_le s v h = part_le (power_part s v h)

-- s without v, and v put back, is s
pub with_without : (s v : ℕ) → T (has s v) → 2 ^ v + (s - 2 ^ v) ≡ s
with_without s v h = omega (arith, bit_le s v h)

-- u is in s without v where it is in s and not v
pub in_without : (s v u : ℕ) → T (has s v) → T (has (s - 2 ^ v) u) ↔ (T (has s u) × (u ≢ v))
in_without s v u h =
    let r = in_rest (power_part s v h) u in
    (λ t. ((r.0 t).0, λ e. (r.0 t).1 ((in_power v u).1 e)), λ p. r.1 (p.0, λ q. p.1 ((in_power v u).0 q)))

-- ---- as code tests, adds and takes away a vertex

pub bit_test : (s v : ℕ) → (bit_and s (2 ^ v) ≢ 0) ↔ T (has s v)
bit_test s v =
    let (to, from) = meets s (2 ^ v) in
    (λ ne. let (u, h, p) = to ne in rw ((in_power v u).0 p) at h, λ h. from (v, h, (in_power v v).1 refl))

pub or_with : (s v : ℕ) → (T (has s v) → ⊥) → bit_or s (2 ^ v) ≡ 2 ^ v + s
or_with s v n = or_sum (disjoint_sym (power_disjoint v s n)) ∙ add_comm s (2 ^ v)

pub or_without : (s v : ℕ) → T (has s v) → bit_or s (2 ^ v) - 2 ^ v ≡ s - 2 ^ v
or_without s v h = ap (λ (k : ℕ). k - 2 ^ v) (or_part (power_part s v h))

-- ---- the set of the vertices below k at which a test holds

-- a vertex is in it where it is below k and passes
pub in_where : (k : ℕ) (p : ℕ → Bool) (u : ℕ) → T (has (set_where k p) u) ↔ ((u < k) × T (p u))
unfolding set_where
in_where zero p u = (λ h. absurd (not_in_empty u h), λ h. absurd (not-suc-le-zero h.0))
in_where (suc k) p u = go (p k) refl (λ w. in_where k p w)
  where
    go : (b : Bool) → p k ≡ b → ((w : ℕ) → T (has (set_where k p) w) ↔ ((w < k) × T (p w)))
        → T (has (set_where k p + counted b (2 ^ k)) u) ↔ ((u < suc k) × T (p u))
    go true e under =
        rw (add_comm (set_where k p) (2 ^ k))
        (λ h. to ((in_with (set_where k p) k u new).0 h), λ h. (in_with (set_where k p) k u new).1 (from h.1 (eq-or-lt_of_le (le_of_suc-le-suc h.0))))
      where
        new : T (has (set_where k p) k) → ⊥
        new h = omega (arith, ((under k).0 h).0)

        to : (u ≡ k) ⊎ T (has (set_where k p) u) → (u < suc k) × T (p u)
        to (inl q) = (omega arith, rw (q, e) tt)
        to (inr h) = (omega (arith, ((under u).0 h).0), ((under u).0 h).1)

        from : T (p u) → (u ≡ k) ⊎ (u < k) → (u ≡ k) ⊎ T (has (set_where k p) u)
        from t (inl q) = inl q
        from t (inr l) = inr ((under u).1 (l, t))
    go false e under =
        rw (add-zero (set_where k p))
        (λ h. (omega (arith, ((under u).0 h).0), ((under u).0 h).1), λ h. (under u).1 (from h.1 (eq-or-lt_of_le (le_of_suc-le-suc h.0))))
      where
        from : T (p u) → (u ≡ k) ⊎ (u < k) → (u < k) × T (p u)
        from t (inl q) = absurd (rw (q, e) at t)
        from t (inr l) = (l, t)

-- the loop that makes it: a vertex that passes is added, another passed over
pub where_pass : (k : ℕ) (p : ℕ → Bool) → T (p k) → set_where (suc k) p ≡ bit_or (set_where k p) (2 ^ k)
unfolding set_where
where_pass k p t =
    let new : T (has (set_where k p) k) → ⊥ = λ h. let l = ((in_where k p k).0 h).0 in omega arith in
    rw (is_true (p k) t, or_with (set_where k p) k new) (add_comm (set_where k p) (2 ^ k))

pub where_fail : (k : ℕ) (p : ℕ → Bool) → (T (p k) → ⊥) → set_where (suc k) p ≡ set_where k p
unfolding set_where
where_fail k p n = rw (is_false (p k) n) (omega arith)

-- it is a set of vertices below k
pub where_lt : (k : ℕ) (p : ℕ → Bool) → set_where k p < 2 ^ k
where_lt k p = bits_lt k (set_where k p) (λ v t. ((in_where k p v).0 t).0)
