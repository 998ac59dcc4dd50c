-- Parts of a set, disjoint sets, what is left of a set without a part, and the union of disjoint sets.
use mathlib.Core.Bool.{◌&&◌, not, ◌||◌, Bool, true, false}
use mathlib.Core.Logic.{◌↔◌, ⊎_elim, ◌≢◌}
use mathlib.Core.Path.{subst, sym, refl, ◌≡◌, ◌∙◌, ap}
use Prim.Native.Nat.{◌-◌, ℕ, ◌/◌, suc, ◌%◌, ◌≤◌, ◌+◌, zero}
use native.Mathlib.Nat.{le_refl, mod-lt, zero-lt-suc}
use native.Mathlib.Omega.{arith}
use lib.Bits.{bit_and, and_step, bit_or, or_disjoint, or_step}
use lib.Dec.{T, T_not, not_T}
use Rattle.kep.specs.Sets.{Part, has, Disjoint}
use Rattle.kep.proofs.Tests.{and_iff, and_right, and_both, or_cases, or_left, and_left}
use Rattle.kep.proofs.SetLaws.{has_suc, parity, Parity, even, odd, has_even, has_odd, same_bits, has_none, same_set, some_bit}

-- ---- parts and disjoint sets go down to the halves

pub part_half : {t s : ℕ} → Part t s → Part (t / 2) (s / 2)
part_half {t} {s} h = record { within = λ x p. subst T (has_suc s x) (h.within (suc x) (subst T (sym (has_suc t x)) p)) }

pub disjoint_half : {a b : ℕ} → Disjoint a b → Disjoint (a / 2) (b / 2)
disjoint_half {a} {b} h = record { never = λ x p q. h.never (suc x) (subst T (sym (has_suc a x)) p) (subst T (sym (has_suc b x)) q) }

-- the lowest vertex of a part
pub part_low : {t s : ℕ} → Part t s → t % 2 ≤ s % 2
part_low {t} {s} h = go (parity t) (parity s)
  where
    go : Parity t → Parity s → t % 2 ≤ s % 2
    go (even p p') l = omega arith
    go (odd p p') (even q q') = absurd (subst T q' (h.within 0 (subst T (sym p') tt)))
    go (odd p p') (odd q q') = omega arith

-- of disjoint sets, one at most has vertex 0
pub disjoint_low : {a b : ℕ} → Disjoint a b → a % 2 + b % 2 ≤ 1
disjoint_low {a} {b} h = go (parity a) (parity b)
  where
    go : Parity a → Parity b → a % 2 + b % 2 ≤ 1
    go (even p p') l = omega arith
    go (odd p p') (even q q') = omega arith
    go (odd p p') (odd q q') = absurd (h.never 0 (subst T (sym p') tt) (subst T (sym q') tt))

-- a part is no greater
pub part_le : {t s : ℕ} → Part t s → t ≤ s
part_le {t} {s} h = go t t s (le_refl t) h
  where
    go : (k t s : ℕ) → t ≤ k → Part t s → t ≤ s
    go zero t s l h = omega arith
    go (suc k) t s l h =
        let halves : t / 2 ≤ s / 2 = go k (t / 2) (s / 2) (omega arith) (part_half h) in
        let lows : t % 2 ≤ s % 2 = part_low h in
        omega arith

-- ---- the vertices of `bit_and`, of what is left, and of a union

pub has_and : (a b x : ℕ) → has (bit_and a b) x ≡ (has a x && has b x)
has_and a b zero = go (parity a) (parity b)
  where
    go : Parity a → Parity b → has (bit_and a b) 0 ≡ (has a 0 && has b 0)
    go (even p p') l = rw p' (has_even (bit_and a b) (omega (arith, and_step a b)))
    go (odd p p') (even q q') = rw (p', q') (has_even (bit_and a b) (omega (arith, and_step a b)))
    go (odd p p') (odd q q') = rw (p', q') (has_odd (bit_and a b) (omega (arith, and_step a b)))
has_and a b (suc x) =
    let half : bit_and a b / 2 ≡ bit_and (a / 2) (b / 2) = omega (arith, and_step a b) in
    simp (has_suc, half) (has_and (a / 2) (b / 2) x)

-- s - t has the vertices of s that its part t has not
pub has_rest : {t s : ℕ} → Part t s → (x : ℕ) → has (s - t) x ≡ (has s x && not (has t x))
has_rest {t} {s} h zero = go (parity t) (parity s)
  where
    le : t ≤ s
    le = part_le h

    go : Parity t → Parity s → has (s - t) 0 ≡ (has s 0 && not (has t 0))
    go (even p p') (even q q') = rw (p', q') (has_even (s - t) (omega (arith, le)))
    go (even p p') (odd q q') = rw (p', q') (has_odd (s - t) (omega (arith, le)))
    go (odd p p') (even q q') = absurd (omega (arith, part_low h))
    go (odd p p') (odd q q') = rw (p', q') (has_even (s - t) (omega (arith, le)))
has_rest {t} {s} h (suc x) =
    let halves : t / 2 ≤ s / 2 = part_le (part_half h) in
    let lows : t % 2 ≤ s % 2 = part_low h in
    let half : (s - t) / 2 ≡ s / 2 - t / 2 = omega arith in
    simp (has_suc, half) (has_rest {t = t / 2} (part_half h) x)

pub in_rest : {t s : ℕ} → Part t s → (x : ℕ) → T (has (s - t) x) ↔ (T (has s x) × (T (has t x) → ⊥))
in_rest {t} {s} h x =
    let r = and_iff (has s x) (not (has t x)) in
    rw (has_rest h x) (λ p. ((r.0 p).0, T_not (has t x) (r.0 p).1), λ p. r.1 (p.0, not_T (has t x) p.1))

-- a + b is the union of disjoint sets a and b
pub has_sum : {a b : ℕ} → Disjoint a b → (x : ℕ) → has (a + b) x ≡ (has a x || has b x)
has_sum {a} {b} h zero = go (parity a) (parity b)
  where
    go : Parity a → Parity b → has (a + b) 0 ≡ (has a 0 || has b 0)
    go (even p p') (even q q') = rw (p', q') (has_even (a + b) (omega arith))
    go (even p p') (odd q q') = rw (p', q') (has_odd (a + b) (omega arith))
    go (odd p p') (even q q') = rw p' (has_odd (a + b) (omega arith))
    go (odd p p') (odd q q') = absurd (omega (arith, disjoint_low h))
has_sum {a} {b} h (suc x) =
    let lows : a % 2 + b % 2 ≤ 1 = disjoint_low h in
    let half : (a + b) / 2 ≡ a / 2 + b / 2 = omega arith in
    simp (has_suc, half) (has_sum {a = a / 2} (disjoint_half h) x)

-- ---- the laws of parts

and_absorbs : (a b : Bool) → (T a → T b) → (a && b) ≡ a
and_absorbs true true f = refl
and_absorbs true false f = absurd (f tt)
and_absorbs false b f = refl

pub part_refl : (s : ℕ) → Part s s
part_refl s = record { within = λ x p. p }

pub part_trans : {u t s : ℕ} → Part u t → Part t s → Part u s
part_trans h k = record { within = λ x p. k.within x (h.within x p) }

pub disjoint_sym : {a b : ℕ} → Disjoint a b → Disjoint b a
disjoint_sym h = record { never = λ x p q. h.never x q p }

-- parts of disjoint sets are disjoint
pub disjoint_parts : {a b c d : ℕ} → Disjoint a b → Part c a → Part d b → Disjoint c d
disjoint_parts h p q = record { never = λ x m n. h.never x (p.within x m) (q.within x n) }

-- what is left of s without a part of it is a part of s, disjoint from that part
pub rest_part : {t s : ℕ} → Part t s → Part (s - t) s
rest_part h = record { within = λ x p. ((in_rest h x).0 p).0 }

pub rest_disjoint : {t s : ℕ} → Part t s → Disjoint t (s - t)
rest_disjoint h = record { never = λ x p q. ((in_rest h x).0 q).1 p }

-- the parts of what is left are the parts of s that are disjoint from t
pub parts_of_rest : {t s : ℕ} → Part t s → (u : ℕ) → Part u (s - t) ↔ (Part u s × Disjoint t u)
parts_of_rest {t} {s} h u = ((λ k. (part_trans k (rest_part h), disjoint_parts (rest_disjoint h) (part_refl t) k)), back)
  where
    back : Part u s × Disjoint t u → Part u (s - t)
    back (k, a) = record { within = λ x p. (in_rest h x).1 (k.within x p, λ q. a.never x q p) }

-- ---- the tests of code

-- t is a part of s where `bit_and t s` is t
pub part_and : {t s : ℕ} → Part t s → bit_and t s ≡ t
part_and {t} {s} h = same_bits (bit_and t s) t (λ x. has_and t s x ∙ and_absorbs (has t x) (has s x) (h.within x))

pub and_part : (a s : ℕ) → Part (bit_and a s) s
and_part a s = record { within = λ x p. and_right (has a x) (has s x) (rw (has_and a s x) at p) }

pub part_of_and : {t s : ℕ} → bit_and t s ≡ t → Part t s
part_of_and {t} {s} e = subst (λ (u : ℕ). Part u s) e (and_part t s)

-- a and b are disjoint where `bit_and a b` is empty
pub disjoint_and : {a b : ℕ} → Disjoint a b → bit_and a b ≡ 0
disjoint_and {a} {b} h = same_bits (bit_and a b) 0 (λ x. has_and a b x ∙ go (has a x) (has b x) (h.never x) ∙ sym (has_none x))
  where
    go : (p q : Bool) → (T p → T q → ⊥) → (p && q) ≡ false
    go true true f = absurd (f tt tt)
    go true false f = refl
    go false q f = refl

pub disjoint_of_and : (a b : ℕ) → bit_and a b ≡ 0 → Disjoint a b
disjoint_of_and a b e =
    record { never = λ x p q. subst T (sym (has_and a b x) ∙ ap (λ (c : ℕ). has c x) e ∙ has_none x) (and_both (has a x) (has b x) p q) }

-- `bit_or` of disjoint sets is their sum
pub or_sum : {a b : ℕ} → Disjoint a b → bit_or a b ≡ a + b
or_sum {a} {b} h = or_disjoint a b (disjoint_and h)

-- `bit_or` is the union
pub has_or : (a b x : ℕ) → has (bit_or a b) x ≡ (has a x || has b x)
has_or a b zero = go (parity a) (parity b)
  where
    go : Parity a → Parity b → has (bit_or a b) 0 ≡ (has a 0 || has b 0)
    go (even p p') (even q q') = rw (p', q') (has_even (bit_or a b) (omega (arith, or_step a b)))
    go (even p p') (odd q q') = rw (p', q') (has_odd (bit_or a b) (omega (arith, or_step a b)))
    go (odd p p') l = rw p' (has_odd (bit_or a b) (omega (arith, or_step a b, mod-lt b (zero-lt-suc 1))))
has_or a b (suc x) =
    let half : bit_or a b / 2 ≡ bit_or (a / 2) (b / 2) = omega (arith, or_step a b) in
    simp (has_suc, half) (has_or (a / 2) (b / 2) x)

-- a part adds nothing
pub or_part : {t s : ℕ} → Part t s → bit_or s t ≡ s
or_part {t} {s} h =
    same_set (bit_or s t) s
    (λ x. (λ p. ⊎_elim (λ a. a) (h.within x) (or_cases (has s x) (has t x) (rw has_or at p)), λ p. rw has_or (or_left (has s x) (has t x) p)))

-- they meet where it is not
pub meets : (a b : ℕ) → (bit_and a b ≢ 0) ↔ ((u : ℕ) × T (has a u) × T (has b u))
meets a b = (some_common, λ c e. (disjoint_of_and a b e).never c.0 c.1 c.2)
  where
    some_common : bit_and a b ≢ 0 → (u : ℕ) × T (has a u) × T (has b u)
    some_common ne =
        let (u, t) = some_bit (bit_and a b) (omega arith) in
        let both : T (has a u && has b u) = rw has_and at t in
        (u, and_left (has a u) (has b u) both, and_right (has a u) (has b u) both)
