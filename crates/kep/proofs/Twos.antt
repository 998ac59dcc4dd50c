-- A set's lowest vertex aside: the walk through the set's parts from the set down goes through the parts of what is left, each
-- first with that vertex and then without. Taken twice, the walk goes by fours.
use mathlib.Core.List.{List, [], ◌∷◌}
use mathlib.Core.Logic.{◌⊎◌, inl, inr}
use mathlib.Core.Path.{◌≡◌, refl, ap, ◌∙◌}
use Prim.Native.Nat.{ℕ, ◌+◌, ◌-◌, ◌^◌, ◌≤◌, ◌<◌}
use native.Mathlib.Decide.{dec_lt}
use native.Mathlib.Nat.{le_antisymm}
use native.Mathlib.Omega.{arith}
use lib.Bits.{bit_and}
use lib.Dec.{T}
use Rattle.kep.specs.Sets.{Part, has}
use Rattle.kep.specs.inner.BestFilling.{Aside, TwoAside}
use Rattle.kep.specs.inner.Lowest.{lowest}
use Rattle.kep.proofs.Tests.{passes?}
use Rattle.kep.proofs.SetLaws.{lowest_is}
use Rattle.kep.proofs.Parts.{part_le, part_trans, rest_part, rest_disjoint, parts_of_rest}
use Rattle.kep.proofs.Down.{parts_from, from_step, from_none, step_part, step_below, step_greatest}
use Rattle.kep.proofs.Vertices.{in_with, in_without, power_part, power_disjoint}
use Rattle.kep.proofs.LowestBit.{lowest_bit, lowest_out, parts_apart}

-- ---- one vertex aside

module _ {s a : ℕ} (h : Aside s a) where
  -- what is left
  abbrev x : ℕ
  x = s - a

  left : x ≡ bit_and (s - 1) s
  left = omega (arith, h.lowest, step_below s s h.some)

  aside_some : 0 < a
  aside_some = omega (arith, h.lowest, step_below s s h.some)

  aside_sum : x + a ≡ s
  aside_sum = omega (arith, h.lowest)

  aside_part : Part x s
  aside_part = rw left (step_part s s)

  -- a part of what is left, with the vertex
  aside_with : {t : ℕ} → Part t x → Part (t + a) s
  aside_with {t} k =
      let e : s - (x - t) ≡ t + a = omega (arith, aside_sum, part_le k) in
      rw e at (rest_part (part_trans (rest_part k) aside_part))

  bit : a ≡ 2 ^ lowest s
  bit = h.lowest ∙ lowest_bit s h.some

  low : T (has s (lowest s))
  low = (lowest_is s h.some).is_in

  left_is : x ≡ s - 2 ^ lowest s
  left_is = left ∙ lowest_out s h.some

  apart : {t u : ℕ} → Part t s → Part u s → t < u → t + a ≤ u
  apart k l less = rw bit (parts_apart h.some k l less)

  -- from a part with the vertex to the part without it
  aside_drops : {t : ℕ} → Part t x → bit_and (t + a - 1) s ≡ t
  aside_drops {t} k =
      let next = bit_and (t + a - 1) s in
      let inside : Part t s = part_trans k aside_part in
      elim (dec_lt t next) [
        | yes more ↦ absurd (omega (arith, apart inside (step_part (t + a) s) more, step_below (t + a) s (omega (arith, aside_some))))
        | no n ↦ omega (arith, step_greatest (aside_with k) inside (omega (arith, aside_some)))
      ]

  -- from there to the next part of what is left, with the vertex
  aside_takes : {t : ℕ} → 0 < t → Part t x → bit_and (t - 1) s ≡ bit_and (t - 1) x + a
  aside_takes {t} p k = le_antisymm (most (passes? (has next (lowest s)))) least
    where
      next : ℕ
      next = bit_and (t - 1) s

      below : ℕ
      below = bit_and (t - 1) x

      inside : Part t s
      inside = part_trans k aside_part

      -- a part of what is left has not the vertex
      without : {u : ℕ} → Part u x → T (has u (lowest s)) → ⊥
      without {u} l q = ((in_without s (lowest s) (lowest s) low).0 (rw left_is at (l.within (lowest s) q))).1 refl

      least : below + a ≤ next
      least =
          let part : Part below x = step_part t x in
          let up_to : below + a ≤ t = apart (part_trans part aside_part) inside (step_below t x p) in
          elim (dec_lt (below + a) t) [
            | yes l ↦ step_greatest inside (aside_with part) l
            | no n ↦
                let e : 2 ^ lowest s + below ≡ t = omega (arith, bit) in
                absurd (without k (rw e at ((in_with below (lowest s) (lowest s) (without part)).1 (inl refl))))
          ]

      -- with the vertex or not, the next part of s is one of what is left
      rest : {u : ℕ} → Part u x → u < t → u ≤ below
      rest l less = step_greatest k l less

      most : T (has next (lowest s)) ⊎ (T (has next (lowest s)) → ⊥) → next ≤ below + a
      most (inl y) =
          let one = power_part next (lowest s) y in
          let l : Part (next - 2 ^ lowest s) x = rw left_is ((parts_of_rest (power_part s (lowest s) low) (next - 2 ^ lowest s)).1 (part_trans (rest_part one) (step_part t s), rest_disjoint one)) in
          omega (arith, bit, rest l (omega (arith, step_below t s p)))
      most (inr n) =
          let l : Part next x = rw left_is ((parts_of_rest (power_part s (lowest s) low) next).1 (step_part t s, power_disjoint (lowest s) next n)) in
          omega (arith, rest l (step_below t s p))

-- ---- two vertices aside, a and b: r is what is left of s

module _ {s a b : ℕ} (l : TwoAside s a b) where
  abbrev r : ℕ
  r = s - a - b

  pub two_sum : r + b + a ≡ s
  two_sum = omega (arith, aside_sum l.first, aside_sum l.second)

  pub two_some : (0 < a) × (0 < b)
  two_some = (aside_some l.first, aside_some l.second)

  module _ {t : ℕ} (h : Part t r) where
    pub two_room : t + a + b ≤ s
    two_room = omega (arith, two_sum, part_le h)

    in_between : Part t (s - a)
    in_between = part_trans h (aside_part l.second)

    with_second : Part (b + t) (s - a)
    with_second = let e : t + b ≡ b + t = omega arith in rw e at (aside_with l.second h)

    -- the four parts
    pub part_both : Part (b + (t + a)) s
    part_both = let e : b + t + a ≡ b + (t + a) = omega arith in rw e at (aside_with l.first with_second)

    pub part_second : Part (b + t) s
    part_second = part_trans with_second (aside_part l.first)

    pub part_first : Part (t + a) s
    part_first = aside_with l.first in_between

    pub part_neither : Part t s
    part_neither = part_trans in_between (aside_part l.first)

    -- from one to the next
    step_both : bit_and (b + (t + a) - 1) s ≡ b + t
    step_both = let e : b + t + a ≡ b + (t + a) = omega arith in rw e at (aside_drops l.first with_second)

    step_second : bit_and (b + t - 1) s ≡ t + a
    step_second =
        let e : t + b ≡ b + t = omega arith in
        aside_takes l.first (omega (arith, two_some.1)) with_second ∙ ap (λ (k : ℕ). k + a) (rw e at (aside_drops l.second h))

    step_neither : 0 < t → bit_and (t - 1) s ≡ b + (bit_and (t - 1) r + a)
    step_neither p =
        let e : bit_and (t - 1) r + b + a ≡ b + (bit_and (t - 1) r + a) = omega arith in
        aside_takes l.first p in_between ∙ ap (λ (k : ℕ). k + a) (aside_takes l.second p h) ∙ e

    first_three : parts_from (b + (t + a)) s ≡ (b + (t + a)) ∷ (b + t) ∷ (t + a) ∷ parts_from t s
    first_three =
        let (p, q) = two_some in
        rw (from_step (b + (t + a)) part_both (omega arith), step_both, from_step (b + t) part_second (omega arith), step_second, from_step (t + a) part_first (omega arith), aside_drops l.first in_between)

    -- the walk by fours
    pub by_fours : 0 < t → parts_from (b + (t + a)) s ≡ (b + (t + a)) ∷ (b + t) ∷ (t + a) ∷ t ∷ parts_from (b + (bit_and (t - 1) r + a)) s
    by_fours p = rw (first_three, from_step t part_neither p, step_neither p)

    -- and its last group, without the empty part
    pub last_three : t ≡ 0 → parts_from (b + (t + a)) s ≡ (b + (t + a)) ∷ (b + t) ∷ (t + a) ∷ []
    last_three z = first_three ∙ ap (λ (ts : List ℕ). (b + (t + a)) ∷ (b + t) ∷ (t + a) ∷ ts) (ap (λ (k : ℕ). parts_from k s) z ∙ from_none s)
