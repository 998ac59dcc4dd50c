-- A set by its lowest vertex: without it, which is `bit_and (s - 1) s`; the sets that have the same; and the next set of no more vertices.
use mathlib.Core.Logic.{◌⊎◌, inl, inr}
use mathlib.Core.Path.{◌≡◌, ap, sym, refl, ◌∙◌}
use Prim.Native.Nat.{ℕ, suc, ◌+◌, ◌-◌, ◌*◌, ◌/◌, ◌%◌, ◌^◌, ◌≤◌, ◌<◌}
use native.Mathlib.Nat.{add-mul-mod_self_right, eq-zero-or-pos, add-zero, mod-lt, mul-le-mul_right, suc-mul}
use native.Mathlib.Decide.{dec_lt}
use native.Mathlib.Omega.{arith}
use lib.Bits.{bit_and, and_mask, and_comm, and_le_l}
use lib.Count.{ones, ones_cat, count_trailing_zeros}
use lib.Dec.{T, eqb→eq}
use lib.Pow.{pow_mono, pow_pos, pow-add, split, low, mod-pow-add}
use Rattle.kep.specs.Sets.{has, Part, size_below, lowest_below, without_vertex}
use Rattle.kep.specs.inner.Lowest.{lowest}
use Rattle.kep.proofs.Tests.{and_left, and_both}
use Rattle.kep.proofs.SetLaws.{IsLowest, lowest_below_lem, some_bit, below_pow, has_below, has_full, lowest_is, lowest_eq, trailing_lowest}
use Rattle.kep.proofs.Parts.{has_and, part_le, part_refl, rest_part, and_part}
use Rattle.kep.proofs.Vertices.{in_power, in_without, power_part, bit_le, with_without, ones_with}
use Rattle.kep.proofs.Worth.{worth_rest}
use Rattle.kep.proofs.Operations.{size_ones, without_part, without_old}
use native.Mathlib.Numerals.{add-one}
use Rattle.kep.proofs.Down.{step_part, step_below, step_greatest}

-- ---- one vertex less is one less to count

pub ones_without : (s v : ℕ) → T (has s v) → ones s ≡ suc (ones (s - 2 ^ v))
ones_without s v h = ap ones (sym (with_without s v h)) ∙ ones_with (s - 2 ^ v) v (λ t. ((in_without s v v h).0 t).1 refl)

pub ones_none : ones 0 ≡ 0
unfolding ones
ones_none = refl

pub ones_some : (s : ℕ) → 0 < s → 0 < ones s
ones_some s p = let (v, h) = some_bit s p in omega (arith, ones_without s v h)

-- ---- without its lowest vertex: the greatest part of s below s

module _ (s : ℕ) (p : 0 < s) where
  pub lowest_le : 2 ^ lowest s ≤ s
  lowest_le = bit_le s (lowest s) (lowest_is s p).is_in

  pub lowest_out : bit_and (s - 1) s ≡ s - 2 ^ lowest s
  lowest_out =
      let low = lowest_is s p in
      let rest = rest_part (power_part s (lowest s) low.is_in) in
      let (v, h) = some_bit (s - bit_and (s - 1) s) (omega (arith, step_below s s p)) in
      let least : 2 ^ lowest s ≤ 2 ^ v = pow_mono (low.least v ((rest_part (step_part s s)).within v h)) in
      omega (arith, lowest_le, step_below s s p, bit_le (s - bit_and (s - 1) s) v h, step_greatest (part_refl s) rest (omega (arith, pow_pos (lowest s), lowest_le)))

  -- the bit that is taken out
  pub lowest_bit : s - bit_and (s - 1) s ≡ 2 ^ lowest s
  lowest_bit = omega (arith, lowest_out, lowest_le)

  pub ones_lowest : ones s ≡ ones (s - 2 ^ lowest s) + 1
  ones_lowest = omega (arith, ones_without s (lowest s) (lowest_is s p).is_in)

  pub trailing_is : (k : ℕ) → s < 2 ^ k → count_trailing_zeros k s ≡ lowest s
  trailing_is k b = sym (lowest_eq s (count_trailing_zeros k s) (trailing_lowest k s p b))

-- so the operation may take it out, and the empty set stays empty
pub lowest_taken : (k s : ℕ) → s < 2 ^ k → bit_and s (s - 1) ≡ without_vertex k s (lowest_below k s)
lowest_taken k s b = go (eq-zero-or-pos s)
  where
    go : (s ≡ 0) ⊎ (0 < s) → bit_and s (s - 1) ≡ without_vertex k s (lowest_below k s)
    go (inl z) = rw z (omega (arith, and_le_l 0 0, part_le (without_part k 0 (lowest_below k 0))))
    go (inr p) = and_comm s (s - 1) ∙ lowest_out s p ∙ rw (lowest_below_lem k s p b) (sym (without_old k s b (lowest s) (lowest_is s p).is_in))

-- ---- the sets whose lowest vertex is l: those of remainder 2 ^ l by 2 ^ suc l

pub remainder_lowest : {s l : ℕ} → s % 2 ^ suc l ≡ 2 ^ l → IsLowest s l
remainder_lowest {s} {l} e = record {
  is_in = and_left (has s l) (has (2 ^ suc l - 1) l) (rw (← has_and s (2 ^ suc l - 1) l, alone) ((in_power l l).1 refl));
  least = λ u h. elim (dec_lt u l) [ no n ↦ omega arith | yes less ↦ absurd (omega (arith, (in_power l u).0 (low_part u less h))) ];
}
  where
    alone : bit_and s (2 ^ suc l - 1) ≡ 2 ^ l
    alone = and_mask s (suc l) ∙ e

    low_part : (u : ℕ) → u < l → T (has s u) → T (has (2 ^ l) u)
    low_part u less h = rw (← alone, has_and s (2 ^ suc l - 1) u) (and_both (has s u) (has (2 ^ suc l - 1) u) h (has_full (suc l) u (omega arith)))

-- no vertex below l
none_below : (s l : ℕ) → ((u : ℕ) → T (has s u) → l ≤ u) → s % 2 ^ l ≡ 0
none_below s l high = go (eq-zero-or-pos (s % 2 ^ l))
  where
    go : (s % 2 ^ l ≡ 0) ⊎ (0 < s % 2 ^ l) → s % 2 ^ l ≡ 0
    go (inl z) = z
    go (inr p) =
        let (u, h) = some_bit (s % 2 ^ l) p in
        let below : u < l = has_below l (s % 2 ^ l) u (mod-lt s (pow_pos l)) h in
        let also : T (has s u) = and_left (has s u) (has (2 ^ l - 1) u) (rw (← has_and s (2 ^ l - 1) u, and_mask s l) h) in
        absurd (omega (arith, high u also))

pub lowest_remainder : {s l : ℕ} → IsLowest s l → s % 2 ^ suc l ≡ 2 ^ l
unfolding has
lowest_remainder {s} {l} low =
    let parts : s % 2 ^ (1 + l) ≡ s / 2 ^ l % 2 ^ 1 * 2 ^ l + s % 2 ^ l = mod-pow-add s 1 l in
    let bit : s / 2 ^ l % 2 ≡ 1 = eqb→eq (s / 2 ^ l % 2) 1 low.is_in in
    let name : 1 + l ≡ suc l = omega arith in
    (rw name at parts) ∙ rw (bit, none_below s l low.least) (omega arith)

-- a higher vertex added, whether or not it was there
pub remainder_more : (s l v : ℕ) → l < v → s % 2 ^ suc l ≡ 2 ^ l → (s + 2 ^ v) % 2 ^ suc l ≡ 2 ^ l
remainder_more s l v h e =
    let sum : v ≡ v - suc l + suc l = omega arith in
    rw (sum, pow-add 2 (v - suc l) (suc l), add-mul-mod_self_right s (2 ^ (v - suc l)) (2 ^ suc l)) e

-- numbers of one remainder by 2 ^ l stand 2 ^ l apart or more
pub remainder_apart : (l : ℕ) {s t : ℕ} → s % 2 ^ l ≡ t % 2 ^ l → s < t → s + 2 ^ l ≤ t
remainder_apart l {s} {t} e less =
    elim (dec_lt (s / 2 ^ l) (t / 2 ^ l)) [
      | yes q ↦ omega (arith, split s l, split t l, suc-mul (s / 2 ^ l) (2 ^ l), mul-le-mul_right (2 ^ l) q)
      | no n ↦ absurd (omega (arith, split s l, split t l, mul-le-mul_right {m = t / 2 ^ l} {n = s / 2 ^ l} (2 ^ l) (omega arith)))
    ]

-- so do the parts of a set, l its lowest vertex
pub parts_apart : {s t u : ℕ} → 0 < s → Part t s → Part u s → t < u → t + 2 ^ lowest s ≤ u
parts_apart {s} {t} {u} some h k less =
    let low = lowest_is s some in
    remainder_apart (lowest s) (none_below t (lowest s) (λ v p. low.least v (h.within v p)) ∙ sym (none_below u (lowest s) (λ v p. low.least v (k.within v p)))) less

-- ---- the jump: with its lowest bit added a set has no more vertices, and every number on the way has more

pub ones_part : {t s : ℕ} → Part t s → ones t ≤ ones s
unfolding size_below
ones_part {t} {s} h =
    let worth : size_below s t + size_below s (s - t) ≡ size_below s s = worth_rest (λ _. 1) s h in
    omega (arith, size_ones s t (omega (arith, part_le h, below_pow s)), size_ones s s (below_pow s))

ones_next : (q : ℕ) → ones (q + 1) ≤ ones q + 1
ones_next q =
    let p : 0 < q + 1 = omega arith in
    let back : q + 1 - 1 ≡ q = omega arith in
    let rest : q + 1 - 2 ^ lowest (q + 1) ≡ bit_and (q + 1) q = sym (lowest_out (q + 1) p) ∙ rw back (and_comm q (q + 1)) in
    let fewer : ones (q + 1 - 2 ^ lowest (q + 1)) ≤ ones q = rw rest (ones_part (and_part (q + 1) q)) in
    omega (arith, ones_without (q + 1) (lowest (q + 1)) (lowest_is (q + 1) p).is_in)

-- a bit added, whether or not it was there
pub ones_add : (s v : ℕ) → ones (s + 2 ^ v) ≤ ones s + 1
ones_add s v =
    let small : s % 2 ^ v < 2 ^ v = mod-lt s (pow_pos v) in
    let sum : s + 2 ^ v ≡ (s / 2 ^ v + 1) * 2 ^ v + s % 2 ^ v = rw (add-one (s / 2 ^ v)) (omega (arith, split s v, suc-mul (s / 2 ^ v) (2 ^ v))) in
    let here : ones (s / 2 ^ v * 2 ^ v + s % 2 ^ v) ≡ ones s = ap ones (split s v) in
    rw (sum, ones_cat v (s / 2 ^ v + 1) (s % 2 ^ v) small) (omega (arith, ones_next (s / 2 ^ v), ones_cat v (s / 2 ^ v) (s % 2 ^ v) small))

pub record Jump (s next : ℕ) : Type 0 where
  pub few : ones next ≤ ones s
  pub many : (i : ℕ) → s < i → i < next → ones s < ones i

pub jump : (s : ℕ) → 0 < s → Jump s (s + 2 ^ lowest s)
jump s p = record { few = rw (beyond, ones_cat (suc v) (m + 1) 0 (pow_pos (suc v))) (omega (arith, ones_next m, ones_none, count 0 (pow_pos v), ap ones (add-zero s))); many = λ i a b. more i a b }
  where
    v : ℕ
    v = lowest s

    m : ℕ
    m = s / 2 ^ suc v

    whole : m * 2 ^ suc v + 2 ^ v ≡ s
    whole = omega (arith, split s (suc v), lowest_remainder (lowest_is s p))

    beyond : s + 2 ^ lowest s ≡ (m + 1) * 2 ^ suc v + 0
    beyond = rw (add-one m) (omega (arith, whole, suc-mul m (2 ^ suc v)))

    -- a number less than 2 ^ v above s
    count : (r : ℕ) → r < 2 ^ v → ones (s + r) ≡ ones m + suc (ones r)
    count r b =
        let sum : s + r ≡ m * 2 ^ suc v + (2 ^ v + r) = omega (arith, whole) in
        rw (sum, ones_cat (suc v) m (2 ^ v + r) (omega arith), ones_with r v (λ h. omega (arith, has_below v r v b h)))

    more : (i : ℕ) → s < i → i < s + 2 ^ lowest s → ones s < ones i
    more i a b =
        let sum : s + (i - s) ≡ i = omega arith in
        let here : ones (s + 0) ≡ ones s = ap ones (add-zero s) in
        let there : ones (s + (i - s)) ≡ ones i = ap ones sum in
        omega (arith, count 0 (pow_pos v), count (i - s) (omega arith), ones_none, ones_some (i - s) (omega arith))
