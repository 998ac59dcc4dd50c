-- Code that makes the set of the vertices at which a test holds, vertex by vertex: of all vertices below k, or of those of a set.
use mathlib.Core.Bool.{Bool, true, false, not}
use mathlib.Core.Logic.{◌↔◌, ◌⊎◌, inl, inr, ⊎_elim, ◌≢◌}
use mathlib.Core.Path.{◌≡◌, sym, ◌∙◌}
use Prim.Native.Nat.{ℕ, ◌+◌, ◌-◌, ◌^◌, ◌<◌}
use native.Mathlib.Decide.{ℕ_discrete}
use native.Mathlib.Nat.{lt_of_lt_of_le, lt_of_le_of_lt, le_of_lt, pos_of_ne-zero}
use native.Mathlib.Numerals.{add-one}
use native.Mathlib.Omega.{arith}
use lib.Bits.{bit_and, bit_or}
use lib.Dec.{T, eqb}
use lib.Pow.{pow_mono, pow_pos}
use Rattle.kep.specs.Sets.{has, Part, set_where, lowest_below, with_vertex, without_vertex}
use Rattle.kep.proofs.Tests.{differ_iff, same_test, from_true, from_false, or_cases, or_left, or_right}
use Rattle.kep.proofs.SetLaws.{same_set, not_in_empty, bits_lt, has_below, lowest_is, lowest_below_lem}
use Rattle.kep.proofs.Parts.{part_refl, part_le, has_or}
use Rattle.kep.proofs.Vertices.{in_where, in_power, in_without, bit_test, bit_le, or_without, where_pass, where_fail, where_lt}
use Rattle.kep.proofs.Operations.{where_set, with_or, without_or}

-- whether a vertex is in a set, as its bit tells it
pub bit_flag : (s v : ℕ) → not (eqb (bit_and s (2 ^ v)) 0) ≡ has s v
bit_flag s v =
    let (to, from) = bit_test s v in
    let (differs, flag) = differ_iff (bit_and s (2 ^ v)) 0 in
    same_test (not (eqb (bit_and s (2 ^ v)) 0)) (has s v) (λ t. to (differs t)) (λ h. flag (from h))

-- a turn of the loop: where the test of k gave true, k is put in, and else it is passed over
module _ (p : ℕ → Bool) {b : Bool} {k s t : ℕ} (made : s ≡ set_where k p) (test : b ≡ p k) where
  pub made_with : (w : ℕ) → k < w → b ≡ true → t ≡ with_vertex w s k → t ≡ set_where (k + 1) p
  made_with w l passed put =
      let fits : s < 2 ^ w = rw made (lt_of_lt_of_le (where_lt k p) (pow_mono (le_of_lt l))) in
      put ∙ with_or w s fits k l ∙ rw (made, add-one k, where_pass k p (from_true (sym test ∙ passed)))

  pub made_without : b ≡ false → t ≡ s → t ≡ set_where (k + 1) p
  made_without failed same = rw (same, made, add-one k, where_fail k p (from_false (sym test ∙ failed)))

-- how far the loop goes beyond the vertices that pass makes no difference
pub where_reach : (j k : ℕ) (p : ℕ → Bool) → ((u : ℕ) → T (p u) → (u < j) × (u < k)) → set_where j p ≡ set_where k p
where_reach j k p reach =
    same_set (set_where j p) (set_where k p)
    (λ u. (
      λ h. let t = ((in_where j p u).0 h).1 in (in_where k p u).1 ((reach u t).1, t),
      λ h. let t = ((in_where k p u).0 h).1 in (in_where j p u).1 ((reach u t).0, t),
    ))

-- ---- the vertices of a set only, the lowest first

-- of the vertices of s that are no longer left, those that pass are taken
pub record Sifted (p : ℕ → Bool) (s left taken : ℕ) : Type 0 where
  pub inside : Part left s
  pub passed : (u : ℕ) → T (has taken u) ↔ (T (has s u) × (T (has left u) → ⊥) × T (p u))

-- before the loop all of s is left, and nothing taken
pub sifted_none : (p : ℕ → Bool) (s : ℕ) → Sifted p s s 0
sifted_none p s = record { inside = part_refl s; passed = λ u. (λ h. absurd (not_in_empty u h), λ h. absurd (h.1 h.0)) }

module _ {p : ℕ → Bool} {s left taken : ℕ} (k : ℕ) (b : s < 2 ^ k) (sifted : Sifted p s left taken) where
  taken_lt : taken < 2 ^ k
  taken_lt = bits_lt k taken (λ u h. has_below k s u b ((sifted.passed u).0 h).0)

  -- after it nothing is left; where none outside s passes, all that pass are taken
  pub sifted_all : ((u : ℕ) → T (p u) → T (has s u)) → left ≡ 0 → taken ≡ set_where k p
  sifted_all only none =
      sym
      (where_set k taken p taken_lt
      (λ u _. (λ t. (sifted.passed u).1 (only u t, (λ h. not_in_empty u (rw none at h)), t), λ h. ((sifted.passed u).0 h).2)))

  -- a turn of it is about the lowest vertex left
  module _ {v : ℕ} (some : left ≢ 0) (low : v ≡ lowest_below k left) where
    left_lt : left < 2 ^ k
    left_lt = lt_of_le_of_lt (part_le sifted.inside) b

    was_left : T (has left v)
    was_left = rw (low ∙ lowest_below_lem k left (pos_of_ne-zero some) left_lt) (lowest_is left (pos_of_ne-zero some)).is_in

    pub one_of : T (has s v)
    one_of = sifted.inside.within v was_left

    -- which is taken where it passes, and is no longer left
    module _ {after : ℕ} (out : after ≡ without_vertex k left v) where
      after_is : after ≡ left - 2 ^ v
      after_is = out ∙ without_or k left left_lt v ∙ or_without left v was_left

      -- so the loop ends
      pub fewer_left : after < left
      fewer_left = omega (arith, after_is, bit_le left v was_left, pow_pos v)

      in_after : (u : ℕ) → T (has after u) ↔ (T (has left u) × (u ≢ v))
      in_after u = rw after_is (in_without left v u was_left)

      turn : {next : ℕ} → ((u : ℕ) → T (has next u) ↔ (T (has taken u) ⊎ ((u ≡ v) × T (p v)))) → Sifted p s after next
      turn in_next =
          record {
            inside = record { within = λ u h. sifted.inside.within u ((in_after u).0 h).0 };
            passed = λ u. (λ h. to u ((in_next u).0 h), λ h. (in_next u).1 (from u h));
          }
        where
          to : (u : ℕ) → T (has taken u) ⊎ ((u ≡ v) × T (p v)) → T (has s u) × (T (has after u) → ⊥) × T (p u)
          to u (inl h) = let (i, n, t) = (sifted.passed u).0 h in (i, (λ a. n ((in_after u).0 a).0), t)
          to u (inr (e, t)) = (rw e one_of, (λ a. ((in_after u).0 a).1 e), rw e t)

          from : (u : ℕ) → T (has s u) × (T (has after u) → ⊥) × T (p u) → T (has taken u) ⊎ ((u ≡ v) × T (p v))
          from u (i, n, t) =
              elim (ℕ_discrete u v) [
                | yes e ↦ inr (e, rw e at t)
                | no ne ↦ inl ((sifted.passed u).1 (i, (λ h. n ((in_after u).1 (h, ne))), t))
              ]

      pub sifted_turn : {passes : Bool} {next : ℕ} → passes ≡ p v → ((passes ≡ true) × (next ≡ with_vertex k taken v)) ⊎ ((passes ≡ false) × (next ≡ taken))
          → Sifted p s after next
      sifted_turn {next = next} test (inl (e, put)) = turn in_next
        where
          united : next ≡ bit_or taken (2 ^ v)
          united = put ∙ with_or k taken taken_lt v (has_below k left v left_lt was_left)

          in_next : (u : ℕ) → T (has next u) ↔ (T (has taken u) ⊎ ((u ≡ v) × T (p v)))
          in_next u =
              rw (united, has_or taken (2 ^ v) u) (
                λ h. ⊎_elim inl (λ q. inr ((in_power v u).0 q, from_true (sym test ∙ e))) (or_cases (has taken u) (has (2 ^ v) u) h),
                ⊎_elim (or_left (has taken u) (has (2 ^ v) u)) (λ q. or_right (has taken u) (has (2 ^ v) u) ((in_power v u).1 q.0)),
              )
      sifted_turn test (inr (e, same)) = turn (λ u. rw same (inl, ⊎_elim (λ h. h) (λ q. absurd (from_false (sym test ∙ e) q.1))))
