-- Pass one: the ends of paths on a set, from those on smaller sets.
use mathlib.Core.Bool.{false, true, not}
use mathlib.Core.Logic.{◌↔◌, ◌≢◌}
use mathlib.Core.Path.{ap, ◌≡◌, refl, ◌∙◌, sym, subst}
use Prim.Native.Nat.{◌-◌, ℕ, zero, suc, ◌<◌, ◌^◌}
use native.Mathlib.Decide.{ℕ_discrete}
use native.Mathlib.Nat.{not-suc-le-zero}
use native.Mathlib.Omega.{arith}
use lib.Bits.{bit_and}
use lib.Dec.{T, eqb}
use lib.Pow.{pow_pos}
use borrow.Author.Tests.{eq-eqb, ne_eqb}
use Rattle.kep.specs.Graph.{Graph, WellFormed, givers}
use Rattle.kep.specs.Sets.{has}
use Rattle.kep.specs.inner.Lowest.{lowest}
use Rattle.kep.specs.inner.Filling.{comes, ends_below, ends, next_ends}
use Rattle.kep.proofs.Tests.{differ_iff}
use Rattle.kep.proofs.SetLaws.{lowest_is, lowest_eq, nonempty}
use Rattle.kep.proofs.Parts.{meets}
use Rattle.kep.proofs.Vertices.{bit_le, in_power, in_where, in_without}
use Rattle.kep.proofs.Sifting.{sift, in_sift, sift_none, sift_same}
use Rattle.kep.proofs.Paths.{PathEnd, path_alone, path_end_in, Longer, path_longer}

-- the vertices of s but its lowest
pub in_later : (s v : ℕ) → T (has (s - 2 ^ lowest s) v) ↔ (T (has s v) × (v ≢ lowest s))
in_later s v = (
  λ h. (in_without s (lowest s) v (lowest_is s (omega (arith, nonempty (s - 2 ^ lowest s) v h))).is_in).0 h,
  λ h. (in_without s (lowest s) v (lowest_is s (nonempty s v h.0)).is_in).1 h,
)

pub later_less : (s v : ℕ) → T (has (s - 2 ^ lowest s) v) → s - 2 ^ v < s
later_less s v h = omega (arith, bit_le s v ((in_later s v).0 h).0, pow_pos v)

pub lowest_power : (l : ℕ) → lowest (2 ^ l) ≡ l
lowest_power l = lowest_eq (2 ^ l) l (record { is_in = (in_power l l).1 refl; least = λ u h. omega (arith, (in_power l u).0 h) })

module _ (g : Graph) where
  -- ---- an entry rests on those of s without a later vertex alone

  next_same : (s : ℕ) (e e' : ℕ → ℕ) → ((i : ℕ) → i < s → e i ≡ e' i) → next_ends g e s ≡ next_ends g e' s
  unfolding next_ends comes
  next_same s e e' same = ap (λ (x : ℕ). elim (eqb s (2 ^ lowest s)) as (λ _. ℕ) [ true ↦ s | false ↦ x ]) later
    where
      later : sift g.size (comes g e s) (s - 2 ^ lowest s) ≡ sift g.size (comes g e' s) (s - 2 ^ lowest s)
      later =
          sift_same g.size (s - 2 ^ lowest s) (comes g e s) (comes g e' s)
          (λ v h. ap (λ (x : ℕ). not (eqb (bit_and x (givers g v)) 0)) (same (s - 2 ^ v) (later_less s v h)))

  same_below : (j k s : ℕ) → s < j → s < k → ends_below g j s ≡ ends_below g k s
  unfolding ends_below
  same_below (suc j) (suc k) s h l = next_same s (ends_below g j) (ends_below g k) (λ i b. same_below j k i (omega arith) (omega arith))
  same_below zero k s h l = absurd (not-suc-le-zero h)
  same_below (suc j) zero s h l = absurd (not-suc-le-zero l)

  pub ends_step : (s : ℕ) → ends g s ≡ next_ends g (ends g) s
  unfolding ends ends_below
  ends_step s = next_same s (ends_below g s) (ends g) (λ i h. same_below s (suc i) i h (omega arith))

  pub ends_several : (s : ℕ) → s ≢ 2 ^ lowest s → ends g s ≡ sift g.size (comes g (ends g) s) (s - 2 ^ lowest s)
  unfolding next_ends
  ends_several s ne = ends_step s ∙ rw (ne_eqb s (2 ^ lowest s) ne, next_ends)

  pub ends_alone : (l : ℕ) → ends g (2 ^ l) ≡ 2 ^ l
  unfolding next_ends
  ends_alone l = ends_step (2 ^ l) ∙ rw (eq-eqb (2 ^ l) (2 ^ lowest (2 ^ l)) (ap (λ (v : ℕ). 2 ^ v) (sym (lowest_power l))), next_ends)

  pub ends_none : ends g 0 ≡ 0
  ends_none =
      let none : 0 - 2 ^ lowest 0 ≡ 0 = omega arith in
      ends_several 0 (λ e. omega (arith, pow_pos (lowest 0))) ∙ ap (sift g.size (comes g (ends g) 0)) none ∙ sift_none g.size (comes g (ends g) 0)

  -- ---- the meaning of an entry

  -- a vertex alone is a path
  alone : (l v : ℕ) → T (has (2 ^ l) v) ↔ PathEnd g (2 ^ l) v
  alone l v = (λ h. (path_alone g l v).1 ((in_power l v).0 h), path_end_in g (2 ^ l) v)

  module _ (wf : WellFormed g) where
    pub in_givers : (v u : ℕ) → T (has (givers g v) u) ↔ T (g.arc u v)
    unfolding givers
    in_givers v u = let r = in_where g.size (λ w. g.arc w v) u in (λ h. (r.0 h).1, λ a. r.1 (wf.giver_below u v a, a))

    -- an entry has its meaning if those before it have
    module _ (s : ℕ) (before : (i : ℕ) → i < s → (u : ℕ) → T (has (ends g i) u) ↔ PathEnd g i u) where
      -- a path comes to v exactly where one on s without v ends at a giver of v
      comes_longer : (v : ℕ) → (T (has (s - 2 ^ lowest s) v) × T (comes g (ends g) s v)) ↔ Longer g s (lowest s) v
      unfolding comes
      comes_longer v = (to, from)
        where
          met : ℕ
          met = bit_and (ends g (s - 2 ^ v)) (givers g v)

          to : T (has (s - 2 ^ lowest s) v) × T (comes g (ends g) s v) → Longer g s (lowest s) v
          to (i, t) =
              let (u, e, a) = (meets (ends g (s - 2 ^ v)) (givers g v)).0 ((differ_iff met 0).0 t) in
              let (inside, later) = (in_later s v).0 i in
              record { is_in = inside; later = later; before = u; path = (before (s - 2 ^ v) (later_less s v i) u).0 e; arc = (in_givers v u).0 a }

          from : Longer g s (lowest s) v → T (has (s - 2 ^ lowest s) v) × T (comes g (ends g) s v)
          from q =
              let i = (in_later s v).1 (q.is_in, q.later) in
              let e = (before (s - 2 ^ v) (later_less s v i) q.before).1 q.path in
              (i, (differ_iff met 0).1 ((meets (ends g (s - 2 ^ v)) (givers g v)).1 (q.before, e, (in_givers v q.before).1 q.arc)))

      more : (v : ℕ) → s ≢ 2 ^ lowest s → T (has (ends g s) v) ↔ PathEnd g s v
      more v ne = rw (ends_several s ne) (
        λ h. let (_, i, t) = r.0 h in let q = (comes_longer v).0 (i, t) in (longer q.is_in).1 q,
        λ p. let q = (longer (path_end_in g s v p)).0 p in let (i, t) = (comes_longer v).1 q in r.1 (wf.taker_below q.before v q.arc, i, t),
      )
        where
          r : T (has (sift g.size (comes g (ends g) s) (s - 2 ^ lowest s)) v) ↔ ((v < g.size) × T (has (s - 2 ^ lowest s) v) × T (comes g (ends g) s v))
          r = in_sift g.size (comes g (ends g) s) (s - 2 ^ lowest s) v

          longer : T (has s v) → PathEnd g s v ↔ Longer g s (lowest s) v
          longer h = path_longer g s (lowest s) v (lowest_is s (nonempty s v h)) ne

      ends_one : (v : ℕ) → T (has (ends g s) v) ↔ PathEnd g s v
      ends_one v = elim (ℕ_discrete s (2 ^ lowest s)) [
        | no ne ↦ more v ne
        | yes e ↦ subst (λ (x : ℕ). T (has (ends g x) v) ↔ PathEnd g x v) (sym e) (rw (ends_alone (lowest s)) (alone (lowest s) v))
      ]

    -- a vertex is in entry s exactly where a path on s ends there
    pub ends_is : (s v : ℕ) → T (has (ends g s) v) ↔ PathEnd g s v
    ends_is s v = go (suc s) s (omega arith) v
      where
        go : (k s : ℕ) → s < k → (v : ℕ) → T (has (ends g s) v) ↔ PathEnd g s v
        go zero s h v = absurd (not-suc-le-zero h)
        go (suc k) s h v = ends_one s (λ i l. go k i (omega arith)) v
