-- The operations on sets of vertices below k, as the machine carries them out.
use mathlib.Core.Bool.{Bool, true, false, not, ◌&&◌, ◌||◌}
use mathlib.Core.Logic.{◌↔◌, ◌⊎◌, inl, inr, ⊎_elim}
use mathlib.Core.Path.{◌≡◌, refl, ap, ◌∙◌}
use Prim.Native.Nat.{ℕ, ◌+◌, ◌-◌, ◌*◌, ◌%◌, ◌^◌, ◌≤◌, ◌<◌}
use native.Mathlib.Decide.{dec_le}
use native.Mathlib.Nat.{one-mul, mod-eq_of_lt}
use native.Mathlib.Omega.{arith}
use lib.Bits.{bit_and, bit_or, or_lt, or_add_and, and_le_l, and_le_r}
use lib.Count.{ones}
use lib.Dec.{T, eqb, ltb, leb, eqb→eq, ltb→lt, lt→ltb, leb→le, le→leb, T_not, not_T}
use lib.Pow.{pow-lt, pow_mono, pow_pos, ones_lt}
use Rattle.kep.specs.Sets.{has, Part, set_where, size_below, with_vertex, without_vertex}
use Rattle.kep.proofs.Tests.{passes?, and_iff, and_left, and_both, or_cases, or_left, or_right, eq→eqb}
use Rattle.kep.proofs.SetLaws.{same_set, empty_set, not_in_empty, has_below, has_full}
use Rattle.kep.proofs.Parts.{has_or, has_and, has_rest, and_part, part_and}
use Rattle.kep.proofs.Vertices.{in_where, where_lt, in_power, in_without, or_with, or_without}
use Rattle.kep.proofs.Worth.{worth_ones}

-- the set at which a test holds is any set of vertices below k of which the test tells the vertices
pub where_set : (k s : ℕ) (p : ℕ → Bool) → s < 2 ^ k → ((u : ℕ) → u < k → T (p u) ↔ T (has s u)) → set_where k p ≡ s
where_set k s p b same =
    same_set (set_where k p) s
    (λ u. (
      λ h. let (l, t) = (in_where k p u).0 h in (same u l).0 t,
      λ h. let l = has_below k s u b h in (in_where k p u).1 (l, (same u l).1 h),
    ))

-- the vertices below n, of those below k
pub below_set : (k n m : ℕ) → m ≤ k → ((u : ℕ) → u < k → (u < n) ↔ (u < m)) → set_where k (λ u. ltb u n) ≡ 2 ^ m - 1
below_set k n m l same =
    where_set k (2 ^ m - 1) (λ u. ltb u n) (omega (arith, pow_mono l, pow_pos m)) (λ u h.
    let (to, from) = same u h in (
      λ t. has_full m u (to (ltb→lt u n t)),
      λ t. lt→ltb u n (from (has_below m (2 ^ m - 1) u (ones_lt m) t)),
    ))

-- and those of them that are not below h
pub between_set : (k h n : ℕ)
    → set_where k (λ u. has (set_where k (λ v. ltb v n)) u && not (has (set_where k (λ v. ltb v h)) u)) ≡ set_where k (λ u. leb h u && ltb u n)
between_set k h n = where_set k (set_where k (λ u. leb h u && ltb u n)) (λ u. has a u && not (has b u)) (where_lt k (λ u. leb h u && ltb u n)) same
  where
    a : ℕ
    a = set_where k (λ u. ltb u n)

    b : ℕ
    b = set_where k (λ u. ltb u h)

    same : (u : ℕ) → u < k → T (has a u && not (has b u)) ↔ T (has (set_where k (λ v. leb h v && ltb v n)) u)
    same u l =
        let (to, from) = and_iff (has a u) (not (has b u)) in
        let (both, one) = and_iff (leb h u) (ltb u n) in
        let (inside, there) = in_where k (λ v. leb h v && ltb v n) u in (
          λ t. there (
            l,
            one (le→leb h u (not_below (λ m. T_not (has b u) (to t).1 ((in_where k (λ v. ltb v h) u).1 (l, lt→ltb u h m)))), ((in_where k (λ v. ltb v n) u).0 (to t).0).1),
          ),
          λ i.
              let (high, low) = both (inside i).1 in
              from (
                (in_where k (λ v. ltb v n) u).1 (l, low),
                not_T (has b u) (λ j. omega (arith, leb→le h u high, ltb→lt u h ((in_where k (λ v. ltb v h) u).0 j).1)),
              ),
        )
      where
        not_below : (u < h → ⊥) → h ≤ u
        not_below f = elim (dec_le h u) [ yes m ↦ m | no m ↦ absurd (f (omega arith)) ]

-- `1 << v` at w bits
pub one_shl : (w v : ℕ) → v < w → 1 * 2 ^ v % 2 ^ w ≡ 2 ^ v
one_shl w v h = ap (λ (x : ℕ). x % 2 ^ w) (one-mul (2 ^ v)) ∙ mod-eq_of_lt (pow-lt h)

-- what is put in can be taken out
pub or_holds : (s t : ℕ) → t ≤ bit_or s t
or_holds s t = omega (arith, or_add_and s t, and_le_l s t)

-- what is in a set with v was there, or is v
pub with_cases : (k s v u : ℕ) → T (has (with_vertex k s v) u) → T (has s u) ⊎ (u ≡ v)
unfolding with_vertex
with_cases k s v u h = ⊎_elim inl (λ e. inr (eqb→eq u v e)) (or_cases (has s u) (eqb u v) ((in_where k (λ u. has s u || eqb u v) u).0 h).1)

-- without a vertex a set is a part of itself
pub without_part : (k s v : ℕ) → Part (without_vertex k s v) s
unfolding without_vertex
without_part k s v = record { within = λ u h. and_left (has s u) (not (eqb u v)) ((in_where k (λ u. has s u && not (eqb u v)) u).0 h).1 }

-- the vertices of s that are in t too
pub both_and : (k s t : ℕ) → t < 2 ^ k → set_where k (λ u. has s u && has t u) ≡ bit_and s t
both_and k s t b = where_set k (bit_and s t) (λ u. has s u && has t u) (omega (arith, and_le_r s t)) (λ u _. rw (has_and s t u) ((λ h. h), (λ h. h)))

module _ (k s : ℕ) (b : s < 2 ^ k) where
  pub size_ones : size_below k s ≡ ones s
  unfolding size_below
  size_ones = worth_ones (λ _. true) k s ∙ ap ones (where_set k s (λ u. has s u && true) b (λ u l. (and_left (has s u) true, λ h. and_both (has s u) true h tt)))

  -- the vertices that are not in t
  pub rest_and : (t : ℕ) → set_where k (λ u. has s u && not (has t u)) ≡ s - bit_and t s
  rest_and t =
      where_set k (s - bit_and t s) (λ u. has s u && not (has t u)) (omega arith)
      (λ u _. rw (has_rest (and_part t s) u, has_and t s u, same (has s u) (has t u)) ((λ h. h), (λ h. h)))
    where
      same : (a b : Bool) → (a && not b) ≡ (a && not (b && a))
      same true true = refl
      same true false = refl
      same false b = refl

  pub rest_less : {t : ℕ} → Part t s → set_where k (λ u. has s u && not (has t u)) ≡ s - t
  rest_less {t} h = rest_and t ∙ ap (λ (u : ℕ). s - u) (part_and h)

  -- nothing is left of s without t where s is a part of t
  pub none_left : (t : ℕ) → T (eqb (set_where k (λ u. has s u && not (has t u))) 0) ↔ Part s t
  none_left t = (
    λ z. record {
      within = λ u h.
          elim (passes? (has t u)) [
            | inl i ↦ i
            | inr n ↦ absurd (not_in_empty u (rw (eqb→eq _ _ z) at ((in_where k (λ u. has s u && not (has t u)) u).1 (has_below k s u b h, and_both (has s u) (not (has t u)) h (not_T (has t u) n)))))
          ];
    },
    λ p. eq→eqb _ _ (empty_set _ (λ u h.
        let (i, n) = (and_iff (has s u) (not (has t u))).0 ((in_where k (λ u. has s u && not (has t u)) u).0 h).1 in
        T_not (has t u) n (p.within u i))),
  )

  pub with_or : (v : ℕ) → v < k → with_vertex k s v ≡ bit_or s (2 ^ v)
  unfolding with_vertex
  with_or v l = where_set k (bit_or s (2 ^ v)) (λ u. has s u || eqb u v) (or_lt k s (2 ^ v) b (pow-lt l)) same
    where
      same : (u : ℕ) → u < k → T (has s u || eqb u v) ↔ T (has (bit_or s (2 ^ v)) u)
      same u _ =
          rw (has_or s (2 ^ v) u) (
            λ t. ⊎_elim (or_left (has s u) (has (2 ^ v) u)) (λ e. or_right (has s u) (has (2 ^ v) u) ((in_power v u).1 (eqb→eq u v e))) (or_cases (has s u) (eqb u v) t),
            λ t. ⊎_elim (or_left (has s u) (eqb u v)) (λ h. or_right (has s u) (eqb u v) (eq→eqb u v ((in_power v u).0 h))) (or_cases (has s u) (has (2 ^ v) u) t),
          )

  -- a number that is no vertex below k changes nothing
  pub with_none : (v : ℕ) → k ≤ v → with_vertex k s v ≡ s
  unfolding with_vertex
  with_none v l =
      where_set k s (λ u. has s u || eqb u v) b
      (λ u h. (
        λ t. ⊎_elim (λ i. i) (λ e. absurd (omega (arith, eqb→eq u v e))) (or_cases (has s u) (eqb u v) t),
        or_left (has s u) (eqb u v),
      ))

  pub without_none : (v : ℕ) → k ≤ v → without_vertex k s v ≡ s
  unfolding without_vertex
  without_none v l =
      where_set k s (λ u. has s u && not (eqb u v)) b
      (λ u h. (
        and_left (has s u) (not (eqb u v)),
        λ i. and_both (has s u) (not (eqb u v)) i (not_T (eqb u v) (λ e. omega (arith, eqb→eq u v e))),
      ))

  -- a vertex is taken out by putting it in and subtracting it
  pub without_or : (v : ℕ) → without_vertex k s v ≡ bit_or s (2 ^ v) - 2 ^ v
  unfolding without_vertex
  without_or v = go (passes? (has s v))
    where
      go : T (has s v) ⊎ (T (has s v) → ⊥) → set_where k (λ u. has s u && not (eqb u v)) ≡ bit_or s (2 ^ v) - 2 ^ v
      go (inl h) = rw (or_without s v h) (where_set k (s - 2 ^ v) (λ u. has s u && not (eqb u v)) (omega arith) same)
        where
          same : (u : ℕ) → u < k → T (has s u && not (eqb u v)) ↔ T (has (s - 2 ^ v) u)
          same u _ =
              let r = and_iff (has s u) (not (eqb u v)) in
              let q = in_without s v u h in (
                λ t. q.1 ((r.0 t).0, λ e. T_not (eqb u v) (r.0 t).1 (eq→eqb u v e)),
                λ t. r.1 ((q.0 t).0, not_T (eqb u v) (λ e. (q.0 t).1 (eqb→eq u v e))),
              )
      go (inr n) = rw (or_with s v n) (where_set k s (λ u. has s u && not (eqb u v)) b same ∙ omega arith)
        where
          same : (u : ℕ) → u < k → T (has s u && not (eqb u v)) ↔ T (has s u)
          same u _ = (and_left (has s u) (not (eqb u v)), λ i. and_both (has s u) (not (eqb u v)) i (not_T (eqb u v) (λ e. n (rw (eqb→eq u v e) at i))))

  -- a vertex that is not in it is added, and one that is subtracted
  pub with_new : (v : ℕ) → v < k → (T (has s v) → ⊥) → with_vertex k s v ≡ 2 ^ v + s
  with_new v l n = with_or v l ∙ or_with s v n

  pub without_old : (v : ℕ) → T (has s v) → without_vertex k s v ≡ s - 2 ^ v
  without_old v h = without_or v ∙ or_without s v h
