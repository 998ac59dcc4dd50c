-- The vertices of a set at which a test holds, found one by one, the lowest first: `set_where k (λ u. has m u && p u)`, for a set m of vertices below k.
use mathlib.Core.Bool.{Bool, true, false, ◌&&◌, or_assoc as either-assoc}
use mathlib.Core.Logic.{◌↔◌, ◌⊎◌, inl, inr, ⊎_elim}
use mathlib.Core.Path.{◌≡◌, ap, sym, refl, ◌∙◌}
use Prim.Native.Nat.{ℕ, ◌-◌, ◌^◌, ◌≤◌, ◌<◌}
use native.Mathlib.Omega.{arith}
use lib.Bits.{bit_and, bit_or, or_zero_r, or_comm}
use lib.Dec.{T}
use Rattle.kep.specs.Sets.{has, counted, set_where, Part}
use Rattle.kep.specs.inner.Lowest.{lowest}
use Rattle.kep.proofs.Tests.{and_iff, and_left, or_cases, or_left, or_right}
use Rattle.kep.proofs.SetLaws.{not_in_empty, same_bits, same_set, has_below, lowest_is, empty_set}
use Rattle.kep.proofs.Parts.{has_or, has_and, part_le, part_trans}
use Rattle.kep.proofs.Vertices.{in_where, in_power, in_without, with_without, or_with}
use Rattle.kep.proofs.Operations.{or_holds}
use Rattle.kep.proofs.SetLoops.{where_reach}
use Rattle.kep.proofs.Down.{step_part}
use Rattle.kep.proofs.LowestBit.{lowest_out}

-- ---- unions, and what is counted where a test passes

pub in_or : (a b u : ℕ) → T (has (bit_or a b) u) ↔ (T (has a u) ⊎ T (has b u))
in_or a b u = rw (has_or a b u) (or_cases (has a u) (has b u), ⊎_elim (or_left (has a u) (has b u)) (or_right (has a u) (has b u)))

pub or_assoc : (a b c : ℕ) → bit_or (bit_or a b) c ≡ bit_or a (bit_or b c)
or_assoc a b c = same_bits (bit_or (bit_or a b) c) (bit_or a (bit_or b c)) (λ u. simp has_or (either-assoc (has a u) (has b u) (has c u)))

pub in_counted : (b : Bool) (a v : ℕ) → T (has (counted b a) v) ↔ (T b × T (has a v))
in_counted true a v = (λ h. (tt, h), λ h. h.1)
in_counted false a v = (λ h. absurd (not_in_empty v h), λ h. absurd h.0)

-- ---- the vertices of m that pass

abbrev pub sift : ℕ → (ℕ → Bool) → ℕ → ℕ
sift k p m = set_where k (λ u. has m u && p u)

module _ (k : ℕ) (p : ℕ → Bool) where
  pub in_sift : (m u : ℕ) → T (has (sift k p m) u) ↔ ((u < k) × T (has m u) × T (p u))
  in_sift m u =
      let r = in_where k (λ u. has m u && p u) u in
      let q = and_iff (has m u) (p u) in
      (λ h. let (l, t) = r.0 h in (l, (q.0 t).0, (q.0 t).1), λ (l, i, t). r.1 (l, q.1 (i, t)))

  pub sift_none : sift k p 0 ≡ 0
  sift_none = empty_set (sift k p 0) (λ u h. not_in_empty u ((in_sift 0 u).0 h).1)

  -- one vertex more
  pub sift_more : (m v : ℕ) → v < k → sift k p (bit_or m (2 ^ v)) ≡ bit_or (sift k p m) (counted (p v) (2 ^ v))
  sift_more m v l = same_set (sift k p (bit_or m (2 ^ v))) (bit_or (sift k p m) (counted (p v) (2 ^ v))) (λ u. (to u, from u))
    where
      to : (u : ℕ) → T (has (sift k p (bit_or m (2 ^ v))) u) → T (has (bit_or (sift k p m) (counted (p v) (2 ^ v))) u)
      to u h =
          let (b, i, t) = (in_sift (bit_or m (2 ^ v)) u).0 h in
          (in_or (sift k p m) (counted (p v) (2 ^ v)) u).1
          (⊎_elim (λ j. inl ((in_sift m u).1 (b, j, t))) (λ j. inr ((in_counted (p v) (2 ^ v) u).1 (rw ((in_power v u).0 j) at t, j))) ((in_or m (2 ^ v) u).0 i))

      from : (u : ℕ) → T (has (bit_or (sift k p m) (counted (p v) (2 ^ v))) u) → T (has (sift k p (bit_or m (2 ^ v))) u)
      from u h =
          ⊎_elim (λ j. let (b, i, t) = (in_sift m u).0 j in (in_sift (bit_or m (2 ^ v)) u).1 (b, (in_or m (2 ^ v) u).1 (inl i), t))
          (λ j. let (t, i) = (in_counted (p v) (2 ^ v) u).0 j in let e = (in_power v u).0 i in (in_sift (bit_or m (2 ^ v)) u).1 (rw e l, (in_or m (2 ^ v) u).1 (inr i), rw e t))
          ((in_or (sift k p m) (counted (p v) (2 ^ v)) u).0 h)

  -- fewer vertices
  pub sift_fewer : {r m : ℕ} → Part r m → bit_and (sift k p m) r ≡ sift k p r
  sift_fewer {r} {m} part = same_set (bit_and (sift k p m) r) (sift k p r) (λ u.
      let a = and_iff (has (sift k p m) u) (has r u) in (
        λ h. let (i, j) = a.0 (rw (has_and (sift k p m) r u) at h) in let (l, _, t) = (in_sift m u).0 i in (in_sift r u).1 (l, j, t),
        λ h. let (l, j, t) = (in_sift r u).0 h in rw (has_and (sift k p m) r u) (a.1 ((in_sift m u).1 (l, part.within u j, t), j)),
      ))

-- a test that agrees on m
pub sift_same : (k m : ℕ) (p q : ℕ → Bool) → ((u : ℕ) → T (has m u) → p u ≡ q u) → sift k p m ≡ sift k q m
sift_same k m p q same = same_set (sift k p m) (sift k q m) (λ u. (
  λ h. let (l, i, t) = (in_sift k p m u).0 h in (in_sift k q m u).1 (l, i, rw (same u i) at t),
  λ h. let (l, i, t) = (in_sift k q m u).0 h in (in_sift k p m u).1 (l, i, rw (same u i) t),
))

-- how wide it is makes no difference
pub sift_wide : (j k m : ℕ) (p : ℕ → Bool) → m < 2 ^ j → m < 2 ^ k → sift j p m ≡ sift k p m
sift_wide j k m p a b = where_reach j k (λ u. has m u && p u) (λ u t. let i = and_left (has m u) (p u) t in (has_below j m u a i, has_below k m u b i))

-- ---- the loop: with what is found of the vertices left, what is found comes to all

pub record Sifting (k : ℕ) (p : ℕ → Bool) (m left found : ℕ) : Type 0 where
  pub inside : Part left m
  pub comes : bit_or found (sift k p left) ≡ sift k p m

module _ {k : ℕ} {p : ℕ → Bool} {m : ℕ} where
  pub sifting_done : {left found : ℕ} → left ≡ 0 → Sifting k p m left found → found ≡ sift k p m
  sifting_done {left} {found} z h = sym (or_zero_r found) ∙ ap (bit_or found) (sym (ap (sift k p) z ∙ sift_none k p)) ∙ h.comes

  -- what is found is no more than m
  pub sifting_le : {left found : ℕ} → Sifting k p m left found → found ≤ m
  sifting_le {left} {found} h =
      let within : Part (sift k p m) m = record { within = λ u t. ((in_sift k p m u).0 t).1 } in
      let sum : bit_or (sift k p left) found ≡ sift k p m = or_comm (sift k p left) found ∙ h.comes in
      omega (arith, part_le within, or_holds (sift k p left) found)

  module _ {left found : ℕ} (some : 0 < left) (h : Sifting k p m left found) where
    -- the vertex of a turn
    pub turn_in : T (has m (lowest left))
    turn_in = h.inside.within (lowest left) (lowest_is left some).is_in

    pub sifting_turn : m < 2 ^ k → {next : ℕ} → next ≡ bit_or found (counted (p (lowest left)) (2 ^ lowest left)) → Sifting k p m (bit_and (left - 1) left) next
    sifting_turn b e = record { inside = part_trans (step_part left left) h.inside; comes = rw (e, or_assoc) (ap (bit_or found) united ∙ h.comes) }
      where
        rest : ℕ
        rest = bit_and (left - 1) left

        whole : bit_or (left - 2 ^ lowest left) (2 ^ lowest left) ≡ left
        whole =
            let i = (lowest_is left some).is_in in
            or_with (left - 2 ^ lowest left) (lowest left) (λ t. ((in_without left (lowest left) (lowest left) i).0 t).1 refl) ∙ with_without left (lowest left) i

        united : bit_or (counted (p (lowest left)) (2 ^ lowest left)) (sift k p (bit_and (left - 1) left)) ≡ sift k p left
        united =
            or_comm (counted (p (lowest left)) (2 ^ lowest left)) (sift k p (bit_and (left - 1) left))
            ∙ rw (lowest_out left some) (sym (sift_more k p (left - 2 ^ lowest left) (lowest left) (has_below k m (lowest left) b turn_in)) ∙ ap (sift k p) whole)
