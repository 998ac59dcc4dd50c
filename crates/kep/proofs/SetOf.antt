-- The set of a list of different vertices: what is in it, how many, and how wide it is.
use mathlib.Core.List.Memᴰ
use mathlib.Core.List.Permᴰ
use mathlib.Core.List.{List, Memᴰ, [], ◌∷◌, Permᴰ, ◌++◌}
use mathlib.Core.Logic.{◌↔◌, ⊎_elim, inl, inr}
use mathlib.Core.Path.{◌≡◌, refl, ◌∙◌, ap, sym}
use Prim.Native.Nat.{ℕ, suc, ◌<◌, ◌^◌, ◌≤◌, ◌+◌}
use lib.Count.{ones, ones-le}
use lib.Dec.{T}
use lib.ListN.{length}
use Rattle.kep.specs.Lists.{distinct, Each, total}
use Rattle.kep.specs.Sets.{has, set_of, Part}
use Rattle.kep.proofs.Each.{each_at, each_of}
use Rattle.kep.proofs.ListLaws.{distinct_iff, distinct_rest}
use Rattle.kep.proofs.Permutations.{total_perm}
use Rattle.kep.proofs.SetLaws.{not_in_empty, bits_lt}
use Rattle.kep.proofs.Vertices.{in_with, ones_with}

-- a vertex is in the set of different vertices where it is in the list
pub has_set_of : (xs : List ℕ) → T (distinct xs) → (u : ℕ) → T (has (set_of xs) u) ↔ Memᴰ u xs
unfolding set_of
has_set_of [] d u = (λ h. absurd (not_in_empty u h), λ m. absurd (Memᴰ.not-nil m))
has_set_of (x ∷ xs) d u =
    let (new, rest) = (distinct_iff x xs).0 d in
    let (to, from) = in_with (set_of xs) x u (λ h. new ((has_set_of xs rest x).0 h)) in (
      λ h. ⊎_elim (λ e. Memᴰ.head e) (λ t. Memᴰ.tail ((has_set_of xs rest u).0 t)) (to h),
      λ m. from (⊎_elim (λ e. inl e) (λ n. inr ((has_set_of xs rest u).1 n)) (Memᴰ.cases_cons m)),
    )

-- the first of different vertices is not in the set of the others
pub set_of_new : (x : ℕ) (xs : List ℕ) → T (distinct (x ∷ xs)) → T (has (set_of xs) x) → ⊥
set_of_new x xs d h = let (new, rest) = (distinct_iff x xs).0 d in new ((has_set_of xs rest x).0 h)

-- it has as many vertices as the list
pub ones_set_of : (xs : List ℕ) → T (distinct xs) → ones (set_of xs) ≡ length xs
unfolding set_of ones
ones_set_of [] d = refl
ones_set_of (x ∷ xs) d = ones_with (set_of xs) x (set_of_new x xs d) ∙ ap suc (ones_set_of xs (distinct_rest x xs d))

-- numbers below n make a set below 2 ^ n, and are at most n
pub set_of_lt : (n : ℕ) (xs : List ℕ) → T (distinct xs) → Each (λ v. v < n) xs → set_of xs < 2 ^ n
set_of_lt n xs d b = bits_lt n (set_of xs) (λ v t. each_at b ((has_set_of xs d v).0 t))

pub below_length : (n : ℕ) (xs : List ℕ) → T (distinct xs) → Each (λ v. v < n) xs → length xs ≤ n
below_length n xs d b = rw (← ones_set_of xs d) (ones-le n (set_of xs) (set_of_lt n xs d b))

-- it is a part of a set that has every vertex of the list
pub set_of_part : (xs : List ℕ) {U : ℕ} → T (distinct xs) → Each (λ v. T (has U v)) xs → Part (set_of xs) U
set_of_part xs d h = record { within = λ v t. each_at h ((has_set_of xs d v).0 t) }

pub part_set_of : (xs : List ℕ) {U : ℕ} → T (distinct xs) → Part (set_of xs) U → Each (λ v. T (has U v)) xs
part_set_of xs d h = each_of xs (λ v m. h.within v ((has_set_of xs d v).1 m))

-- the order of the list makes no difference
set_of_total : (xs : List ℕ) → set_of xs ≡ total (λ x. 2 ^ x) xs
unfolding set_of total
set_of_total [] = refl
set_of_total (x ∷ xs) = ap (λ (s : ℕ). 2 ^ x + s) (set_of_total xs)

pub set_of_perm : {xs ys : List ℕ} → Permᴰ xs ys → set_of xs ≡ set_of ys
set_of_perm {xs} {ys} p = set_of_total xs ∙ total_perm (λ x. 2 ^ x) p ∙ sym (set_of_total ys)

-- a last vertex counts as a first
pub set_of_snoc : (xs : List ℕ) (v : ℕ) → set_of (xs ++ v ∷ []) ≡ 2 ^ v + set_of xs
unfolding set_of
set_of_snoc xs v = set_of_perm (Permᴰ.append_comm xs (v ∷ []))
