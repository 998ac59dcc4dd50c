-- Laws of the tests on lists of numbers. A number x is in a list xs where `T (elem x xs)`, that is where `Memᴰ x xs`.
use mathlib.Core.Bool.{Bool, ◌&&◌, ◌||◌, not, and-true, true, and_assoc, or-false, false, or_assoc}
use mathlib.Core.List.Memᴰ
use mathlib.Core.List.{List, ◌∷◌, Memᴰ, [], ◌++◌}
use mathlib.Core.Logic.{◌↔◌, ⊎_elim, ◌⊎◌, ◌≢◌, inl, inr}
use mathlib.Core.Path.{◌≡◌, refl, ap, sym, ◌∙◌}
use Prim.Native.Nat.{ℕ, ◌+◌, zero, suc, ◌≤◌, ◌<◌, zero-le}
use native.Mathlib.Nat.{eq-or-lt_of_le, zero-add}
use native.Mathlib.Omega.{arith}
use lib.Dec.{eqb, T, eqb→eq, T_not, not_T}
use lib.ListN.{length}
use Rattle.std.specs.List.{list_all}
use Rattle.kep.specs.Lists.{all, elem, distinct, Each, none, also, upto}
use Rattle.kep.proofs.Tests.{if_and, if_or, if_not, or_cases, or_left, eq→eqb, or_right, and_left, and_right, and_both, and_iff, eqb_sym, is_true, is_false}
use Rattle.kep.proofs.Each.{each_of, each_at}

-- ---- the tests by their clauses, at the front

-- as the library has it
pub all_list : (p : ℕ → Bool) (xs : List ℕ) → list_all p xs ≡ all p xs
unfolding all
all_list p [] = refl
all_list p (x ∷ xs) = go (p x) (all_list p xs)
  where
    go : (b : Bool) → list_all p xs ≡ all p xs → (b && list_all p xs) ≡ (elim b as (λ _. Bool) [ true ↦ all p xs | false ↦ false ])
    go true ih = ih
    go false ih = refl

pub all_cons : (p : ℕ → Bool) (x : ℕ) (xs : List ℕ) → all p (x ∷ xs) ≡ (p x && all p xs)
unfolding all
all_cons p x xs = if_and (p x) (all p xs)

pub elem_cons : (u x : ℕ) (xs : List ℕ) → elem u (x ∷ xs) ≡ (eqb u x || elem u xs)
unfolding elem
elem_cons u x xs = if_or (eqb u x) (elem u xs)

pub distinct_cons : (x : ℕ) (xs : List ℕ) → distinct (x ∷ xs) ≡ (not (elem x xs) && distinct xs)
unfolding distinct
distinct_cons x xs = if_not (elem x xs) (distinct xs)

-- ---- what the tests say

pub elem_iff : (x : ℕ) (xs : List ℕ) → T (elem x xs) ↔ Memᴰ x xs
unfolding elem
elem_iff x xs = (to xs, from)
  where
    to : (ys : List ℕ) → T (elem x ys) → Memᴰ x ys
    to [] t = absurd t
    to (y ∷ ys) t = ⊎_elim (λ e. Memᴰ.head (eqb→eq x y e)) (λ r. Memᴰ.tail (to ys r)) (or_cases (eqb x y) (elem x ys) (rw elem_cons at t))

    from : {ys : List ℕ} → Memᴰ x ys → T (elem x ys)
    from (Memᴰ.head {x = y} {xs = ys} e) = rw elem_cons (or_left (eqb x y) (elem x ys) (eq→eqb x y e))
    from (Memᴰ.tail {x = y} {xs = ys} m) = rw elem_cons (or_right (eqb x y) (elem x ys) (from m))

-- a test of all is that test of each
pub all_each : (p : ℕ → Bool) (xs : List ℕ) → T (all p xs) → Each (λ x. T (p x)) xs
all_each p [] h = none
all_each p (x ∷ xs) h =
    let k : T (p x && all p xs) = rw all_cons at h in
    also (and_left (p x) (all p xs) k) (all_each p xs (and_right (p x) (all p xs) k))

pub each_all : (p : ℕ → Bool) {xs : List ℕ} → Each (λ x. T (p x)) xs → T (all p xs)
unfolding all
each_all p none = tt
each_all p (also {x = x} {xs = xs} h hs) = rw all_cons (and_both (p x) (all p xs) h (each_all p hs))

-- ---- no number twice: the first is not among the rest, and the rest repeats none

pub distinct_iff : (x : ℕ) (xs : List ℕ) → T (distinct (x ∷ xs)) ↔ ((Memᴰ x xs → ⊥) × T (distinct xs))
distinct_iff x xs = (
  λ d. let (new, rest) = (and_iff (not (elem x xs)) (distinct xs)).0 (rw distinct_cons at d) in (λ m. T_not (elem x xs) new ((elem_iff x xs).1 m), rest),
  λ h. rw distinct_cons (and_both (not (elem x xs)) (distinct xs) (not_T (elem x xs) (λ t. h.0 ((elem_iff x xs).0 t))) h.1),
)

-- x is not in xs
abbrev pub Apart : ℕ → List ℕ → Type 0
Apart x xs = Each (λ y. x ≢ y) xs

pub distinct_first : (x : ℕ) (xs : List ℕ) → T (distinct (x ∷ xs)) → Apart x xs
distinct_first x xs d = each_of xs (λ y m e. ((distinct_iff x xs).0 d).0 (Memᴰ.cast e m))

pub distinct_rest : (x : ℕ) (xs : List ℕ) → T (distinct (x ∷ xs)) → T (distinct xs)
distinct_rest x xs d = ((distinct_iff x xs).0 d).1

pub distinct_more : (x : ℕ) (xs : List ℕ) → Apart x xs → T (distinct xs) → T (distinct (x ∷ xs))
distinct_more x xs h k = (distinct_iff x xs).1 (λ m. each_at h m refl, k)

-- of two lists: each repeats none, and they have none in common
pub distinct_append :
    (xs ys : List ℕ) → T (distinct (xs ++ ys)) ↔ (T (distinct xs) × T (distinct ys) × ((v : ℕ) → Memᴰ v xs → Memᴰ v ys → ⊥))
unfolding distinct
distinct_append [] ys = (λ d. (tt, d, λ v m n. Memᴰ.not-nil m), λ h. h.1)
distinct_append (x ∷ xs) ys = (to (distinct_append xs ys).0, from (distinct_append xs ys).1)
  where
    ApartLists : List ℕ → Type 0
    ApartLists zs = T (distinct zs) × T (distinct ys) × ((v : ℕ) → Memᴰ v zs → Memᴰ v ys → ⊥)

    to : (T (distinct (xs ++ ys)) → ApartLists xs) → T (distinct (x ∷ (xs ++ ys))) → ApartLists (x ∷ xs)
    to rest d =
        let (new, d') = (distinct_iff x (xs ++ ys)).0 d in
        let (dx, dy, apart) = rest d' in (
          (distinct_iff x xs).1 (λ m. new (Memᴰ.append_left ys m), dx),
          dy,
          λ v m n. ⊎_elim (λ e. new (Memᴰ.append_right xs (Memᴰ.cast (sym e) n))) (λ m'. apart v m' n) (Memᴰ.cases_cons m),
        )

    from : (ApartLists xs → T (distinct (xs ++ ys))) → ApartLists (x ∷ xs) → T (distinct (x ∷ (xs ++ ys)))
    from rest (dx, dy, apart) =
        let (new, dx') = (distinct_iff x xs).0 dx in
        (distinct_iff x (xs ++ ys)).1 (
          λ m. ⊎_elim new (apart x (Memᴰ.head refl)) (Memᴰ.append_cases xs m),
          rest (dx', dy, λ v m n. apart v (Memᴰ.tail m) n),
        )

pub distinct_append_right : (xs ys : List ℕ) → T (distinct (xs ++ ys)) → T (distinct ys)
distinct_append_right xs ys d = ((distinct_append xs ys).0 d).1

-- ---- at the end

-- a list is empty, or one with a last
pub from_end : (xs : List ℕ) → (xs ≡ []) ⊎ ((ys : List ℕ) × (v : ℕ) × (xs ≡ ys ++ v ∷ []))
from_end [] = inl refl
from_end (x ∷ xs) = inr (go (from_end xs))
  where
    go : (xs ≡ []) ⊎ ((ys : List ℕ) × (v : ℕ) × (xs ≡ ys ++ v ∷ [])) → (ys : List ℕ) × (v : ℕ) × (x ∷ xs ≡ ys ++ v ∷ [])
    go (inl e) = ([], x, ap (λ (l : List ℕ). x ∷ l) e)
    go (inr t) = (x ∷ t.0, t.1, ap (λ (l : List ℕ). x ∷ l) t.2)

pub all_snoc : (p : ℕ → Bool) (xs : List ℕ) (v : ℕ) → all p (xs ++ v ∷ []) ≡ (all p xs && p v)
all_snoc p [] v = unfold all in all_cons p v [] ∙ and-true (p v)
all_snoc p (x ∷ xs) v = rw (all_cons p x (xs ++ v ∷ []), all_snoc p xs v, all_cons p x xs) (sym (and_assoc (p x) (all p xs) (p v)))

elem_snoc : (u : ℕ) (xs : List ℕ) (v : ℕ) → elem u (xs ++ v ∷ []) ≡ (elem u xs || eqb u v)
elem_snoc u [] v = unfold elem in elem_cons u v [] ∙ or-false (eqb u v)
elem_snoc u (x ∷ xs) v = rw (elem_cons u x (xs ++ v ∷ []), elem_snoc u xs v, elem_cons u x xs) (sym (or_assoc (eqb u x) (elem u xs) (eqb u v)))

pub distinct_snoc : (xs : List ℕ) (v : ℕ) → distinct (xs ++ v ∷ []) ≡ (distinct xs && not (elem v xs))
distinct_snoc [] v = unfold distinct elem in refl
distinct_snoc (x ∷ xs) v =
    rw (distinct_cons x (xs ++ v ∷ []), elem_snoc x xs v, distinct_snoc xs v, distinct_cons x xs, elem_cons v x xs, eqb_sym v x)
    (regroup (elem x xs) (eqb x v) (distinct xs) (elem v xs))
  where
    regroup : (a e d b : Bool) → (not (a || e) && (d && not b)) ≡ (not a && d && not (e || b))
    regroup true e d b = refl
    regroup false true true b = refl
    regroup false true false b = refl
    regroup false false true b = refl
    regroup false false false b = refl

-- ---- the numbers from one on

pub upto_length : (k from : ℕ) → length (upto k from) ≡ k
unfolding upto
upto_length zero from = refl
upto_length (suc k) from = ap suc (upto_length k (suc from))

pub upto_out : (k from : ℕ) {x : ℕ} → Memᴰ x (upto k from) → (from ≤ x) × (x < from + k)
unfolding upto
upto_out zero from m = absurd (Memᴰ.not-nil m)
upto_out (suc k) from {x} m =
    ⊎_elim
    (λ (e : x ≡ from). let r : (from ≤ x) × (x < from + suc k) = omega arith in r)
    (λ n. let r = upto_out k (suc from) n in omega arith)
    (Memᴰ.cases_cons m)

pub upto_in : (k from x : ℕ) → from ≤ x → x < from + k → Memᴰ x (upto k from)
unfolding upto
upto_in zero from x l h = absurd (omega arith)
upto_in (suc k) from x l h =
    ⊎_elim (λ (e : from ≡ x). Memᴰ.head (sym e)) (λ m. Memᴰ.tail (upto_in k (suc from) x m (omega arith))) (eq-or-lt_of_le l)

-- a test of the numbers below k
pub all_below_lem : (p : ℕ → Bool) (k : ℕ) → T (all p (upto k 0)) ↔ ((x : ℕ) → x < k → T (p x))
all_below_lem p k = (
  λ t x h. each_at (all_each p (upto k 0) t) (upto_in k 0 x zero-le (rw zero-add h)),
  λ f. each_all p (each_of (upto k 0) (λ x m. f x (rw zero-add at (upto_out k 0 m).1))),
)

-- as a loop finds it: none fails, or one does
pub none_fails : (p : ℕ → Bool) (k : ℕ) → ((x : ℕ) → x < k → T (p x)) → true ≡ all p (upto k 0)
none_fails p k f = sym (is_true (all p (upto k 0)) ((all_below_lem p k).1 f))

pub one_fails : (p : ℕ → Bool) (k : ℕ) {x : ℕ} → x < k → (T (p x) → ⊥) → false ≡ all p (upto k 0)
one_fails p k {x} h n = sym (is_false (all p (upto k 0)) (λ t. n ((all_below_lem p k).0 t x h)))
