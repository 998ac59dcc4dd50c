-- Walks: at the front, at the end, and where they end.
use mathlib.Core.Bool.{◌&&◌, and-true, and_assoc}
use mathlib.Core.List.Memᴰ
use mathlib.Core.List.{List, ◌∷◌, ◌++◌, [], Memᴰ}
use mathlib.Core.Logic.{◌↔◌, ◌⊎◌, inl, inr}
use mathlib.Core.Path.{◌≡◌, ◌∙◌, sym, refl}
use Prim.Native.Nat.{ℕ, ◌<◌, ◌≤◌}
use native.Mathlib.Omega.{arith}
use lib.Dec.{T, ltb→lt, ltb, lt→ltb}
use Rattle.kep.specs.Lists.{Each, distinct}
use Rattle.kep.specs.Graph.{Graph}
use Rattle.kep.specs.Exchange.{walk, last_of}
use Rattle.kep.specs.Sets.{set_of}
use Rattle.kep.specs.Table.{lowest_first}
use Rattle.kep.proofs.Tests.{if_and, and_iff}
use Rattle.kep.proofs.Each.{each_map, each_at}
use Rattle.kep.proofs.ListLaws.{all_each, each_all, all_snoc}
use Rattle.kep.proofs.SetLaws.{IsLowest}
use Rattle.kep.proofs.SetOf.{has_set_of}

module _ (g : Graph) where
  pub walk_cons : (x y : ℕ) (ys : List ℕ) → walk g x (y ∷ ys) ≡ (g.arc x y && walk g y ys)
  unfolding walk
  walk_cons x y ys = if_and (g.arc x y) (walk g y ys)

  pub walk_iff : (x y : ℕ) (ys : List ℕ) → T (walk g x (y ∷ ys)) ↔ (T (g.arc x y) × T (walk g y ys))
  walk_iff x y ys = rw walk_cons (and_iff (g.arc x y) (walk g y ys))

  pub walk_snoc : (x : ℕ) (ys : List ℕ) (v : ℕ) → walk g x (ys ++ v ∷ []) ≡ (walk g x ys && g.arc (last_of x ys) v)
  unfolding last_of
  walk_snoc x [] v = unfold walk in walk_cons x v [] ∙ and-true (g.arc x v)
  walk_snoc x (y ∷ ys) v =
      rw (walk_cons x y (ys ++ v ∷ []), walk_snoc y ys v, walk_cons x y ys) (sym (and_assoc (g.arc x y) (walk g y ys) (g.arc (last_of y ys) v)))

pub last_cons : (x y : ℕ) (ys : List ℕ) → last_of x (y ∷ ys) ≡ last_of y ys
unfolding last_of
last_cons x y ys = refl

pub last_snoc : (x : ℕ) (ys : List ℕ) (v : ℕ) → last_of x (ys ++ v ∷ []) ≡ v
unfolding last_of
last_snoc x [] v = refl
last_snoc x (y ∷ ys) v = last_snoc y ys v

-- the last of a list is in it
pub last_in : (x : ℕ) (xs : List ℕ) → Memᴰ (last_of x xs) (x ∷ xs)
unfolding last_of
last_in x [] = Memᴰ.head refl
last_in x (y ∷ ys) = Memᴰ.tail (last_in y ys)

-- ---- lists that begin at their lowest vertex

-- x is lower than each number of xs
abbrev pub Lower : ℕ → List ℕ → Type 0
Lower x xs = Each (λ y. x < y) xs

pub lowest_first_lower : (x : ℕ) (xs : List ℕ) → T (lowest_first (x ∷ xs)) → Lower x xs
unfolding lowest_first
lowest_first_lower x xs h = each_map (λ y. ltb→lt x y) (all_each (λ y. ltb x y) xs h)

pub lower_lowest_first : (x : ℕ) {xs : List ℕ} → Lower x xs → T (lowest_first (x ∷ xs))
unfolding lowest_first
lower_lowest_first x h = each_all (λ y. ltb x y) (each_map (λ y. lt→ltb x y) h)

pub lowest_first_snoc : (x : ℕ) (ys : List ℕ) (v : ℕ) → lowest_first (x ∷ (ys ++ v ∷ [])) ≡ (lowest_first (x ∷ ys) && ltb x v)
unfolding lowest_first
lowest_first_snoc x ys v = all_snoc (λ y. ltb x y) ys v

-- such a list begins at the lowest vertex of its set
pub first_lowest : (x : ℕ) (xs : List ℕ) → T (distinct (x ∷ xs)) → T (lowest_first (x ∷ xs)) → IsLowest (set_of (x ∷ xs)) x
first_lowest x xs d r =
    record { is_in = (has_set_of (x ∷ xs) d x).1 (Memᴰ.head refl); least = λ u h. go u (Memᴰ.cases_cons ((has_set_of (x ∷ xs) d u).0 h)) }
  where
    go : (u : ℕ) → (u ≡ x) ⊎ Memᴰ u xs → x ≤ u
    go u (inl e) = omega arith
    go u (inr m) = omega (arith, each_at (lowest_first_lower x xs r) m)
