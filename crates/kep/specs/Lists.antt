-- What the definitions need of lists.
use Rattle.std.specs.Prelude.{Bool, true, false, List, [], ◌∷◌, ◌++◌, ℕ, zero, suc, ◌+◌, eqb, ltb, take, drop}

-- The tests recurse by `elim` and not by `&&`, so that evaluation stops where the result is known.

-- does the test hold of every number of the list?
unfoldable pub all : (ℕ → Bool) → List ℕ → Bool
all p [] = true
all p (x ∷ xs) = elim (p x) [ true ↦ all p xs | false ↦ false ]

-- is x in the list?
unfoldable pub elem : ℕ → List ℕ → Bool
elem x [] = false
elem x (y ∷ ys) = elim (eqb x y) [ true ↦ true | false ↦ elem x ys ]

-- no number twice
unfoldable pub distinct : List ℕ → Bool
distinct [] = true
distinct (x ∷ xs) = elim (elem x xs) [ true ↦ false | false ↦ distinct xs ]

-- those of the list that pass the test, in their order
unfoldable pub keep : {A : Type 0} → (A → Bool) → List A → List A
keep p [] = []
keep p (x ∷ xs) = elim (p x) [ true ↦ x ∷ keep p xs | false ↦ keep p xs ]

-- k numbers from `from` on
unfoldable pub upto : ℕ → ℕ → List ℕ
upto zero from = []
upto (suc k) from = from ∷ upto k (suc from)

-- the sum of what each number is worth
unfoldable pub total : (ℕ → ℕ) → List ℕ → ℕ
total w [] = 0
total w (x ∷ xs) = w x + total w xs

-- the list of the values of a function: f 0, f 1, .. f (k - 1)
unfoldable pub tabulate : (ℕ → ℕ) → ℕ → List ℕ
tabulate f zero = []
tabulate f (suc k) = tabulate f k ++ (f k ∷ [])

-- a table of which the first k entries were written with the values of f
abbrev pub written_to : (ℕ → ℕ) → ℕ → List ℕ → List ℕ
written_to f k table = tabulate f k ++ drop k table

-- k records of w bytes, from the front
unfoldable pub cut : ℕ → ℕ → List ℕ → List (List ℕ)
cut w zero bytes = []
cut w (suc k) bytes = take w bytes ∷ cut w k (drop w bytes)

-- P holds of each
pub data Each {A : Type 0} (P : A → Type 0) : List A → Type 0 where
  none : Each P []
  also : {x : A} {xs : List A} → P x → Each P xs → Each P (x ∷ xs)

-- each stands in R to all that come after it
pub data Pairwise {A : Type 0} (R : A → A → Type 0) : List A → Type 0 where
  nil : Pairwise R []
  cons : {x : A} {xs : List A} → Each (R x) xs → Pairwise R xs → Pairwise R (x ∷ xs)

-- ---- lists of lists, and the order of bytes

-- lists joined
unfoldable pub flat : List (List ℕ) → List ℕ
flat [] = []
flat (x ∷ xs) = x ++ flat xs

-- one list of bytes comes before another or is the same: at the first differing byte, the smaller
unfoldable pub before : List ℕ → List ℕ → Bool
before [] ys = true
before (x ∷ xs) [] = false
before (x ∷ xs) (y ∷ ys) = elim (ltb x y) [ true ↦ true | false ↦ elim (eqb x y) [ true ↦ before xs ys | false ↦ false ] ]
