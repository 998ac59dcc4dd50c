-- Lists of different numbers, listed: what the definition of the exchanges goes through.
use Rattle.std.specs.Prelude.{true, false, List, [], ◌∷◌, ◌++◌, map, ℕ, zero, suc, eqb}

-- the lists that a function gives for each number, joined
unfoldable pub concat_map : {A : Type 0} → (ℕ → List A) → List ℕ → List A
concat_map f [] = []
concat_map f (x ∷ xs) = f x ++ concat_map f xs

-- the list without the first x in it
unfoldable pub remove : ℕ → List ℕ → List ℕ
remove x [] = []
remove x (y ∷ ys) = elim (eqb x y) [ true ↦ ys | false ↦ y ∷ remove x ys ]

-- every list of at most k of the numbers given that repeats none, in the order of the lists
unfoldable pub arrangements : ℕ → List ℕ → List (List ℕ)
arrangements zero left = [] ∷ []
arrangements (suc k) left = [] ∷ concat_map (λ x. map (λ xs. x ∷ xs) (arrangements k (remove x left))) left
