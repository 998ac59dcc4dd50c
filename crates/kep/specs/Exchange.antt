-- What may be in a solution of the restricted kidney exchange problem, (Lc, Lp)-KEP, of Xiao and Wang (001), told in lists of vertices. Quotes are from 001.
use Rattle.std.specs.Prelude.{Bool, true, false, ◌&&◌, ◌||◌, List, [], ◌∷◌, ◌++◌, ℕ, zero, suc, length, leb, ltb}
use Rattle.kep.specs.Lists.{all, distinct}
use Rattle.kep.specs.Graph.{Graph, is_altruist, is_member}

-- x gives to the first of the list, and each of the list to the next
unfoldable pub walk : Graph → ℕ → List ℕ → Bool
walk g x [] = true
walk g x (y ∷ ys) = elim (g.arc x y) [ true ↦ walk g y ys | false ↦ false ]

-- the last of a list that begins with x
unfoldable pub last_of : ℕ → List ℕ → ℕ
last_of x [] = x
last_of x (y ∷ ys) = last_of y ys

-- a cycle (01: ring): 1 to lc different members, each giving to the next and the last to the first. "A directed cycle of length at most Lc" (Definition 1);
-- "the number of vertices in a cycle is the length of the cycle", and self-loops are allowed
unfoldable pub is_cycle : Graph → ℕ → List ℕ → Bool
is_cycle g lc [] = false
is_cycle g lc (x ∷ xs) =
    leb (length (x ∷ xs)) lc && all (is_member g) (x ∷ xs) && distinct (x ∷ xs) && walk g x xs && g.arc (last_of x xs) x

-- a chain: one altruist followed by 1 to lp different members, each giving to the next. "A directed path starting from an altruistic vertex of length at most
-- Lp" (Definition 1); it "terminates at a normal vertex", and its length is "the number of non-altruistic vertices in the chain"
unfoldable pub is_chain : Graph → ℕ → List ℕ → Bool
is_chain g lp [] = false
is_chain g lp (x ∷ xs) =
    is_altruist g x && leb 1 (length xs) && leb (length xs) lp && all (is_member g) xs && distinct xs && walk g x xs

-- a "packing unit of (Lc, Lp)-KEP" (Definition 1)
unfoldable pub is_exchange : Graph → ℕ → ℕ → List ℕ → Bool
is_exchange g lc lp xs = is_cycle g lc xs || is_chain g lp xs

-- ---- where a list begins

-- a list with its first vertex put last until it begins at its lowest, at most k times
unfoldable pub turned_by : ℕ → List ℕ → List ℕ
turned_by zero xs = xs
turned_by (suc k) [] = []
turned_by (suc k) (x ∷ xs) = elim (all (λ y. ltb x y) xs) [ true ↦ x ∷ xs | false ↦ turned_by k (xs ++ x ∷ []) ]

-- a cycle turned round to begin at its lowest vertex (a chain begins there already: altruists have the lowest numbers)
unfoldable pub turned : List ℕ → List ℕ
turned xs = turned_by (length xs) xs

-- the first of a list
unfoldable pub head_of : List ℕ → ℕ
head_of [] = 0
head_of (x ∷ xs) = x
