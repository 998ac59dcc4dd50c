-- How many parts of a set are tried when its entry of the best table is filled, and over all sets (document 02, P4).
use Rattle.std.specs.Prelude.{Bool, true, false, ◌&&◌, List, [], ◌∷◌, ℕ, zero, suc, ◌+◌, ◌-◌, eqb}
use Rattle.std.specs.Int.Bits.{bit_and}
use Rattle.kep.specs.Lists.{keep}

-- k, k - 1, .. 1
unfoldable pub down_from : ℕ → List ℕ
down_from zero = []
down_from (suc k) = suc k ∷ down_from k

-- "a set's nonempty parts .. from the set itself down by number"
unfoldable pub falling_parts : ℕ → List ℕ
falling_parts s = keep (λ t. eqb (bit_and t s) t) (down_from s)

-- how many of a list are tried: "the last tried is the first that" passes a test; "where there is none, all are tried"
unfoldable pub tried_of : (ℕ → Bool) → List ℕ → ℕ
tried_of ends [] = 0
tried_of ends (t ∷ ts) = elim (ends t) [ true ↦ 1 | false ↦ suc (tried_of ends ts) ]

-- for any worth of sets (their members), the most that marked sets inside a set can hold (its best), and marks
module _ (worth best : ℕ → ℕ) (marked : ℕ → Bool) where
  -- the part t of s is "marked and, with the best of the rest, serves every member in the set"
  unfoldable pub serves_all : ℕ → ℕ → Bool
  serves_all s t = marked t && eqb (worth t + best (s - t)) (worth s)

  -- the parts of s that are tried; "a set without members tries none"
  unfoldable pub tried : ℕ → ℕ
  tried s = elim (eqb (worth s) 0) [ true ↦ 0 | false ↦ tried_of (serves_all s) (falling_parts s) ]

  -- "over all sets": the k sets below k
  unfoldable pub tried_over : ℕ → ℕ
  tried_over zero = 0
  tried_over (suc k) = tried_over k + tried k
