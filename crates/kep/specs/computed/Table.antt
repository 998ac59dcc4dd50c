-- The two tables, worked out. `entry_holds_ends`, `best_is_attained` and `best_is_bound` (claims) say what the entries mean.
use Rattle.std.specs.Prelude.{Bool, true, false, not, ◌&&◌, List, [], ◌∷◌, ℕ, zero, suc, ◌+◌, ◌-◌, ◌^◌, max, eqb}
use Rattle.std.specs.Int.Bits.{bit_and}
use Rattle.kep.specs.Lists.{keep, upto}
use Rattle.kep.specs.computed.Arrangements.{arrangements}
use Rattle.kep.specs.Graph.{Graph}
use Rattle.kep.specs.Exchange.{is_exchange, last_of}
use Rattle.kep.specs.Sets.{set_of, set_where, worth_of}
use Rattle.kep.specs.Table.{lowest_first}

-- ---- the exchange table

-- the exchanges, each told once, from its lowest vertex on; in the order of the lists, so by rising first vertex
unfoldable pub exchanges : Graph → ℕ → ℕ → List (List ℕ)
exchanges g lc lp = keep (λ xs. is_exchange g lc lp xs && lowest_first xs) (arrangements g.size (upto g.size 0))

-- does the list end at v?
unfoldable pub ends_at : ℕ → List ℕ → Bool
ends_at v [] = false
ends_at v (x ∷ xs) = eqb (last_of x xs) v

-- is there any?
unfoldable pub some : {A : Type 0} → List A → Bool
some [] = false
some (x ∷ xs) = true

-- the entry of s: the vertices that can stand last in an exchange that uses exactly s and begins at the lowest vertex of s
unfoldable pub entry : Graph → ℕ → ℕ → ℕ → ℕ
entry g lc lp s = set_where g.size (λ v. some (keep (λ xs. eqb (set_of xs) s && ends_at v xs) (exchanges g lc lp)))

-- a set is marked where its entry is not 0
unfoldable pub marks : Graph → ℕ → ℕ → ℕ → Bool
marks g lc lp s = not (eqb (entry g lc lp s) 0)

-- ---- the best table, for any worth v of sets and any marks m

-- the nonempty marked parts of s
unfoldable pub marked_parts : (ℕ → Bool) → ℕ → List ℕ
marked_parts m s = keep (λ t. m t && eqb (bit_and t s) t) (upto s 1)

-- the greatest value of f over a list, 0 if the list is empty
unfoldable pub greatest_of : (ℕ → ℕ) → List ℕ → ℕ
greatest_of f [] = 0
greatest_of f (x ∷ xs) = max (f x) (greatest_of f xs)

-- the most that at most k pairwise disjoint nonempty marked parts of s are worth together
unfoldable pub most : (ℕ → ℕ) → (ℕ → Bool) → ℕ → ℕ → ℕ
most v m zero s = 0
most v m (suc k) s = greatest_of (λ t. v t + most v m k (s - t)) (marked_parts m s)

-- the entry of s: the most that any number of them are worth (there are at most s of them: each takes 1 from s)
unfoldable pub best : (ℕ → ℕ) → (ℕ → Bool) → ℕ → ℕ
best v m s = most v m s s

-- the best table over the marks of the exchange table, for the worth w of a vertex
abbrev pub best_of : (ℕ → ℕ) → Graph → ℕ → ℕ → ℕ → ℕ
best_of w g lc lp s = best (worth_of w g.size) (marks g lc lp) s

-- the set of all vertices
abbrev pub everything : Graph → ℕ
everything g = 2 ^ g.size - 1
