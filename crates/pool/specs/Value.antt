-- A pool as a value: its graph, and what is refused by 6.
use Rattle.std.specs.Prelude.{Bool, not, ◌&&◌, ◌||◌, List, [], ◌∷◌, ℕ, leb, ltb, get_or, replicate}
use Rattle.pool.specs.declared.value.Pool.{Pool}
use Rattle.kep.specs.Lists.{all, upto}
use Rattle.kep.specs.Sets.{has, counted}
use Rattle.kep.specs.Graph.{Graph}
use Rattle.pool.specs.Refusals.{Outcome, accepted, tested}

-- the compatibility graph of a pool value: u has an arc to v where both are places and v is in the set that u gives to
abbrev pub graph_of : Pool → Graph
graph_of p = record {
  size = p.size;
  altruists = p.altruists;
  arc = λ u v. ltb u p.size && ltb v p.size && has (get_or p.gives u 0) v;
}

-- the pool with no place
abbrev pub empty_pool : Pool
empty_pool = record { size = 0; altruists = 0; gives = replicate 14 0; weeks = replicate 14 0 }

-- the weeks that a place has waited
abbrev pub weeks_in : Pool → ℕ → ℕ
weeks_in p v = get_or p.weeks v 0

-- ---- 6: over 14 places, more houses than places, arc into a house or from or to a place that isn't there; weeks above 999, or other than 0 for a place
-- that isn't there

-- an arc from u to v is one from a place that is there to a member that is there
abbrev pub arc_allowed : ℕ → ℕ → ℕ → ℕ → Bool
arc_allowed size altruists u v = ltb u size && leb altruists v && ltb v size

-- every arc from u is; a set has room for 16 places
unfoldable pub takers_fit : ℕ → ℕ → List ℕ → ℕ → Bool
takers_fit size altruists gives u = all (λ v. not (has (get_or gives u 0) v) || arc_allowed size altruists u v) (upto 16 0)

-- every arc is; a value has room for 14 places
unfoldable pub arcs_fit : ℕ → ℕ → List ℕ → Bool
arcs_fit size altruists gives = all (takers_fit size altruists gives) (upto 14 0)

-- the most weeks that a place may have waited
abbrev pub most_weeks_waited : ℕ
most_weeks_waited = 999

-- none has waited longer, and what isn't there has not waited
unfoldable pub weeks_fit : ℕ → List ℕ → Bool
weeks_fit size weeks = all (λ v. leb (get_or weeks v 0) (counted (ltb v size) most_weeks_waited)) (upto 14 0)

-- a pool value that is one
abbrev pub pool_fits : Pool → Bool
pool_fits p = leb p.size 14 && leb p.altruists p.size && arcs_fit p.size p.altruists p.gives && weeks_fit p.size p.weeks

-- the test of a pool value by itself
unfoldable pub test_pool : Pool → Outcome Pool
test_pool p = tested ((6, pool_fits p) ∷ []) 0 (accepted p)
