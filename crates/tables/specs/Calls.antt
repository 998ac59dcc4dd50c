-- What the call that fills the best table tells and leaves.
use Rattle.std.specs.Prelude.{Bool, not, List, [], ◌∷◌, ℕ, ◌^◌, eqb, leb, length, get_or}
use Rattle.pool.specs.declared.value.Pool.{Pool}
use Rattle.kep.specs.Lists.{written_to}
use Rattle.kep.specs.Sets.{worth_of}
use Rattle.pool.specs.Refusals.{Outcome, accepted, tested, left_by}
use Rattle.pool.specs.Value.{graph_of, weeks_in, pool_fits}
use Rattle.tables.specs.declared.best.BestFilled.{BestFilled}
use Rattle.kep.specs.Table.{member_worth, member_weeks}
use Rattle.kep.specs.Trying.{tried_over}
use Rattle.kep.specs.computed.Table.{best}

-- as marked is taken every set with a nonzero entry in the lent exchange table, whatever that holds
abbrev pub marked : List ℕ → ℕ → Bool
marked exchanges s = not (eqb (get_or exchanges s 0) 0)

-- what a vertex of the pool is worth: a member 65,536 and the weeks that it has waited, an altruist nothing
abbrev pub worth_in : Pool → ℕ → ℕ
worth_in p v = member_weeks (graph_of p) (weeks_in p) v

-- what a set is worth: "members × 65,536 + weeks"
abbrev pub set_worth : Pool → ℕ → ℕ
set_worth p s = worth_of (worth_in p) p.size s

-- the members in a set
abbrev pub members_held : Pool → ℕ → ℕ
members_held p s = worth_of (member_worth (graph_of p)) p.size s

-- the parts tried over all sets, where the best of a set is the most members that disjoint marked sets inside it can hold
unfoldable pub best_tried : Pool → List ℕ → ℕ
best_tried p exchanges = tried_over (members_held p) (best (members_held p) (marked exchanges)) (marked exchanges) (2 ^ p.size)

-- 6: a pool value that does not fit; 8, 9: a table under 2 to the n entries
abbrev pub best_tests : Pool → List ℕ → List ℕ → List (ℕ × Bool)
best_tests p exchanges table = (6, pool_fits p) ∷ (8, leb (2 ^ p.size) (length exchanges)) ∷ (9, leb (2 ^ p.size) (length table)) ∷ []

-- the entries written, and the parts tried
unfoldable pub best_outcome : Pool → List ℕ → List ℕ → Outcome BestFilled
best_outcome p exchanges table = tested (best_tests p exchanges table) 0 (accepted (record { entries = 2 ^ p.size; tried = best_tried p exchanges }))

-- every set's entry: the greatest members × 65,536 + weeks that disjoint marked sets inside it can hold
unfoldable pub best_left : Pool → List ℕ → List ℕ → List ℕ
best_left p exchanges table =
    left_by (best_outcome p exchanges table) (λ _. written_to (best (set_worth p) (marked exchanges)) (2 ^ p.size) table) table
