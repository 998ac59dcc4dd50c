-- Limits: each 0 to 14.
use Rattle.std.specs.Prelude.{Bool, true, false, ◌&&◌, [], ◌∷◌, ℕ, ◌+◌, leb}
use Rattle.pool.specs.declared.limits.Limits.{Limits}
use Rattle.pool.specs.Refusals.{Outcome, accepted, tested}

-- the limits of two numbers
abbrev pub limits_of : ℕ → ℕ → Limits
limits_of cycle chain = record { cycle = cycle; chain = chain }

-- 7: a limit above 14
abbrev pub limits_fit : Limits → Bool
limits_fit l = leb l.cycle 14 && leb l.chain 14

-- the most vertices of an exchange: the altruist of a chain and Lp members behind it, Lc of a cycle
abbrev pub most_vertices : Limits → Bool → ℕ
most_vertices l of_chain = elim of_chain [ true ↦ l.chain + 1 | false ↦ l.cycle ]

-- the test of limits by themselves
unfoldable pub test_limits : Limits → Outcome Limits
test_limits l = tested ((7, limits_fit l) ∷ []) 0 (accepted l)
