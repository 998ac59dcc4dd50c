-- What the inner contracts of the exchange table say: scaffolding, nothing a reader must believe.
use Rattle.std.specs.Prelude.{Bool, true, false, Option, Some, None, List, ◌≡◌, ℕ, suc, ◌+◌, ◌-◌, ◌%◌, ◌^◌, ◌≤◌, ◌<◌, T, leb, get_or}
use Rattle.std.specs.Int.Bits.{bit_and}
use Rattle.std.specs.Int.Count.{ones}
use Rattle.pool.specs.declared.value.Pool.{Pool}
use Rattle.pool.specs.declared.limits.Limits.{Limits}
use Rattle.pool.specs.Value.{graph_of}
use Rattle.kep.specs.Graph.{Graph, is_altruist}
use Rattle.kep.specs.Sets.{has, counted}
use Rattle.kep.specs.computed.Table.{entry}
use Rattle.kep.specs.inner.Filling.{ends}

-- the table holds the ends of paths on s without a vertex of m
pub record Known (g : Graph) (s m : ℕ) (table : List ℕ) : Type 0 where
  pub each : (v : ℕ) → T (has m v) → get_or table (s - 2 ^ v) 0 ≡ ends g (s - 2 ^ v)

-- l is the lowest vertex of s
pub record Begins (l s : ℕ) : Type 0 where
  pub remainder : s % 2 ^ suc l ≡ 2 ^ l

-- a set of two vertices or more that begins at l and has at most cap
pub record Allowed (l cap s : ℕ) : Type 0 where
  pub begins : Begins l s
  pub more : 2 ^ l < s
  pub fits : ones s ≤ cap

-- the next that does
pub record Next (l cap s next : ℕ) : Type 0 where
  pub further : s < next
  pub begins : Begins l next
  pub few : ones next ≤ cap
  pub many : (i : ℕ) → s < i → i < next → Begins l i → cap < ones i

-- the sets that begin at l have the ends of their paths, or nothing yet
pub record Held (filled : Bool) (g : Graph) (l n : ℕ) (table : List ℕ) : Type 0 where
  pub each : (s : ℕ) → s < n → Begins l s → get_or table s 0 ≡ counted filled (ends g s)

-- the ends of the paths on s, if it has at most cap vertices
unfoldable pub ends_within : Graph → ℕ → ℕ → ℕ
ends_within g cap s = counted (leb (ones s) cap) (ends g s)

-- the closing set, if there is no limit, or s has at most so many vertices
abbrev pub closing_at : Option ℕ → ℕ → ℕ → ℕ
closing_at None closing s = closing
closing_at (Some most) closing s = counted (leb (ones s) most) closing

-- what the table has of it
abbrev pub kept_of : Option ℕ → ℕ → List ℕ → ℕ → ℕ
kept_of most closing table s = bit_and (get_or table s 0) (closing_at most closing s)

-- the entry of a set by a pool and its limits
abbrev pub entry_of : Pool → Limits → ℕ → ℕ
entry_of p l = entry (graph_of p) l.cycle l.chain

-- how many vertices an exchange that begins at l may have: Lp counts the members of a chain, and not its altruist
unfoldable pub limit_at : Graph → ℕ → ℕ → ℕ → ℕ
limit_at g lc lp l = elim (is_altruist g l) [ true ↦ lp + 1 | false ↦ lc ]

-- the vertices that an exchange which begins at l may end at
pub record Closes (g : Graph) (lc lp l closing : ℕ) : Type 0 where
  pub each : (s : ℕ) → Begins l s → entry g lc lp s ≡ counted (leb (ones s) (limit_at g lc lp l)) (bit_and (ends g s) closing)
