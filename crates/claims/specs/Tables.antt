-- Tables that hold their meaning.
use Rattle.std.specs.Prelude.{List, ◌↔◌, ◌≢◌, ◌≡◌, ℕ, ◌/◌, ◌%◌, ◌^◌, ◌<◌, T, length, get_or, drop}
use Rattle.pool.specs.declared.value.Pool.{Pool}
use Rattle.pool.specs.declared.limits.Limits.{Limits}
use Rattle.kep.specs.Sets.{has, set_of, worth_of}
use Rattle.kep.specs.Exchange.{is_exchange}
use Rattle.kep.specs.Table.{CanEnd, weeks_worth, per_member, MostHeld}
use Rattle.pool.specs.Value.{graph_of, weeks_in}
use Rattle.tables.specs.Calls.{marked, members_held}

-- An exchange table of the pool p under the limits l; `old` is what stood there before.
pub record ExchangeTable (p : Pool) (l : Limits) (old table : List ℕ) : Type 0 where
  -- A set is marked exactly where a ring, begun anywhere, or a chain uses precisely that set.
  pub marks : (s : ℕ) → s < 2 ^ p.size → (get_or table s 0 ≢ 0) ↔ ((xs : List ℕ) × T (is_exchange (graph_of p) l.cycle l.chain xs) × (set_of xs ≡ s))
  -- Its entry is the set of places that can stand last in an exchange that uses exactly s and begins at the lowest place of s.
  pub ends : (s : ℕ) → s < 2 ^ p.size → (v : ℕ) → T (has (get_or table s 0) v) ↔ CanEnd (graph_of p) l.cycle l.chain s v
  -- The empty set and a lone house have 0.
  pub none : get_or table 0 0 ≡ 0
  pub lone_house : (a : ℕ) → a < p.altruists → get_or table (2 ^ a) 0 ≡ 0
  -- All beyond the entries is untouched.
  pub beyond : drop (2 ^ p.size) table ≡ drop (2 ^ p.size) old
  pub as_long : length table ≡ length old

-- the weeks that the members of a set have waited
abbrev pub weeks_held : Pool → ℕ → ℕ
weeks_held p s = worth_of (weeks_worth (graph_of p) (weeks_in p)) p.size s

-- A best table of the pool p over the marks of an exchange table.
pub record BestTable (p : Pool) (exchanges old table : List ℕ) : Type 0 where
  -- The entry of s is members × 65,536 + weeks: divided by 65,536 it is the most members that pairwise disjoint, nonempty sets inside s, all marked, can hold,
  -- and the remainder is the most weeks that those which hold so many can hold.
  pub entries : (s : ℕ) → s < 2 ^ p.size → MostHeld (members_held p) (weeks_held p) (marked exchanges) s (get_or table s 0 / per_member) (get_or table s 0 % per_member)
  -- All beyond the entries is untouched.
  pub beyond : drop (2 ^ p.size) table ≡ drop (2 ^ p.size) old
  pub as_long : length table ≡ length old
