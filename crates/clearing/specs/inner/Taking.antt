-- One step of choosing: what it goes by, the exchange that it takes from the lowest free vertex on, and its record. Scaffolding of
-- inner contracts: nothing here has to be believed.
use Rattle.std.specs.Prelude.{Bool, true, false, List, ◌∷◌, ◌≡◌, ℕ, ◌-◌, ◌^◌, ◌<◌, T, ltb, get_or, take, Option, Some, None}
use Rattle.pool.specs.declared.value.Pool.{Pool}
use Rattle.pool.specs.declared.limits.Limits.{Limits}
use Rattle.kep.specs.Lists.{tabulate}
use Rattle.kep.specs.Graph.{Graph, givers}
use Rattle.pool.specs.Limits.{limits_fit}
use Rattle.kep.specs.Sets.{Part, set_of}
use Rattle.kep.specs.inner.Lowest.{lowest}
use Rattle.pool.specs.Value.{graph_of, pool_fits}
use Rattle.clearing.specs.declared.step.Taken.{Taken}
use Rattle.kep.specs.computed.Table.{entry, best_of}
use Rattle.tables.specs.Calls.{worth_in}
use Rattle.kep.specs.Plan.{record_of}
use Rattle.kep.specs.inner.Paths.{Field, Completes, Completable, Leftmost}
use Rattle.clearing.specs.inner.Seeking.{Ways, field_of}

-- tables that hold their meaning at the front
pub record TablesHold (p : Pool) (l : Limits) (exchanges best : List ℕ) : Type 0 where
  pub exchanges_hold : take (2 ^ p.size) exchanges ≡ tabulate (entry (graph_of p) l.cycle l.chain) (2 ^ p.size)
  pub best_hold : take (2 ^ p.size) best ≡ tabulate (best_of (worth_in p) (graph_of p) l.cycle l.chain) (2 ^ p.size)

-- what the choice of a plan goes by
pub record Choosing (p : Pool) (l : Limits) (givers_of exchanges best : List ℕ) : Type 0 where
  pub fits : T (pool_fits p)
  pub fitting_limits : T (limits_fit l)
  pub givers_are : givers_of ≡ tabulate (givers (graph_of p)) 14
  pub hold : TablesHold p l exchanges best

-- nothing has failed yet on the free vertices
pub record Clean (free : ℕ) (dead : List ℕ) : Type 0 where
  pub none : (S : ℕ) → Part S free → 0 < S → get_or dead S 0 ≡ 0

-- the most vertices that may follow the first, by whether that is an altruist: lp in a chain, one less than lc in a cycle
abbrev pub more_by : Bool → ℕ → ℕ → ℕ
more_by true cycle chain = chain
more_by false cycle chain = cycle - 1

-- the vertices at which an exchange may end: any in a chain, in a cycle the givers of its first vertex
abbrev pub goal_by : Bool → ℕ → ℕ
goal_by true givers_of = 65535
goal_by false givers_of = givers_of

-- the step from the lowest free vertex on
abbrev pub pool_ways : Pool → List ℕ → List ℕ → ℕ → Ways
pool_ways p exchanges best free =
    let first = lowest free in
    record { gives = p.gives; exchanges = exchanges; best = best; free = free; goal = goal_by (ltb first p.altruists) (givers (graph_of p) first) }

abbrev pub pool_field : Pool → List ℕ → List ℕ → ℕ → Field
pool_field p exchanges best free = field_of (pool_ways p exchanges best free)

-- what a step tells: nothing completes the lowest free vertex, or this does, the leftmost way
pub data Stepped (g : Graph) (f : Field) (told : Option Taken) : Type 0 where
  nothing : told ≡ None → (Completable f (2 ^ lowest f.free) (lowest f.free) → ⊥) → Stepped g f told
  first :
      {ys : List ℕ} → Completes f (2 ^ lowest f.free) (lowest f.free) ys → Leftmost f (2 ^ lowest f.free) (lowest f.free) ys
      → told ≡ Some (record { set = record { 0 = set_of (lowest f.free ∷ ys) }; bytes = record_of g (lowest f.free ∷ ys) }) → Stepped g f told
