use mathlib.Core.Bool.{false}
use mathlib.Core.List.{List}
use mathlib.Core.Path.{◌≡◌, ap, sym, ◌∙◌}
use Prim.Native.Nat.{ℕ, suc, ◌+◌, ◌*◌, ◌≤◌, ◌<◌, ◌^◌}
use native.Mathlib.Nat.{pos_of_ne-zero}
use native.Mathlib.Omega.{arith}
use Rattle.exchanges.specs.declared.filling.Filling.{Filling}
use lib.ListN.{length, length-set, set}
use lib.Pow.{pow-lt}
use Rattle.kep.specs.Graph.{Graph}
use Rattle.pool.specs.Value.{graph_of}
use Rattle.pool.proofs.ValueLaws.{entries_few}
use Rattle.exchanges.proofs.Given.{fits}
use Rattle.exchanges.specs.inner.ByLowest.{Begins, Allowed, Held, ends_within}
use Rattle.exchanges.specs.inner.Changed.{Changed}
use Rattle.exchanges.proofs.Changed.{changed_end}
use Rattle.exchanges.proofs.Keeping.{lowest_of}
use Rattle.exchanges.proofs.ByLowest.{begun_none, none_more, second_set, none_between, next_allowed, Alone, alone_put, put_changed, begun_start, begun_known, begun_more}
use Rattle.exchanges.proofs.by_lowest.SetsFrom.fill_allowed.Goals as goal

-- the vertex alone
record Begun (g : Graph) (l n cap : ℕ) (d : List ℕ) : Type 0 where
  pub room : 2 ^ n ≤ length (set d (2 ^ l) (2 ^ l))
  pub alone : Alone g l (2 ^ n) cap (set d (2 ^ l) (2 ^ l))

begun : (f : Filling) {l cap : ℕ} {d : List ℕ} → l < f.pool.size → 2 ^ f.pool.size ≤ length d → Held false (graph_of f.pool) l (2 ^ f.pool.size) d → (cap ≡ 0 → ⊥)
    → Begun (graph_of f.pool) l f.pool.size cap d
begun f {l} {cap} {d} h room held some = record {
  room = simp length-set room;
  alone = alone_put (graph_of f.pool) l f.pool.size cap d h room held (pos_of_ne-zero some);
}

-- a set in its turn
record Turn (g : Graph) (l n cap : ℕ) (d : List ℕ) (s : ℕ) (t : List ℕ) : Type 0 where
  pub small : s < 2 ^ n
  pub allowed : Allowed l cap s
  pub filled : Changed (λ i. (i < 2 ^ n) × Begins l i) s (ends_within g cap) (set d (2 ^ l) (2 ^ l)) t

turn : {g : Graph} {l n cap first : ℕ} {d : List ℕ} {s : ℕ} {t : List ℕ} → first ≡ 2 ^ l → s < 2 ^ n
    → (s < 2 ^ n → Allowed l cap s) × Changed (λ i. (i < 2 ^ n) × Begins l i) s (ends_within g cap) (set d first first) t → Turn g l n cap d s t
turn e small (allowed, filled) = record { small = small; allowed = allowed small; filled = rw e at filled }

pub bounds-table-first : goal.bounds-table-first
bounds-table-first c = omega (arith, pow-lt c.args.self.now.in_pool)

pub returns-then-most-eq0 : goal.returns-then-most-eq0
returns-then-most-eq0 c =
    let f = c.args.self.now.filling.now in
    rw c.if-most-eq0.true (begun_none (graph_of f.pool) c.args.self.now.low (2 ^ f.pool.size) c.requires.held)

pub returns-then-most-eq1 : goal.returns-then-most-eq1
returns-then-most-eq1 c =
    let a = c.args in
    let f = a.self.now.filling.now in
    let l = a.self.now.low in
    let b = begun f c.args.self.now.in_pool c.requires.room c.requires.held c.if-most-eq0.false in
    rw c.first-first.ensures (put_changed (graph_of f.pool) l f.pool.size a.most a.table.now c.args.self.now.in_pool
    (changed_end (2 ^ f.pool.size) (begun_start (graph_of f.pool) l f.pool.size a.most b.room b.alone (2 ^ f.pool.size) (λ i m k s. none_more c.if-most-eq1.true m s)) (omega arith)))

pub loop-set-init : goal.loop-set-init
loop-set-init c =
    let a = c.args in
    let f = a.self.now.filling.now in
    let b = begun f c.args.self.now.in_pool c.requires.room c.requires.held c.if-most-eq0.false in
    let l = a.self.now.low in
    let e : 3 * 2 ^ l ≡ 2 ^ l + 2 ^ suc l = omega arith in
    rw c.first-first.ensures (
      (λ _. second_set e (omega (arith, c.if-most-eq0.false, c.if-most-eq1.false))),
      begun_start (graph_of f.pool) l f.pool.size a.most b.room b.alone (3 * 2 ^ l) (none_between e),
    )

pub path_ends-found-requires-clause-first_is_lowest : goal.path_ends-found-requires-clause-first_is_lowest
path_ends-found-requires-clause-first_is_lowest c =
    let s = turn c.first-first.ensures (omega arith) c.loop-set.invariant in
    c.first-first.ensures ∙ ap (λ (v : ℕ). 2 ^ v) (sym (lowest_of s.allowed.begins))

pub path_ends-found-requires-clause-smaller_known : goal.path_ends-found-requires-clause-smaller_known
path_ends-found-requires-clause-smaller_known c =
    let a = c.args in
    let f = a.self.now.filling.now in
    let b = begun f c.args.self.now.in_pool c.requires.room c.requires.held c.if-most-eq0.false in
    let s = turn c.first-first.ensures (omega arith) c.loop-set.invariant in
    rw c.first-first.ensures (begun_known (graph_of f.pool) a.self.now.low f.pool.size a.most b.room b.alone s.small s.allowed s.filled)

pub next_allowed-set-requires-clause-small : goal.next_allowed-set-requires-clause-small
next_allowed-set-requires-clause-small c = let f = c.args.self.now.filling.now in omega (arith, entries_few f.pool (fits f))

pub loop-set-preserved : goal.loop-set-preserved
loop-set-preserved c =
    let a = c.args in
    let f = a.self.now.filling.now in
    let b = begun f c.args.self.now.in_pool c.requires.room c.requires.held c.if-most-eq0.false in
    let s = turn c.first-first.ensures (omega arith) c.loop-set.invariant in
    let found = c.path_ends-found.ensures in
    let next = c.next_allowed-set.ensures a.self.now.low c.first-first.ensures found.vertices s.allowed in (
      λ _. next_allowed s.allowed next,
      rw c.first-first.ensures (begun_more (graph_of f.pool) a.self.now.low f.pool.size a.most b.room b.alone s.small s.allowed s.filled found.ends next),
    )

pub returns : goal.returns
returns c =
    let a = c.args in
    let f = a.self.now.filling.now in
    put_changed (graph_of f.pool) a.self.now.low f.pool.size a.most a.table.now c.args.self.now.in_pool
    (changed_end (2 ^ f.pool.size) (rw c.first-first.ensures at c.loop-set.invariant.1) (omega (arith, c.loop-set-test.false)))
