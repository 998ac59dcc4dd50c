-- A turn of pass one: the lowest vertex left of m is looked at, by the givers and the table that code has.
use mathlib.Core.Bool.{Bool, not}
use mathlib.Core.List.{List}
use mathlib.Core.Path.{◌≡◌, refl, ap, ◌∙◌}
use Prim.Native.Nat.{ℕ, ◌+◌, ◌-◌, ◌^◌, ◌≤◌, ◌<◌}
use native.Mathlib.Nat.{pos_of_ne-zero}
use native.Mathlib.Omega.{arith}
use lib.Bits.{bit_and, bit_or}
use lib.Count.{ones}
use lib.Dec.{eqb}
use lib.ListN.{length, get_or}
use Rattle.std.proofs.Common.{Some, None}
use Rattle.exchanges.specs.declared.filling.Filling.{Filling}
use Rattle.kep.specs.inner.Lowest.{lowest}
use Rattle.pool.specs.Value.{graph_of}
use Rattle.kep.specs.inner.Filling.{ends, comes}
use Rattle.exchanges.specs.inner.ByLowest.{Known}
use Rattle.exchanges.specs.inner.Abreast.{bit_where}
use Rattle.exchanges.specs.inner.Vertices.{Takes}
use Rattle.kep.proofs.SetLaws.{has_below}
use Rattle.kep.proofs.Parts.{part_le}
use Rattle.kep.proofs.Told.{none_told, some_told}
use Rattle.kep.proofs.LowestBit.{lowest_le, lowest_out, ones_lowest}
use Rattle.kep.proofs.Sifting.{sift, sift_same, sift_wide, Sifting, turn_in, sifting_turn, sifting_done}
use Rattle.pool.proofs.ValueLaws.{entries_few}
use Rattle.exchanges.proofs.Given.{fits, few, known_length, known_givers}

-- does a path on s without v end at a giver of v?
unfoldable pub is_open : List ℕ → List ℕ → ℕ → ℕ → Bool
is_open gs table s v = not (eqb (bit_and (get_or table (s - 2 ^ v) 0) (get_or gs v 0)) 0)

-- ---- what a turn takes of the vertices left

-- each turn takes one vertex
pub one_taken : {left rest : ℕ} {p : ℕ × ℕ} → Takes left (Some p) rest → ones left ≡ ones rest + 1
one_taken {left} t = rw t.leaves (ones_lowest left (pos_of_ne-zero (some_told _ t.tells refl).0))

-- ---- the loop over m, a set of the pool's vertices

module _ (f : Filling) {m : ℕ} (b : m < 2 ^ f.pool.size) where
  wide : m < 2 ^ 64
  wide = omega (arith, entries_few f.pool (fits f))

  module _ (table : List ℕ) (s : ℕ) {left found rest : ℕ} {p : ℕ × ℕ} (h : Sifting 64 (is_open f.givers table s) m left found) (t : Takes left (Some p) rest) where
    some : 0 < left
    some = pos_of_ne-zero (some_told _ t.tells refl).0

    bit_is : p.0 ≡ 2 ^ lowest left
    bit_is = ap (λ (q : ℕ × ℕ). q.0) (some_told _ t.tells refl).1

    vertex_is : p.1 ≡ lowest left
    vertex_is = ap (λ (q : ℕ × ℕ). q.1) (some_told _ t.tells refl).1

    -- the vertex has its givers
    pub vertex : p.1 < length f.givers
    vertex = omega (arith, vertex_is, has_below f.pool.size m (lowest left) b (turn_in some h), few f, known_length f)

    pub bit_inside : p.0 ≤ m
    bit_inside = omega (arith, bit_is, lowest_le left some, part_le h.inside)

    pub look : {from : ℕ} → from ≡ s - p.0
        → Sifting 64 (is_open f.givers table s) m rest (bit_or found (bit_where (bit_and (get_or table from 0) (get_or f.givers p.1 0)) p.0))
    unfolding is_open
    look e = rw (t.leaves, ← lowest_out left some) (sifting_turn some h wide (rw (e, vertex_is, bit_is)))

  -- after the last: where the table holds the ends on the sets without a vertex of m
  pub looked : {table : List ℕ} {s left found rest : ℕ} → Known (graph_of f.pool) s m table → Sifting 64 (is_open f.givers table s) m left found → Takes left None rest
      → found ≡ sift f.pool.size (comes (graph_of f.pool) (ends (graph_of f.pool)) s) m
  unfolding is_open comes
  looked {table} {s} smaller h t =
      sifting_done (none_told _ t.tells refl) h
      ∙ sift_wide 64 f.pool.size m (is_open f.givers table s) wide b
      ∙ sift_same f.pool.size m (is_open f.givers table s) (comes (graph_of f.pool) (ends (graph_of f.pool)) s)
      (λ u i. rw (smaller.each u i, known_givers f u (has_below f.pool.size m u b i)))
