-- The search for the exchange that a step of choosing takes, on plain numbers and lists: what it reads, keeps, finds and writes. Scaffolding of inner contracts: nothing here has to be believed.
use Rattle.std.specs.Prelude.{Bool, true, false, not, ◌&&◌, List, ◌∷◌, ◌++◌, ◌≢◌, ◌≡◌, ℕ, ◌+◌, ◌-◌, ◌^◌, ◌≤◌, ◌<◌, T, eqb, length, get_or, drop, set, Option, Some, None}
use Rattle.std.specs.Int.Bits.{bit_and}
use Rattle.sets.specs.declared.vertex_set.VertexSet.{VertexSet}
use Rattle.kep.specs.Sets.{has, Part, counted, set_of, with_vertex, without_vertex}
use Rattle.kep.specs.Exchange.{last_of}
use Rattle.kep.specs.inner.Paths.{Field, Completes, Completable, Leftmost}
use Rattle.clearing.specs.declared.seeking.Step.{Step}

-- what all paths of a step go by
pub record Ways : Type 0 where
  pub gives : List ℕ
  pub exchanges : List ℕ
  pub best : List ℕ
  pub free : ℕ
  pub goal : ℕ

abbrev pub ways_of : Step → Ways
ways_of s = record { gives = s.gives.now; exchanges = s.exchanges.now; best = s.best.now; free = s.free.0; goal = s.goal.0 }

-- a path on the set may end at the vertices of the exchange table, where the best of the set and of what it leaves come to that of the free vertices
unfoldable pub ends_of : Ways → ℕ → ℕ
ends_of w path =
    counted (eqb (get_or w.best path 0 + get_or w.best (w.free - path) 0) (get_or w.best w.free 0)) (get_or w.exchanges path 0)

abbrev pub field_of : Ways → Field
field_of w = record { arc = λ u v. has (get_or w.gives u 0) v; free = w.free; ends = ends_of w }

-- what failed: the table holds, by the set of a path on free vertices, vertices v such that the path that went on to v cannot be completed
pub record DeadEnds (f : Field) (dead : List ℕ) : Type 0 where
  pub sound : (path v : ℕ) → Part path f.free → 0 < path → T (has (get_or dead path 0) v) → Completable f (2 ^ v + path) v → ⊥

-- the vertices to try next from u on, but what failed; none where no more may follow or no vertex of the goal is left
unfoldable pub open_at : Ways → List ℕ → ℕ → ℕ → ℕ → ℕ
open_at w dead path u more =
    let on = bit_and (get_or w.gives u 0) (w.free - path) in
    counted (not (eqb more 0) && not (eqb (bit_and w.goal (w.free - path)) 0)) (on - bit_and (get_or dead path 0) on)

-- one more is kept where the path may not end at u
abbrev pub kept_dead : Bool → List ℕ → ℕ → ℕ → List ℕ
kept_dead true dead path u = dead
kept_dead false dead path u = let before = without_vertex 16 path u in set dead before (with_vertex 16 (get_or dead before 0) u)

-- a search from u on changes the entries of sets that hold its path, and of the set that the path came from, alone
pub record KeptBut (path u : ℕ) (dead dead' : List ℕ) : Type 0 where
  pub same : (S : ℕ) → (Part path S → ⊥) → S ≢ path - 2 ^ u → get_or dead' S 0 ≡ get_or dead S 0

-- what a search from u on may rest on: at most `more` vertices follow, and where some do, the last is one of the goal
pub record Entering (w : Ways) (dead : List ℕ) (path u more : ℕ) : Type 0 where
  pub part : Part path w.free
  pub last : T (has path u)
  pub short : (ys : List ℕ) → Completes (field_of w) path u ys → length ys ≤ more
  pub aims : (v : ℕ) (ys : List ℕ) → Completes (field_of w) path u (v ∷ ys) → T (has w.goal (last_of v ys))
  pub failed : DeadEnds (field_of w) dead

-- what a search tells and writes: nothing completes the path, or this does, the leftmost way
pub data Sought (f : Field) (path u : ℕ) (bytes : List ℕ) (told : Option VertexSet) (written : List ℕ) : Type 0 where
  nowhere : told ≡ None → written ≡ bytes → (Completable f path u → ⊥) → Sought f path u bytes told written
  found :
      {ys : List ℕ} → Completes f path u ys → Leftmost f path u ys
      → told ≡ Some (record { 0 = set_of ys + path }) → written ≡ ys ++ drop (length ys) bytes → Sought f path u bytes told written
