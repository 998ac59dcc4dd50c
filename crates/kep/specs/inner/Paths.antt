-- Paths that go on from the lowest free vertex, and the leftmost way to complete them: what the choice of an exchange searches. Scaffolding
-- of inner contracts and of the theory: nothing here has to be believed.
use Rattle.std.specs.Prelude.{Bool, List, [], ◌∷◌, ℕ, ◌+◌, ◌^◌, ◌<◌, T}
use Rattle.kep.specs.Sets.{has}

-- what they go by: the arcs, the free vertices, and by the set of a path the vertices at which it may end
pub record Field : Type 0 where
  pub arc : ℕ → ℕ → Bool
  pub free : ℕ
  pub ends : ℕ → ℕ

-- v may come next: u gives to it, and it is free and not on the path
pub record Next (f : Field) (path u v : ℕ) : Type 0 where
  pub arc : T (f.arc u v)
  pub free : T (has f.free v)
  pub new : T (has path v) → ⊥

-- the vertices may come next one after the other, and the path may end where they end
abbrev pub Completes : Field → ℕ → ℕ → List ℕ → Type 0
Completes f path u [] = T (has (f.ends path) u)
Completes f path u (v ∷ ys) = Next f path u v × Completes f (2 ^ v + path) v ys

abbrev pub Completable : Field → ℕ → ℕ → Type 0
Completable f path u = (ys : List ℕ) × Completes f path u ys

-- the leftmost way in the tree of paths: always on to the lowest vertex from which the path can be completed; where there is none, it ends
pub data Leftmost (f : Field) : ℕ → ℕ → List ℕ → Type 0 where
  stop : {path u : ℕ} → ((v : ℕ) → Next f path u v → Completable f (2 ^ v + path) v → ⊥) → Leftmost f path u []
  go_on :
      {path u v : ℕ} {ys : List ℕ} → Next f path u v → ((x : ℕ) → x < v → Next f path u x → Completable f (2 ^ x + path) x → ⊥)
      → Leftmost f (2 ^ v + path) v ys → Leftmost f path u (v ∷ ys)
