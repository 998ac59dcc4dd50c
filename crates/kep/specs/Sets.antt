-- A set of vertices is a number: the sum of 2 ^ v over its vertices v.
use Rattle.std.specs.Prelude.{Bool, true, false, not, ◌&&◌, ◌||◌, List, [], ◌∷◌, ℕ, zero, suc, ◌+◌, ◌^◌, ◌/◌, ◌%◌, T, eqb}

-- the set of the vertices listed
unfoldable pub set_of : List ℕ → ℕ
set_of [] = 0
set_of (x ∷ xs) = 2 ^ x + set_of xs

-- is x in s?
unfoldable pub has : ℕ → ℕ → Bool
has s x = eqb (s / 2 ^ x % 2) 1

-- every vertex of t is one of s
pub record Part (t s : ℕ) : Type 0 where
  pub within : (x : ℕ) → T (has t x) → T (has s x)

-- no vertex is in both
pub record Disjoint (a b : ℕ) : Type 0 where
  pub never : (x : ℕ) → T (has a x) → T (has b x) → ⊥

-- n where the test passes, else 0
abbrev pub counted : Bool → ℕ → ℕ
counted true n = n
counted false n = 0

-- the set of the vertices below k at which a test holds
unfoldable pub set_where : ℕ → (ℕ → Bool) → ℕ
set_where zero p = 0
set_where (suc k) p = set_where k p + counted (p k) (2 ^ k)

-- the worth of s: the sum of w, the worth of a vertex, over the vertices of s below k
unfoldable pub worth_of : (ℕ → ℕ) → ℕ → ℕ → ℕ
worth_of w zero s = 0
worth_of w (suc k) s = worth_of w k s + counted (has s k) (w k)

-- ---- the operations of document 01 on sets that hold vertices below k (16 today)

-- the first of k numbers from `from` on at which a test holds, else the number after them
unfoldable pub first_where : ℕ → ℕ → (ℕ → Bool) → ℕ
first_where zero from p = from
first_where (suc k) from p = elim (p from) [ true ↦ from | false ↦ first_where k (suc from) p ]

-- the lowest vertex, k for the empty set
unfoldable pub lowest_below : ℕ → ℕ → ℕ
lowest_below k s = first_where k 0 (has s)

-- how many vertices it has
unfoldable pub size_below : ℕ → ℕ → ℕ
size_below k s = worth_of (λ _. 1) k s

-- with v; unchanged, of a set of vertices below k, where v is not below k
unfoldable pub with_vertex : ℕ → ℕ → ℕ → ℕ
with_vertex k s v = set_where k (λ u. has s u || eqb u v)

-- without v; unchanged likewise
unfoldable pub without_vertex : ℕ → ℕ → ℕ → ℕ
without_vertex k s v = set_where k (λ u. has s u && not (eqb u v))
