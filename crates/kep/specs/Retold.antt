-- A plan told otherwise: "in what order they are told, and where a ring's list begins, makes no difference" (01).
use mathlib.Core.List.{List, Permᴰ, [], ◌∷◌, ◌++◌}
use Rattle.std.specs.Prelude.{ℕ, T}
use Rattle.kep.specs.Graph.{Graph}
use Rattle.kep.specs.Exchange.{is_cycle}

-- q is the plan p told otherwise
pub data Retold (g : Graph) (lc lp : ℕ) : List (List ℕ) → List (List ℕ) → Type 0 where
  -- its exchanges in another order
  reordered : {p q : List (List ℕ)} → Permᴰ p q → Retold g lc lp p q
  -- its first exchange, a cycle, begun one vertex later
  begun_later : {x : ℕ} {xs : List ℕ} {p : List (List ℕ)} → T (is_cycle g lc (x ∷ xs)) → Retold g lc lp ((x ∷ xs) ∷ p) ((xs ++ x ∷ []) ∷ p)
  -- both, as often as one likes
  again : {p q r : List (List ℕ)} → Retold g lc lp p q → Retold g lc lp q r → Retold g lc lp p r
