-- The compatibility graph of the restricted kidney exchange problem, (Lc, Lp)-KEP, of Xiao and Wang (001): "a directed graph G = (V, A) with possible
-- self-loops, an altruistic vertex set B", where "there is no arc from a vertex to an altruistic vertex".
use Rattle.std.specs.Prelude.{Bool, ◌&&◌, ℕ, ◌≤◌, ◌<◌, T, ltb, leb}
use Rattle.kep.specs.Sets.{set_where}

-- Vertices (01: places) are the numbers below `size`; those below `altruists` are altruistic (01: houses), the others ordinary
-- (01: members). `arc u v`: u gives to v.
pub record Graph : Type 0 where
  pub size : ℕ
  pub altruists : ℕ
  pub arc : ℕ → ℕ → Bool

-- arcs lead from vertices that are there to members
pub record WellFormed (g : Graph) : Type 0 where
  pub giver_below : (u v : ℕ) → T (g.arc u v) → u < g.size
  pub taker_above : (u v : ℕ) → T (g.arc u v) → g.altruists ≤ v
  pub taker_below : (u v : ℕ) → T (g.arc u v) → v < g.size

-- an altruistic vertex (01: house)
abbrev pub is_altruist : Graph → ℕ → Bool
is_altruist g x = ltb x g.altruists

-- an ordinary vertex (01: member)
abbrev pub is_member : Graph → ℕ → Bool
is_member g x = leb g.altruists x && ltb x g.size

-- the vertices that give to v, as a set
unfoldable pub givers : Graph → ℕ → ℕ
givers g v = set_where g.size (λ u. g.arc u v)
