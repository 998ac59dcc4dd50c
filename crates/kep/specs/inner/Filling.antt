-- How the exchange table is filled, as functions on sets: pass one, the ends of paths, and pass two, which of them end an
-- exchange. That this gives `entry` is proved (`Claims`).
use Rattle.std.specs.Prelude.{Bool, true, false, not, ◌&&◌, ℕ, zero, suc, ◌+◌, ◌-◌, ◌^◌, eqb, leb}
use Rattle.std.specs.Int.Bits.{bit_and}
use Rattle.std.specs.Int.Count.{ones}
use Rattle.kep.specs.Graph.{Graph, is_altruist, givers}
use Rattle.kep.specs.Sets.{has, counted, set_where}
use Rattle.kep.specs.inner.Lowest.{lowest}

-- does a path on s without v end at a giver of v, where e tells the ends of paths on the smaller sets?
unfoldable pub comes : Graph → (ℕ → ℕ) → ℕ → ℕ → Bool
comes g e s v = not (eqb (bit_and (e (s - 2 ^ v)) (givers g v)) 0)

-- pass one at s: the ends of the paths on s that begin at its lowest vertex. A vertex alone is a path; any other ends at a later vertex
unfoldable pub next_ends : Graph → (ℕ → ℕ) → ℕ → ℕ
next_ends g e s =
    elim (eqb s (2 ^ lowest s)) [ true ↦ s | false ↦ set_where g.size (λ v. has (s - 2 ^ lowest s) v && comes g e s v) ]

-- on sets below k
unfoldable pub ends_below : Graph → ℕ → ℕ → ℕ
ends_below g zero s = 0
ends_below g (suc k) s = next_ends g (ends_below g k) s

unfoldable pub ends : Graph → ℕ → ℕ
ends g s = ends_below g (suc s) s

-- pass two at s, what is left of the entry e: where the lowest vertex is an altruist, all of it if s has 1 to lp vertices beside
-- it; else the ends that give to the lowest, if s has at most lc vertices
unfoldable pub mask_at : Graph → ℕ → ℕ → ℕ → ℕ → ℕ
mask_at g lc lp s e =
    elim (is_altruist g (lowest s)) [
      | true ↦ counted (leb 2 (ones s) && leb (ones s) (lp + 1)) e
      | false ↦ counted (leb (ones s) lc) (bit_and e (givers g (lowest s)))
    ]

unfoldable pub masked : Graph → ℕ → ℕ → ℕ → ℕ
masked g lc lp s = mask_at g lc lp s (ends g s)
