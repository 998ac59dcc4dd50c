-- Eight sets abreast, those that differ in the vertices 0, 1 and 2 alone: scaffolding of inner contracts, nothing a reader must believe.
use Rattle.std.specs.Prelude.{not, ◌&&◌, List, ◌≡◌, ℕ, ◌+◌, eqb, get_or}
use Rattle.std.specs.Int.Bits.{bit_and, bit_or}
use Rattle.kep.specs.Graph.{Graph}
use Rattle.kep.specs.Sets.{has, counted, set_where}
use Rattle.kep.specs.inner.Filling.{comes, ends}

-- a bit where two sets met, else nothing
abbrev pub bit_where : ℕ → ℕ → ℕ
bit_where met bit = counted (not (eqb met 0)) bit

-- the bit added to each of eight sets whose entry, from `from` on, meets the givers
abbrev pub opened : List ℕ → ℕ → ℕ → ℕ → List ℕ → ℕ → ℕ
opened table from gs bit eight j = bit_or (get_or eight j 0) (bit_where (bit_and (get_or table (from + j) 0) gs) bit)

-- of the vertices that all eight have, those that a path on set j comes to
abbrev pub common : Graph → ℕ → ℕ → ℕ
common g base j = set_where g.size (λ v. has base v && comes g (ends g) (base + j) v)

-- the ends on the sets that have at most one of the three vertices, and of the others what is found of the vertices in common
pub record Lanes (g : Graph) (base : ℕ) (eight : List ℕ) : Type 0 where
  pub lane0 : get_or eight 0 0 ≡ ends g base
  pub lane1 : get_or eight 1 0 ≡ ends g (base + 1)
  pub lane2 : get_or eight 2 0 ≡ ends g (base + 2)
  pub lane3 : get_or eight 3 0 ≡ common g base 3
  pub lane4 : get_or eight 4 0 ≡ ends g (base + 4)
  pub lane5 : get_or eight 5 0 ≡ common g base 5
  pub lane6 : get_or eight 6 0 ≡ common g base 6
  pub lane7 : get_or eight 7 0 ≡ common g base 7
