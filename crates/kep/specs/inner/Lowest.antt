-- The lowest vertex of a set of any width.
use Rattle.std.specs.Prelude.{ℕ}
use Rattle.kep.specs.Sets.{lowest_below}

-- the lowest vertex of a set that is not empty, whatever its width: its vertices are below s
unfoldable pub lowest : ℕ → ℕ
lowest s = lowest_below s s
