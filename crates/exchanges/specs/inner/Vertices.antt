-- A turn of a loop over the vertices of a set: scaffolding of inner contracts, nothing a reader must believe.
use Rattle.std.specs.Prelude.{Option, Some, None, if◌then◌else◌, ◌≡◌, ℕ, ◌-◌, ◌^◌, eqb}
use Rattle.kep.specs.inner.Lowest.{lowest}

-- the lowest vertex is told behind its bit and taken out; of the empty set none
pub record Takes (left : ℕ) (told : Option (ℕ × ℕ)) (rest : ℕ) : Type 0 where
  pub tells : told ≡ (if eqb left 0 then None else Some (2 ^ lowest left, lowest left))
  pub leaves : rest ≡ left - 2 ^ lowest left
