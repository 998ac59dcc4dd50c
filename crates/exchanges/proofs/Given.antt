-- The givers that filling goes by.
use mathlib.Core.Path.{◌≡◌, ap, ◌∙◌}
use Prim.Native.Nat.{ℕ, ◌≤◌, ◌<◌}
use native.Mathlib.Omega.{arith}
use lib.Dec.{T}
use lib.ListN.{length, get_or}
use Rattle.pool.specs.Value.{graph_of, pool_fits}
use Rattle.kep.specs.Graph.{givers}
use Rattle.exchanges.specs.declared.filling.Filling.{Filling}
use Rattle.kep.proofs.Tables.{length_tabulate, get_d_whole}
use Rattle.pool.proofs.ValueLaws.{fits_size}

module _ (f : Filling) where
  pub fits : T (pool_fits f.pool)
  fits = f.fits

  pub few : f.pool.size ≤ 14
  few = fits_size f.pool fits

  pub known_length : length f.givers ≡ 14
  known_length = ap length f.given ∙ length_tabulate (givers (graph_of f.pool)) 14

  pub known_givers : (v : ℕ) → v < f.pool.size → get_or f.givers v 0 ≡ givers (graph_of f.pool) v
  known_givers v h = rw f.given (get_d_whole (givers (graph_of f.pool)) 14 v (omega (arith, few)))
