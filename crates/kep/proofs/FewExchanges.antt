-- A legal plan has no more exchanges than the graph has vertices: each has one, and none is in two.
use mathlib.Core.List.{List}
use Prim.Native.Nat.{ℕ, ◌≤◌}
use native.Mathlib.Omega.{arith}
use lib.ListN.{length}
use Rattle.kep.specs.Lists.{flat}
use Rattle.kep.specs.Graph.{Graph}
use Rattle.kep.proofs.Each.{each_map}
use Rattle.kep.proofs.SetOf.{below_length}
use Rattle.kep.proofs.ExchangeFacts.{exchange_some, exchange_below}
use Rattle.kep.proofs.Legal.{Legal, legal_exchanges, legal_distinct}
use Rattle.kep.proofs.Canonical.{flat_each, flat_length}

pub legal_few : (g : Graph) (lc lp : ℕ) (p : List (List ℕ)) → Legal g lc lp p → length p ≤ g.size
legal_few g lc lp p h =
    let each = legal_exchanges g lc lp p h in
    let below = flat_each (each_map (λ x e. exchange_below g e) each) in
    omega (arith, flat_length (each_map (λ x e. exchange_some g e) each), below_length g.size (flat p) (legal_distinct g lc lp p h) below)
