use mathlib.Core.Path.{◌≡◌}
use Prim.Native.Nat.{ℕ, ◌+◌, ◌<◌}
use lib.ListN.{length, get_or}
use Rattle.kep.proofs.Sifting.{Sifting}
use Rattle.exchanges.proofs.Looking.{is_open}
use Rattle.exchanges.proofs.abreast.Eights.common_ends.Given as goal

abbrev pub invariant-loop-bit : goal.invariant-loop-bit
invariant-loop-bit l =
    (length l.eight ≡ 8) × ((j : ℕ) → j < 8 → Sifting 64 (is_open l.self.filling.now.givers l.table (l.base + j)) l.base l.bit-iterator.0 (get_or l.eight j 0))
