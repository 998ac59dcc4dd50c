use mathlib.Core.Path.{◌≡◌}
use Rattle.exchanges.specs.inner.Abreast.{opened}
use Rattle.exchanges.specs.inner.Changed.{Changed}
use Rattle.exchanges.proofs.abreast.add_open.Given as goal

abbrev pub invariant-loop-j : goal.invariant-loop-j
invariant-loop-j l = Changed (λ i. i ≡ i) l.j (opened l.table l.from l.givers l.bit l.initial.eight) l.initial.eight l.eight
