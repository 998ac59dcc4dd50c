use mathlib.Core.Path.{◌∙◌}
use Rattle.kep.proofs.Operations.{between_set}
use Rattle.pool.proofs.value.Pool.members.Goals as goal

pub returns : goal.returns
returns c = c.sub.ensures ∙ rw (c.below.ensures, c.below-2.ensures) (between_set 16 c.args.self.altruists c.args.self.size)
