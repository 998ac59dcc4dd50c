use mathlib.Core.Path.{sym, ◌∙◌}
use native.Mathlib.Omega.{arith}
use borrow.Author.Tests.{le-ltb}
use Rattle.kep.specs.Sets.{has}
use Rattle.kep.proofs.SetLaws.{has_below}
use Rattle.kep.proofs.Tests.{is_false}
use Rattle.reading.specs.Fields.{taken_of}
use Rattle.reading.proofs.arcs.takes.Goals as goal

pub returns-then-class-lt32 : goal.returns-then-class-lt32
unfolding has
returns-then-class-lt32 c = rw c.taken-classes.ensures

-- classes taken are a set of 32 bits
pub returns-else-class-lt32 : goal.returns-else-class-lt32
returns-else-class-lt32 c =
    let a = c.args in
    le-ltb a.class 32 c.if-class-lt32.false
    ∙ sym (is_false _ (λ t. omega (arith, has_below 32 (taken_of a.bytes.now) a.class (omega (arith, c.taken-classes.ensures, c.taken-classes.type_inv)) t)))
