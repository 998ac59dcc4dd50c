use mathlib.Core.Path.{sym, ◌∙◌}
use native.Mathlib.Omega.{arith}
use Rattle.kep.proofs.Parts.{part_le}
use Rattle.clearing.specs.inner.Seeking.{ways_of}
use Rattle.clearing.proofs.Seek.{few_last, open_none, open_some}
use Rattle.clearing.proofs.seeking.Step.open_at.Goals as goal

pub bounds-self-from : goal.bounds-self-from
bounds-self-from c = rw c.from.ensures (few_last c.args.self.now.few (part_le c.requires.inside) c.args.path.ends_there)

pub bounds-dead-from : goal.bounds-dead-from
bounds-dead-from c = omega (arith, c.from-2.ensures, part_le c.requires.inside, c.requires.room)

pub returns-then-is_empty : goal.returns-then-is_empty
returns-then-is_empty c = open_none (ways_of c.args.self.now) (omega (arith, c.args.self.now.few)) c.requires.inside c.sub-rest.ensures c.bitand.ensures _ _ _ (sym c.is_empty.ensures ∙ c.if-is_empty.true)

pub returns : goal.returns
returns c =
    let given = rw c.from.ensures at c.bitand-ways.ensures in
    let kept = rw c.from-2.ensures at c.sub.ensures in
    open_some (ways_of c.args.self.now) (omega (arith, c.args.self.now.few)) c.requires.inside c.sub-rest.ensures c.bitand.ensures _ _ _ c.if-more-eq0.false (sym c.is_empty.ensures ∙ c.if-is_empty.false)
    given kept
