use borrow.Author.Rules.{rules}
use mathlib.Core.Path.{sym, ◌∙◌}
use native.Mathlib.Omega.{arith}
use Rattle.kep.proofs.Operations.{one_shl}
use Rattle.kep.proofs.Vertices.{bit_le}
use Rattle.clearing.proofs.Seek.{few_last, kept_as}
use Rattle.clearing.proofs.seeking.Step.end_at.Goals as goal

pub overflow_shl-bit : goal.overflow_shl-bit
overflow_shl-bit c = omega (arith, few_last c.args.self.now.few c.requires.inside c.args.path.ends_there)

pub overflow_sub-path : goal.overflow_sub-path
overflow_sub-path c =
    let p = c.args.path in
    omega (arith, one_shl 16 p.last (omega (arith, few_last c.args.self.now.few c.requires.inside p.ends_there)), bit_le p.set.0 p.last p.ends_there)

pub returns-clause-kept : goal.returns-clause-kept
returns-clause-kept c =
    let p = c.args.path in
    let last = few_last c.args.self.now.few c.requires.inside p.ends_there in
    rw (c.from-before.ensures, sym c.may_end.ensures ∙ c.if-may_end.false, one_shl 16 p.last (omega (arith, last)))
    (kept_as c.args.dead.now p.set.0 p.last (omega (arith, c.args.self.now.few)) p.ends_there (omega (arith, last)) (search rules))
