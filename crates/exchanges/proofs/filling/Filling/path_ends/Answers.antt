use mathlib.Core.Path.{◌≡◌, refl, sym, ◌∙◌}
use Prim.Native.Nat.{◌-◌, ◌^◌}
use native.Mathlib.Omega.{arith}
use lib.ListN.{get_or}
use borrow.Author.Rules.{rules}
use borrow.Author.Tests.{ne_eqb}
use Rattle.exchanges.specs.inner.Abreast.{bit_where}
use lib.Bits.{bit_and}
use Rattle.kep.specs.inner.Lowest.{lowest}
use Rattle.pool.specs.Value.{graph_of}
use Rattle.pool.proofs.ValueLaws.{entries_few}
use Rattle.kep.proofs.Sifting.{sifting_le}
use Rattle.kep.proofs.Ends.{ends_several}
use Rattle.kep.proofs.LowestBit.{ones_lowest}
use Rattle.exchanges.proofs.Given.{fits, known_length}
use Rattle.exchanges.proofs.Looking.{vertex, bit_inside, look, looked, one_taken}
use Rattle.exchanges.proofs.filling.Filling.path_ends.Goals.{else-met-eq0, then-met-eq0}
use Rattle.exchanges.proofs.filling.Filling.path_ends.Goals as goal

pub loop-bit-init : goal.loop-bit-init
loop-bit-init c =
    let set = c.args.set in
    let left : c.into_iter-bit-iterator.result.0 ≡ set - 2 ^ lowest set = search rules in
    (search rules, rw left (omega (arith, ones_lowest set (omega (arith, c.requires.several)))))

pub overflow_sub-before : goal.overflow_sub-before
overflow_sub-before c = let a = c.args in omega (arith, bit_inside a.self.now (omega arith) a.table.now a.set c.loop-bit.invariant.0 c.in-Some.ensures.steps)

pub bounds-self-v : goal.bounds-self-v
bounds-self-v c = let a = c.args in omega (arith, known_length a.self.now, vertex a.self.now (omega arith) a.table.now a.set c.loop-bit.invariant.0 c.in-Some.ensures.steps)

pub offset_bounds-self-v : goal.offset_bounds-self-v
offset_bounds-self-v c = let a = c.args in omega (arith, known_length a.self.now, vertex a.self.now (omega arith) a.table.now a.set c.loop-bit.invariant.0 c.in-Some.ensures.steps)

pub loop-bit-preserved : goal.loop-bit-preserved
loop-bit-preserved c =
    let a = c.args in
    let f = a.self.now in
    let met = bit_and (get_or a.table.now (a.set - c.in-Some.bit) 0) (get_or f.givers c.in-Some.v 0) in
    let added : c.if-met-eq0.ends ≡ bit_where met c.in-Some.bit =
    elim c.if-met-eq0.branch [ then-met-eq0 w ↦ w.ends-is ∙ rw w.if-met-eq0.true | else-met-eq0 w ↦ w.ends-is ∙ rw (ne_eqb met 0 w.if-met-eq0.false) ] in
    (rw added (look f (omega arith) a.table.now a.set c.loop-bit.invariant.0 c.in-Some.ensures.steps refl), omega (arith, c.loop-bit.invariant.1, one_taken c.in-Some.ensures.steps))

pub overflow_cast-result : goal.overflow_cast-result
overflow_cast-result c = let f = c.args.self.now in omega (arith, entries_few f.pool (fits f), sifting_le c.loop-bit.invariant.0)

pub returns-clause-ends : goal.returns-clause-ends
returns-clause-ends c =
    let a = c.args in
    let f = a.self.now in
    let several = ends_several (graph_of f.pool) a.set (λ e. omega arith) in
    looked f (omega arith) c.requires.smaller_known c.loop-bit.invariant.0 c.in-None.ensures.steps ∙ sym (rw (← c.requires.first_is_lowest) at several)
