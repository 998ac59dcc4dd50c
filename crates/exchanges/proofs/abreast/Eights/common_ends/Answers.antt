use mathlib.Core.Path.{◌≡◌, refl, ◌∙◌}
use Prim.Native.Nat.{ℕ, ◌+◌, ◌^◌, ◌≤◌, ◌<◌}
use native.Mathlib.Nat.{pos_of_ne-zero}
use native.Mathlib.Omega.{arith}
use lib.ListN.{get_or}
use Rattle.pool.specs.Value.{graph_of}
use Rattle.pool.proofs.ValueLaws.{entries_few}
use Rattle.exchanges.specs.inner.Abreast.{common}
use Rattle.exchanges.proofs.Given.{fits, known_length}
use Rattle.exchanges.proofs.Looking.{vertex, bit_inside, look, looked}
use Rattle.exchanges.proofs.EightLanes.{lanes_none, lanes_found, first_alone, first_several}
use Rattle.exchanges.proofs.abreast.Eights.common_ends.Goals.{else-rest-eq0, then-rest-eq0}
use Rattle.exchanges.proofs.abreast.Eights.common_ends.Goals as goal

pub returns-then-base-eq0 : goal.returns-then-base-eq0
returns-then-base-eq0 c = let a = c.args in lanes_none (graph_of a.self.now.filling.now.pool) a.base c.if-base-eq0.true

pub overflow_sub-from : goal.overflow_sub-from
overflow_sub-from c = let a = c.args in bit_inside a.self.now.filling.now (omega arith) a.table.now (a.base + 0) (c.loop-bit.invariant.1 0 (omega arith)) c.in-Some.ensures.steps

pub bounds-self-v : goal.bounds-self-v
bounds-self-v c =
    let a = c.args in
    let f = a.self.now.filling.now in
    omega (arith, known_length f, vertex f (omega arith) a.table.now (a.base + 0) (c.loop-bit.invariant.1 0 (omega arith)) c.in-Some.ensures.steps)

pub offset_bounds-self-v : goal.offset_bounds-self-v
offset_bounds-self-v c = omega (arith, bounds-self-v c)

pub overflow_cast-bit : goal.overflow_cast-bit
overflow_cast-bit c =
    let a = c.args in
    let f = a.self.now.filling.now in
    omega (arith, bit_inside f (omega arith) a.table.now (a.base + 0) (c.loop-bit.invariant.1 0 (omega arith)) c.in-Some.ensures.steps, entries_few f.pool (fits f))

pub loop-bit-preserved : goal.loop-bit-preserved
loop-bit-preserved c =
    let a = c.args in
    let f = a.self.now.filling.now in
    let opened = c.add_open.ensures in
    let b : a.base < 2 ^ f.pool.size = omega arith in
    let inside : c.in-Some.bit ≤ a.base = bit_inside f b a.table.now (a.base + 0) (c.loop-bit.invariant.1 0 (omega arith)) c.in-Some.ensures.steps in (
      opened.same_length ∙ c.loop-bit.invariant.0,
      λ j lt. rw (opened.done j lt refl) (look f b a.table.now (a.base + j) (c.loop-bit.invariant.1 j lt) c.in-Some.ensures.steps (omega arith)),
    )

pub returns : goal.returns
returns c =
    let a = c.args in
    let f = a.self.now.filling.now in
    let g = graph_of f.pool in
    let found : (j : ℕ) → j < 8 → get_or c.loop-bit.eight j 0 ≡ common g a.base j =
    λ j l. looked f (omega arith) (c.requires.smaller_known j l) (c.loop-bit.invariant.1 j l) c.in-None.ensures.steps in
    let pos = pos_of_ne-zero c.if-base-eq0.false in
    lanes_found g a.base pos c.requires.base_of_eight c.loop-bit.eight found c.loop-bit.invariant.0
    (elim c.if-rest-eq0.branch [
      | then-rest-eq0 w ↦ w.eight-is ∙ first_alone g a.base pos c.requires.base_of_eight c.loop-bit.eight found w.if-rest-eq0.true
      | else-rest-eq0 w ↦ w.eight-is ∙ first_several g a.base pos c.requires.base_of_eight c.loop-bit.eight found w.if-rest-eq0.false
    ])
