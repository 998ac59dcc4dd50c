use native.Mathlib.Omega.{arith}
use mathlib.Core.Path.{refl}
use Rattle.kep.proofs.Parts.{part_refl, part_le}
use Rattle.kep.proofs.Down.{step_part, step_below}
use Rattle.kep.proofs.Twos.{two_room}
use Rattle.kep.proofs.Trying.{tries_fit, trying_fit}
use Rattle.kep.proofs.ByFours.{fours_start, fours_idle, fours_next, fours_end, last_end}
use Rattle.tables.proofs.fours.try_fours.Goals.{then-not-this+else-most-all, else-not-this+else-is_one_marked}
use Rattle.tables.proofs.fours.try_fours.Goals as goal

pub loop-t-init : goal.loop-t-init
loop-t-init g c = record { inside = part_refl _; left = fours_start c.requires.can_try c.requires.two_aside }

pub is_one_marked-requires : goal.is_one_marked-requires
is_one_marked-requires g c = two_room c.requires.two_aside c.loop-t.invariant.inside

pub overflow_sub-rest-then-not-this : goal.overflow_sub-rest-then-not-this
overflow_sub-rest-then-not-this g c = part_le c.loop-t.invariant.inside

pub three-three-requires-clause-inside : goal.three-three-requires-clause-inside
three-three-requires-clause-inside g c = c.loop-t.invariant.inside

pub three-three-requires-clause-leaves : goal.three-three-requires-clause-leaves
three-three-requires-clause-leaves g c = omega (arith, part_le c.loop-t.invariant.inside)

pub overflow_sub-rest-then-not-this-2 : goal.overflow_sub-rest-then-not-this-2
overflow_sub-rest-then-not-this-2 g c = part_le c.loop-t.invariant.inside

pub alone-requires-clause-inside : goal.alone-requires-clause-inside
alone-requires-clause-inside g c = c.loop-t.invariant.inside

pub alone-requires-clause-leaves : goal.alone-requires-clause-leaves
alone-requires-clause-leaves g c = omega (arith, part_le c.loop-t.invariant.inside)

pub returns-then-most-all : goal.returns-then-most-all
returns-then-most-all g c =
    let v = c.three-three.ensures in
    fours_end c.requires.can_try c.requires.two_aside c.loop-t.invariant.inside c.loop-t.invariant.left v.both v.second v.first (omega arith) c.alone.ensures
    (omega (arith, c.max-most.ensures, c.greatest.ensures)) c.if-most-all.true c.place_of.ensures

pub overflow_add-result : goal.overflow_add-result
overflow_add-result g c = omega (arith, tries_fit _ c.args.all (returns-then-most-all g c))

pub overflow_add-before : goal.overflow_add-before
overflow_add-before g c = omega (arith, trying_fit _ c.args.all _ c.loop-t.invariant.left, c.requires.can_try.offered)

pub loop-t-smaller : goal.loop-t-smaller
loop-t-smaller g c = step_below c.loop-t.t _ (omega arith)

pub loop-t-preserved : goal.loop-t-preserved
loop-t-preserved g c =
    let can = c.requires.can_try in
    let l = c.requires.two_aside in
    let i = c.loop-t.invariant in
    record {
      inside = step_part c.loop-t.t _;
      left =
          elim c.if-not-this.branch [
            | then-not-this+else-most-all w ↦
                let v = w.three-three.ensures in
                rw w.most-is
                (fours_next can l i.inside i.left v.both v.second v.first (omega arith) w.alone.ensures (omega (arith, w.max-most.ensures, w.greatest.ensures)) w.if-most-all.false)
            | else-not-this+else-is_one_marked w ↦ rw w.most-is (fours_idle can l i.inside i.left (omega arith) (w.is_one_marked.ensures w.if-is_one_marked.false))
          ];
    }

-- the last group, of the empty part
pub three-three-requires-2-clause-inside : goal.three-three-requires-2-clause-inside
three-three-requires-2-clause-inside g c = rw c.loop-t-test.false at c.loop-t.invariant.inside

pub returns : goal.returns
returns g c =
    let z = c.loop-t-test.false in
    let v = c.three-three-2.ensures in
    rw c.min.ensures
    (last_end c.requires.can_try c.requires.two_aside (rw z at c.loop-t.invariant.inside) (rw z at c.loop-t.invariant.left) v.both v.second v.first refl c.greatest-2.ensures c.place_of-2.ensures)

pub overflow_add-result-2 : goal.overflow_add-result-2
overflow_add-result-2 g c = omega (arith, tries_fit _ c.args.all (returns g c))
