use mathlib.Core.Path.{◌≡◌, refl, ◌∙◌}
use Prim.Native.Nat.{◌+◌, ◌^◌, ◌≤◌, ◌<◌}
use native.Mathlib.Omega.{arith}
use Rattle.kep.specs.Lists.{tabulate, written_to}
use Rattle.kep.specs.Trying.{tried_over}
use Rattle.kep.specs.computed.Table.{best}
use Rattle.kep.specs.inner.BestFilling.{worth_by, offer}
use Rattle.tables.specs.Calls.{marked}
use Rattle.kep.proofs.Tables.{tabulate_store}
use Rattle.tables.proofs.FillingCode.{Turn, parts_over, over_fits, worth_below, mark_set, marked_turn, offer_kept, idle_turn, can_try, tried_turn}
use Rattle.tables.proofs.worths.VertexWorths.fill_best_by.Goals.{then-exchanges-s-ne0, else-exchanges-s-ne0+then-worth-eq0, else-exchanges-s-ne0+else-worth-eq0}
use Rattle.tables.proofs.worths.VertexWorths.fill_best_by.Goals as goal

pub loop-s-init : goal.loop-s-init
unfolding tabulate tried_over
loop-s-init g c = record { offered = refl; written = refl; counted = refl; few = omega arith }

pub overflow_add-all : goal.overflow_add-all
overflow_add-all g c =
    let i = c.loop-s.invariant in
    omega (arith, worth_below c.args.self.now.small c.args.exchanges.now _ _ c.fill_worths.ensures i.offered i.written (omega arith))

pub try_parts-requires-clause-can_try : goal.try_parts-requires-clause-can_try
try_parts-requires-clause-can_try g c =
    let i = c.loop-s.invariant in
    can_try c.args.self.now.small c.args.exchanges.now _ _ c.fill_worths.ensures i.offered i.written (omega arith) c.if-exchanges-s-ne0.false c.if-worth-eq0.false (omega arith) (omega arith)

pub try_parts-requires-clause-unmarked : goal.try_parts-requires-clause-unmarked
try_parts-requires-clause-unmarked g c =
    let i = c.loop-s.invariant in
    omega (arith, worth_below c.args.self.now.small c.args.exchanges.now _ _ c.fill_worths.ensures i.offered i.written (omega arith))

pub loop-s-preserved : goal.loop-s-preserved
loop-s-preserved g c =
    let a = c.args in
    let worths = a.self.now.small in
    let exchanges = a.exchanges.now in
    let i = c.loop-s.invariant in
    let s = c.loop-s.s in
    let v = worth_by a.self.now.each a.self.now.size in
    let m = marked exchanges in
    let filled = c.fill_worths.new.table in
    let full = c.fill_worths.ensures in
    let inside : s < 2 ^ a.self.now.size = omega arith in
    let turned = c.if-exchanges-s-ne0 in
    -- by the way that it took
    let turn : (turned.offers ≡ written_to (offer v m) (s + 1) filled) × Turn a.self.now.size a.self.now.each exchanges s turned.found.most turned.found.tried × (turned.marks ≤ s + 1) =
    elim turned.branch [
      | then-exchanges-s-ne0 w ↦
          let found = w.if-exchanges-s-ne0.true in
          (w.offers-is ∙ mark_set worths exchanges _ _ full i.offered i.written inside found (omega arith) refl, rw (w.found-is, w.from.ensures) (marked_turn worths exchanges _ _ full i.offered i.written inside found), omega (arith, w.marks-is))
      | else-exchanges-s-ne0+then-worth-eq0 w ↦
          (w.offers-is ∙ offer_kept worths exchanges _ _ full i.offered i.written inside w.if-exchanges-s-ne0.false (omega arith), rw w.found-is (idle_turn worths exchanges _ _ full i.offered i.written inside w.if-worth-eq0.true), omega (arith, w.marks-is))
      | else-exchanges-s-ne0+else-worth-eq0 w ↦
          (w.offers-is ∙ offer_kept worths exchanges _ _ full i.offered i.written inside w.if-exchanges-s-ne0.false (omega arith), rw w.found-is (tried_turn worths exchanges _ _ full i.offered i.written inside w.if-exchanges-s-ne0.false w.if-worth-eq0.false w.try_parts.ensures), omega (arith, w.marks-is))
    ] in
    record {
      offered = turn.0;
      written = tabulate_store (best v m) s a.table.now (omega arith) i.written (c.saturating_sub.ensures ∙ turn.1.entry);
      counted = parts_over turn.1 i.counted;
      few = turn.2;
    }

pub overflow_add-tried : goal.overflow_add-tried
overflow_add-tried g c = omega (arith, over_fits c.args.self.now.small (marked c.args.exchanges.now) (omega arith) (loop-s-preserved g c).counted)
