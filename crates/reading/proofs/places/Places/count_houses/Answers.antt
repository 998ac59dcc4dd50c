use borrow.Author.Rules.{rules}
use mathlib.Core.Path.{◌≡◌, ap, ◌∙◌}
use native.Mathlib.Omega.{arith}
use Rattle.std.specs.Prelude.{Ok}
use Rattle.std.proofs.lemmas.Result.{err_from_is_err_and}
use Rattle.pool.proofs.Tested.{spot_ok, spot_err}
use Rattle.reading.proofs.Scanning.{scan_start, scan_same, scan_house, scan_member, scan_stop, scan_end, read_here}
use Rattle.reading.proofs.places.Places.count_houses.Goals.{in-House, in-Member}
use Rattle.reading.proofs.places.Places.count_houses.Goals as goal

pub loop-at-init : goal.loop-at-init
loop-at-init c = scan_start _

pub returns-in_err-kind : goal.returns-in_err-kind
returns-in_err-kind c =
    let h = c.loop-at-test.true in
    let (cause, met, told) = spot_err c.read_record.result _ c.map_err.ensures.cases c.in_err-kind.was in
    let spot : c.in_err-kind.field-0.0 ≡ record { cause = cause; at = c.loop-at.at-counter } = search rules in
    let p = err_from_is_err_and c.from_residual.result c.from_residual.ensures.1 in
    rw (p.1, p.2, spot) (scan_stop _ h c.loop-at.invariant (read_here _ h c.loop-at.invariant _ met c.read_record.ensures))

pub loop-at-preserved : goal.loop-at-preserved
loop-at-preserved c =
    let h = c.loop-at-test.true in
    let s = c.loop-at.invariant in
    let read = spot_ok c.read_record.result _ c.map_err.ensures.cases c.in_ok-kind.was in
    elim c.match-kind.branch [
      | in-House w ↦ scan_same _ w.houses-is w.houses_only-is (scan_house _ h s (read_here _ h s _ (read ∙ ap Ok w.in-House.is) c.read_record.ensures))
      | in-Member w ↦ scan_same _ w.houses-is w.houses_only-is (scan_member _ h s (read_here _ h s _ (read ∙ ap Ok w.in-Member.is) c.read_record.ensures))
    ]

pub returns : goal.returns
returns c = scan_end _ (omega arith) c.loop-at.invariant
