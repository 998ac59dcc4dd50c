use borrow.Author.Rules.{rules}
use mathlib.Core.Path.{◌≡◌, sym}
use Prim.Native.Nat.{◌%◌, ◌/◌, ◌<◌}
use native.Mathlib.Omega.{arith}
use lib.ListN.{length}
use Rattle.kep.proofs.Cut.{chunk_at}
use Rattle.std.proofs.lemmas.Result.{err_from_is_err_and}
use Rattle.pool.proofs.Tested.{spot_ok, spot_err}
use Rattle.pool.proofs.ValueLaws.{fits_size}
use Rattle.plans.proofs.PlanChecked.{check_length}
use Rattle.plans.proofs.CheckSteps.{checking_start, checking_end, checking_most}
use Rattle.plans.proofs.CheckLoop.{turn_stop, turn_next}
use Rattle.plans.proofs.rules.Rules.check_records.Goals as goal

pub returns-then-not-is_empty : goal.returns-then-not-is_empty
returns-then-not-is_empty c =
    let uneven : length c.args.plan.now % 16 ≡ 0 → ⊥ = λ e. search rules in
    rw c.into.ensures (sym (check_length _ _ _ c.args.plan.now uneven))

pub loop-at-init : goal.loop-at-init
loop-at-init c = checking_start _ _ _ c.args.plan.now (search rules)

pub check_record-requires : goal.check_record-requires
check_record-requires c =
    let rules = c.args.self.now in
    omega (arith, checking_most _ _ _ c.args.plan.now c.loop-at.invariant, fits_size rules.pool rules.pool_fits)

pub returns-in_err-before : goal.returns-in_err-before
returns-in_err-before c =
    let plan = c.args.plan.now in
    let at = c.loop-at.at-counter in
    let h : at < length plan / 16 = omega (arith, c.as_chunks.ensures.front_len) in
    let (cause, met, told) = spot_err c.check_record.result _ c.map_err.ensures.cases c.in_err-before.was in
    let spot : c.in_err-before.field-0.0 ≡ record { cause = cause; at = at } = search rules in
    let p = err_from_is_err_and c.from_residual.result c.from_residual.ensures.1 in
    rw (p.1, p.2, spot) (turn_stop c.loop-at.invariant h (rw (chunk_at 16 _ at plan c.as_chunks.ensures.front h) at c.check_record.ensures) met)

pub loop-at-preserved : goal.loop-at-preserved
loop-at-preserved c =
    let plan = c.args.plan.now in
    let at = c.loop-at.at-counter in
    let h : at < length plan / 16 = omega (arith, c.as_chunks.ensures.front_len) in
    turn_next c.loop-at.invariant h (rw (chunk_at 16 _ at plan c.as_chunks.ensures.front h) at c.check_record.ensures) (spot_ok c.check_record.result _ c.map_err.ensures.cases c.in_ok-before.was)

pub returns : goal.returns
returns c = sym (checking_end _ _ _ _ c.loop-at.invariant (omega (arith, c.as_chunks.ensures.front_len)))
