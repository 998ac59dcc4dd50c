use mathlib.Core.List.{List, ◌++◌}
use mathlib.Core.Path.{◌≡◌, refl, sym, ap, ◌∙◌}
use Prim.Native.Nat.{ℕ, ◌-◌, ◌/◌, ◌≤◌}
use native.Mathlib.Omega.{arith}
use lib.Dec.{T}
use lib.ListN.{length, take, replicate, length-replicate}
use lib.Seq.{length-take-le}
use Rattle.clearing.specs.Clearing.{clearable_value}
use Rattle.clearing.specs.computed.Cleared.{clear_outcome, plan_cleared}
use Rattle.std.proofs.lemmas.Result.{err_from_is_err_and}
use Rattle.pool.specs.declared.limits.Limits.{Limits}
use Rattle.pool.specs.declared.value.Pool.{Pool}
use Rattle.pool.specs.Refusals.{Outcome, accepted}
use Rattle.pool.specs.Value.{pool_fits}
use Rattle.report.specs.Text.{served_line, record_lines}
use Rattle.report.specs.inner.Writing.{cleared_text}
use Rattle.report.proofs.LineLaws.{lines_cut}
use Rattle.report.proofs.Pushing.{said}
use Rattle.kep.specs.Lists.{cut}
use Rattle.report.proofs.Composing.{fitted, only_limits, PlanTold, told_plan, told_refused, records_few, plan_text_lem}
use Rattle.report.proofs.reporting.compose_cleared.Goals as goal

-- what clearing finds, lent room for the tables and plans of all pools
abbrev found : Pool → Limits → Outcome Pool
found p l = clearable_value p l (replicate 16384 0) (replicate 16384 0) (replicate 224 0)

module _ (p : Pool) (l : Limits) (fits : T (pool_fits p)) where
  -- only the limits can be refused
  only : found p l ≡ fitted p l
  only =
      let long = length-replicate {A = ℕ} 16384 0 in
      only_limits p l (replicate 16384 0) (replicate 16384 0) (replicate 224 0) fits long long (length-replicate {A = ℕ} 224 0)

  -- a plan was told, of at most 14 records
  told : {served records : ℕ} {plan : List ℕ} → accepted (served, records) ≡ clear_outcome l (found p l) → plan ≡ plan_cleared l (found p l) (replicate 224 0)
      → length plan ≡ length {A = ℕ} (replicate 224 0) → PlanTold p l served records (replicate 224 0) plan × (records ≤ 14)
  told outcome left same =
      let plan = told_plan p l only (replicate 224 0) outcome left in
      (plan, records_few p l fits plan (same ∙ length-replicate {A = ℕ} 224 0))

pub returns-in_err-cleared : goal.returns-in_err-cleared
returns-in_err-cleared c =
    let a = c.args in
    let p = err_from_is_err_and c.from_residual.result c.from_residual.ensures.1 in
    let no = told_refused a.pool a.limits (only a.pool a.limits c.requires) c.in_err-cleared.ensures.outcome in
    rw (p.1, p.2) record { text = tt; short = tt; same = refl; refusal = no.1; spot = omega (arith, no.0) }

pub slice_bounds-push_plan-end : goal.slice_bounds-push_plan-end
slice_bounds-push_plan-end c =
    let k = c.clear_value in
    let (plan, few) = told c.args.pool c.args.limits c.requires c.in_ok-cleared.ensures.outcome k.ensures.plan k.auto.plan in
    sym (length-take-le _ c.as_chunks.result.0.now (omega (arith, c.as_chunks.ensures.front_len, k.auto.plan, length-replicate {A = ℕ} 224 0)))

pub returns : goal.returns
returns c =
    let a = c.args in
    let k = c.clear_value in
    let cleared = c.in_ok-cleared.cleared in
    let (plan, few) = told a.pool a.limits c.requires c.in_ok-cleared.ensures.outcome k.ensures.plan k.auto.plan in
    let records = cleared.records in
    let chunks = c.as_chunks.result.0.now in
    let line = served_line cleared.served (a.pool.size - a.pool.altruists) in
    let enough = length-replicate {A = ℕ} 224 0 in
    let told_lines : take records chunks ≡ cut 16 records k.new.plan =
    ap (take records) c.as_chunks.ensures.front ∙ lines_cut records (length k.new.plan / 16) k.new.plan (omega (arith, k.auto.plan, enough)) in
    let many = length-take-le records chunks (omega (arith, c.as_chunks.ensures.front_len, k.auto.plan, enough)) in
    let text : line ++ record_lines (take records chunks) ≡ cleared_text a.pool a.limits = ap (λ rs. line ++ record_lines rs) told_lines ∙ plan_text_lem a.pool a.limits c.requires plan in
    record { text = said a.text.now text c.push_plan.ensures.text; short = omega (arith, ap length text, c.push_plan.ensures.short, many); same = tt; refusal = tt; spot = tt }
