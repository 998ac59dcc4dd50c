use mathlib.Core.List.{List}
use mathlib.Core.Path.{◌≡◌, refl, sym, ap, subst, ◌∙◌}
use Prim.Native.Nat.{ℕ, ◌≤◌}
use lib.ListN.{length}
use Rattle.pool.specs.declared.value.Pool.{Pool}
use Rattle.std.specs.Prelude.{IfErr, OnOk}
use Rattle.pool.specs.Refusals.{number_of}
use Rattle.report.specs.Text.{refused_line, limits_in, whole_text}
use Rattle.report.specs.inner.Writing.{cleared_text, pushed}
use native.Mathlib.Omega.{arith}
use Rattle.reading.specs.Records.{read_pool}
use Rattle.pool.specs.Refusals.{accepted}
use Rattle.std.proofs.lemmas.Result.{err_from_is_err_and}
use Rattle.reading.proofs.ReadPool.{read_fits}
use Rattle.report.proofs.Spots.{read_spot}
use Rattle.report.proofs.Composing.{pool_refused, limits_refused, limits_two}
use Rattle.report.proofs.reporting.compose_plan.Goals as goal

-- the text under the limits that an array of the two bytes tells
two : (pool : List ℕ) {limits bytes : List ℕ} {p : Pool} → accepted p ≡ read_pool pool → length limits ≡ 2 → bytes ≡ limits
    → cleared_text p (limits_in bytes) ≡ whole_text pool limits
two pool {limits} {p = p} read long same = ap (λ b. cleared_text p (limits_in b)) same ∙ limits_two pool limits read long

pub returns-in_err-pool : goal.returns-in_err-pool
returns-in_err-pool c =
    let a = c.args in
    let p = err_from_is_err_and c.from_residual.result c.from_residual.ensures.1 in
    rw (p.1, p.2) record { text = tt; short = tt; same = refl; refusal = pool_refused a.pool.now a.limits.now c.in_err-pool.ensures; spot = omega (arith, read_spot a.pool.now c.in_err-pool.ensures) }

pub compose_cleared-requires : goal.compose_cleared-requires
compose_cleared-requires c = read_fits c.args.pool.now (sym c.in_ok-pool.ensures)

pub returns-in_default-clause-refusal : goal.returns-in_default-clause-refusal
returns-in_default-clause-refusal c =
    let a = c.args in
    rw c.into.ensures (limits_refused a.pool.now a.limits.now c.in_ok-pool.ensures c.in_default.ensures.cases)

pub returns-clause-text : goal.returns-clause-text
returns-clause-text c =
    let a = c.args in
    let both = c.in-Some.ensures.cases in
    subst (λ t. OnOk c.compose_cleared.result (c.compose_cleared.new.text ≡ pushed c.args.text.now t)) (two a.pool.now c.in_ok-pool.ensures both.long both.same) c.compose_cleared.ensures.text

pub returns-clause-short : goal.returns-clause-short
returns-clause-short c =
    let a = c.args in
    let both = c.in-Some.ensures.cases in
    subst (λ t. OnOk c.compose_cleared.result (length t ≤ 1024)) (two a.pool.now c.in_ok-pool.ensures both.long both.same) c.compose_cleared.ensures.short

pub returns-clause-refusal : goal.returns-clause-refusal
returns-clause-refusal c =
    let a = c.args in
    let both = c.in-Some.ensures.cases in
    subst (λ t. IfErr c.compose_cleared.result (λ r. refused_line (number_of r.cause) r.at ≡ t)) (two a.pool.now c.in_ok-pool.ensures both.long both.same) c.compose_cleared.ensures.refusal
