use mathlib.Core.Path.{◌≡◌, ap, ◌∙◌}
use lib.ListN.{length}
use native.Mathlib.Omega.{arith}
use Rattle.report.specs.inner.Writing.{pushed}
use Rattle.report.specs.Text.{refused_line, whole_text}
use Rattle.pool.specs.Refusals.{number_of}
use Rattle.report.proofs.Pushing.{said}
use Rattle.report.proofs.reporting.compose.Goals as goal

pub returns-in-Err : goal.returns-in-Err
returns-in-Err c =
    let r = c.in-Err.refusal in
    let line : refused_line (number_of r.cause) r.at ≡ whole_text c.args.pool.now c.args.limits.now = c.in-Err.ensures.refusal in
    record { text = said c.args.text.now line (c.push_refused.ensures.text ∙ ap (λ t. pushed t (refused_line (number_of r.cause) r.at)) c.in-Err.ensures.same); short = omega (arith, ap length line, c.push_refused.ensures.short) }
