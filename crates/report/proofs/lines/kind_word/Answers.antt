use native.Mathlib.Omega.{arith}
use mathlib.Core.Path.{ap, ◌∙◌}
use Rattle.plans.specs.Kind.{byte_of}
use Rattle.report.proofs.LineLaws.{chain_word, ring_word}
use Rattle.report.proofs.lines.kind_word.Goals as goal

pub returns-in-Ok-Chain : goal.returns-in-Ok-Chain
returns-in-Ok-Chain c = chain_word c.args.kind (c.in-Ok-Chain.ensures ∙ ap byte_of c.in-Ok-Chain.field-0-is)

pub returns-in-Ok-Ring : goal.returns-in-Ok-Ring
returns-in-Ok-Ring c =
    let told = c.in-Ok-Ring.ensures ∙ ap byte_of c.in-Ok-Ring.field-0-is in
    ring_word c.args.kind (λ e. omega (arith, told, e))

pub returns-in-Err : goal.returns-in-Err
returns-in-Err c = ring_word c.args.kind c.in-Err.ensures.1
