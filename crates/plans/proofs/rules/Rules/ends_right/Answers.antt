use mathlib.Core.Path.{ap, ◌∙◌}
use Rattle.pool.proofs.ValueLaws.{fits_formed}
use Rattle.plans.specs.Kind.{byte_of}
use Rattle.plans.proofs.CheckCode.{ends_chain, ends_cycle, ends_other}
use Rattle.plans.proofs.rules.Rules.ends_right.Goals as goal

pub returns-in-Ok-Chain : goal.returns-in-Ok-Chain
returns-in-Ok-Chain c =
    let formed = fits_formed c.args.self.now.pool c.args.self.now.pool_fits in
    let told = c.in-Ok-Chain.ensures ∙ ap byte_of c.in-Ok-Chain.field-0-is in
    rw (c.from-members.ensures, c.is_altruist-of_chain.ensures, c.first.ensures.value)
    (ends_chain _ formed _ c.args.vertices.listed.now c.requires.listed.vertices c.args.vertices.some c.requires.joined told)

pub returns-in-Ok-Ring : goal.returns-in-Ok-Ring
returns-in-Ok-Ring c =
    let formed = fits_formed c.args.self.now.pool c.args.self.now.pool_fits in
    let told = c.in-Ok-Ring.ensures ∙ ap byte_of c.in-Ok-Ring.field-0-is in
    rw (c.from-members.ensures, c.is_altruist-of_chain.ensures, c.first.ensures.value)
    (ends_cycle _ formed _ c.args.vertices.listed.now c.requires.listed.vertices c.args.vertices.some c.requires.joined told)

pub returns-in-Err : goal.returns-in-Err
returns-in-Err c =
    let formed = fits_formed c.args.self.now.pool c.args.self.now.pool_fits in
    let other = c.in-Err.ensures in
    ends_other _ formed _ c.args.vertices.listed.now c.requires.listed.vertices c.args.vertices.some c.requires.joined other.1 other.2
