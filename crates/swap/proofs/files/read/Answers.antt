use Rattle.std.proofs.Common.{rules}
use Rattle.std.specs.Io.{ReadsAtMost}
use Rattle.std.specs.Io.KnownBytes.{ReadConsumes}
use Rattle.swap.proofs.Retries.{none_changes, last_gives, all_give, read_earlier}
use Rattle.swap.proofs.files.read.Goals as goal

pub returns-clause-bound : goal.returns-clause-bound
returns-clause-bound g c =
    let buffer = none_changes (λ s. s.1.ghost_name) (λ a b r x. search rules) c.retried.ensures in
    let bound = last_gives (λ r s. ReadsAtMost r s.1.now) (λ a b r x. search rules) c.retried.ensures in
    search (rules, buffer, bound)

pub returns-clause-bytes : goal.returns-clause-bytes
returns-clause-bytes g c =
    let file = none_changes (λ s. s.0.ghost_name) (λ a b r x. search rules) c.retried.ensures in
    let buffer = none_changes (λ s. s.1.ghost_name) (λ a b r x. search rules) c.retried.ensures in
    let bytes = all_give (λ s. g.R.Read.remaining s.0.now) (λ old r s. ReadConsumes old (g.R.Read.remaining s.0.now) r s.1.now) (λ old mid r s. read_earlier old mid _ r s.1.now) (λ a b e x. search rules) (λ a b r x. search rules) c.retried.ensures in
    search (rules, file, buffer, bytes)
