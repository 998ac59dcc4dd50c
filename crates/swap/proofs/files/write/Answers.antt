use Rattle.std.proofs.Common.{rules}
use Rattle.std.specs.Io.{WritesAtMost}
use Rattle.std.specs.Io.KnownBytes.{WriteAppends}
use Rattle.swap.proofs.Retries.{none_changes, last_gives, all_give, write_earlier}
use Rattle.swap.proofs.files.write.Goals as goal

pub returns-clause-bound : goal.returns-clause-bound
returns-clause-bound g c =
    let text = none_changes (λ s. s.1.now) (λ a b r x. search rules) c.retried.ensures in
    let bound = last_gives (λ r s. WritesAtMost r s.1.now) (λ a b r x. search rules) c.retried.ensures in
    search (rules, text, bound)

pub returns-clause-bytes : goal.returns-clause-bytes
returns-clause-bytes g c =
    let to = none_changes (λ s. s.0.ghost_name) (λ a b r x. search rules) c.retried.ensures in
    let text = none_changes (λ s. s.1.now) (λ a b r x. search rules) c.retried.ensures in
    let bytes = all_give (λ s. g.W.Write.contents s.0.now) (λ old r s. WriteAppends old (g.W.Write.contents s.0.now) r s.1.now) (λ old mid r s. write_earlier old mid _ r s.1.now) (λ a b e x. search rules) (λ a b r x. search rules) c.retried.ensures in
    search (rules, to, text, bytes)
