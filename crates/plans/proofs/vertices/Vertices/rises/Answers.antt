use borrow.Author.Tests.{lt-leb}
use mathlib.Core.Path.{◌∙◌}
use native.Mathlib.Omega.{arith}
use Rattle.kep.proofs.ListLaws.{all_list}
use Rattle.plans.proofs.CheckCode.{rising_low, rising_high}
use Rattle.plans.proofs.vertices.Vertices.rises.Goals as goal

pub returns-then-least-first : goal.returns-then-least-first
returns-then-least-first c =
    c.none_lower.ensures ∙ all_list _ c.args.self.listed.now ∙ rising_high _ c.args.self.listed.now c.first-first.ensures.value c.if-least-first.true

pub returns-else-least-first : goal.returns-else-least-first
returns-else-least-first c =
    lt-leb _ _ (omega arith) ∙ rising_low _ c.args.self.listed.now (omega arith)
