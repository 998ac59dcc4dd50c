use Rattle.report.proofs.Pushing.{then}
use Rattle.report.proofs.text.Text.push_numbers.Goals as goal

pub returns : goal.returns
returns c =
    let old = c.args.self.now in
    let first = then old _ _ c.push.ensures c.push_number.ensures in
    let second = then _ _ _ c.push-2.ensures c.push_number-2.ensures in
    then old _ _ (then old _ _ first second) c.push-3.ensures
