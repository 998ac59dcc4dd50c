use native.Mathlib.Omega.{arith}
use Rattle.report.proofs.Lengths.{refused_short}
use Rattle.report.proofs.text.Text.push_refused.Goals as goal

pub returns-clause-short : goal.returns-clause-short
returns-clause-short c = refused_short _ c.args.refusal.at (omega (arith, c.number-number.ensures, c.number-number.type_inv)) c.requires
