use mathlib.Core.Path.{◌∙◌}
use Rattle.clearing.proofs.RecordCode.{members_counted}
use Rattle.clearing.proofs.choice.Choice.members_in.Goals as goal

pub returns : goal.returns
returns c =
    let s = c.args.self.now in
    c.size.ensures ∙ rw (c.bitand.ensures, c.members.ensures) (members_counted s.pool s.choosing.fits c.args.set.0)
