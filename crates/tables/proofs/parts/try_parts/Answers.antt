use Rattle.kep.proofs.ByFours.{lone_tries}
use Rattle.tables.proofs.parts.try_parts.Goals as goal

pub returns-then-others-eq0 : goal.returns-then-others-eq0
returns-then-others-eq0 c = lone_tries c.requires.can_try c.requires.unmarked c.if-others-eq0.true
