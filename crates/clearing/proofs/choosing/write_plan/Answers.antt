use lib.Pow.{pow_mono}
use Rattle.pool.proofs.ValueLaws.{fits_size}
use Rattle.clearing.proofs.StepCode.{all_clean}
use Rattle.clearing.proofs.choosing.write_plan.Goals as goal

pub choose-requires-clause-clean : goal.choose-requires-clause-clean
choose-requires-clause-clean c = all_clean 256

pub choose-requires-else-pool-le-FEW-clause-dead_room : goal.choose-requires-else-pool-le-FEW-clause-dead_room
choose-requires-else-pool-le-FEW-clause-dead_room c = pow_mono (fits_size c.args.pool c.requires.fitting_pool)

pub choose-requires-else-pool-le-FEW-clause-clean : goal.choose-requires-else-pool-le-FEW-clause-clean
choose-requires-else-pool-le-FEW-clause-clean c = all_clean 16384
