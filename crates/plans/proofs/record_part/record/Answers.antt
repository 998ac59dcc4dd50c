use mathlib.Core.Path.{◌∙◌}
use Prim.Native.Nat.{suc, ◌*◌, ◌≤◌, ◌<◌}
use native.Mathlib.Omega.{arith}
use lib.ListN.{length}
use Rattle.kep.proofs.Cut.{part}
use Rattle.plans.proofs.RecordLaws.{part_there, place_there, part_missing, place_missing}
use Rattle.plans.proofs.record_part.record.Goals as goal

pub returns-then-k-records : goal.returns-then-k-records
returns-then-k-records c =
    let a = c.args in
    let there : 16 * suc a.k ≤ length a.plan.now = omega arith in
    record {
      contents = part 16 a.k a.plan.now ∙ part_there a.plan.ref_ptr a.plan.now a.k there;
      place = place_there a.plan.ref_ptr a.plan.now a.k there;
    }

pub returns-else-k-records : goal.returns-else-k-records
returns-else-k-records c =
    let a = c.args in
    let missing : length a.plan.now < 16 * suc a.k = omega arith in
    record {
      contents = part_missing a.plan.ref_ptr a.plan.now a.k missing;
      place = place_missing a.plan.ref_ptr a.plan.now a.k missing;
    }
