use mathlib.Core.Path.{refl, ◌∙◌}
use native.Mathlib.Omega.{arith}
use Rattle.clearing.proofs.Seek.{has_with}
use Rattle.clearing.proofs.StepCode.{first_lt, small, exchanges_long, best_long, part_long, starts, none_taken, one_taken}
use Rattle.clearing.proofs.choice.Choice.take_exchange.Goals as goal

pub goal_from-requires : goal.goal_from-requires
goal_from-requires c = let r = c.requires in first_lt c.args.self.now.choosing r.some r.inside c.lowest-first.ensures

pub invariant_of-path : goal.invariant_of-path
invariant_of-path c = let r = c.requires in record { ends_there = has_with 0 c.lowest-first.result c.with.ensures (omega arith) (first_lt c.args.self.now.choosing r.some r.inside c.lowest-first.ensures) }

pub invariant_of-step : goal.invariant_of-step
invariant_of-step c =
    let s = c.args.self.now in
    let r = c.requires in
    record {
      few = small s.choosing r.some r.inside c.lowest-first.ensures;
      in_exchanges = omega (arith, r.inside, exchanges_long s.choosing.hold);
      in_best = omega (arith, r.inside, best_long s.choosing.hold);
    }

pub seek-requires : goal.seek-requires
seek-requires c =
    let r = c.requires in
    let k = c.args.self.now.choosing in
    record {
      room = r.room;
      entering = starts k r.some r.inside c.lowest-first.ensures c.goal_from.ensures c.with.ensures (part_long k r.some r.inside c.lowest-first.ensures c.more_from-end.ensures) r.clean;
    }

pub returns-in_err-set : goal.returns-in_err-set
returns-in_err-set c =
    let r = c.requires in
    let e = c.seek.ensures in
    let (clean, stepped) = none_taken c.args.self.now.choosing r.some r.inside c.lowest-first.ensures c.goal_from.ensures c.with.ensures r.clean e.kept e.sought c.in_err-set.was c.from_residual.ensures in
    record { clean = clean; stepped = stepped }

pub returns : goal.returns
returns c =
    let r = c.requires in
    let e = c.seek.ensures in
    let (clean, stepped) =
    one_taken c.args.self.now.choosing r.some r.inside c.lowest-first.ensures c.goal_from.ensures c.with.ensures r.clean e.kept e.sought c.more_from-end.ensures refl
    c.in_ok-set.was (c.into.ensures ∙ c.kind_of.ensures) c.members_in.ensures
    in
    record { clean = clean; stepped = stepped }
