use mathlib.Core.Path.{ap}
use Prim.Native.Nat.{◌+◌}
use native.Mathlib.Omega.{arith}
use lib.Dec.{T}
use Rattle.pool.specs.Value.{graph_of}
use Rattle.kep.proofs.Tests.{from_true, from_false}
use Rattle.plans.specs.Check.{ends_right}
use Rattle.plans.proofs.CheckSteps.{served_most}
use Rattle.plans.proofs.Meeting.{met_before, met_now}
use Rattle.plans.proofs.CheckCode.{ends_served, stop_12, stop_13, stop_14, stop_15, stop_16, stop_17, passes_all}
use Rattle.plans.proofs.rules.Rules.check_record.Goals as goal

pub returns-in_default : goal.returns-in_default
returns-in_default c = stop_12 c.in_default.ensures

pub returns-in_default-meet : goal.returns-in_default-meet
returns-in_default-meet c = stop_13 c.in-Some.ensures (met_before _ c.in-Some.vertices.listed.now c.in_default-meet.ensures)

pub returns-then-not-rises : goal.returns-then-not-rises
returns-then-not-rises c =
    let new = met_now _ c.in-Some.vertices.listed.now c.in-Some-meet.ensures in
    stop_14 c.in-Some.ensures new.0 (from_false (cc))

pub returns-then-not-all_joined : goal.returns-then-not-all_joined
returns-then-not-all_joined c =
    let new = met_now _ c.in-Some.vertices.listed.now c.in-Some-meet.ensures in
    stop_15 c.in-Some.ensures new.0 (from_true (cc)) (from_false (cc))

pub returns-then-not-within_limits : goal.returns-then-not-within_limits
returns-then-not-within_limits c =
    let new = met_now _ c.in-Some.vertices.listed.now c.in-Some-meet.ensures in
    stop_16 c.in-Some.ensures new.0 (from_true (cc)) (from_true (cc)) (from_false (cc))

pub returns-then-not-ends_right : goal.returns-then-not-ends_right
returns-then-not-ends_right c =
    let new = met_now _ c.in-Some.vertices.listed.now c.in-Some-meet.ensures in
    stop_17 c.in-Some.ensures new.0 (from_true (cc)) (from_true (cc)) (from_true (cc)) (from_false (cc))

pub overflow_add-result-2 : goal.overflow_add-result-2
overflow_add-result-2 c =
    let k = c.in-Some.ensures in
    let right : T (ends_right (graph_of c.args.self.now.pool) c.args.bytes.now) = from_true (cc) in
    omega (arith, c.requires, ends_served _ c.args.bytes.now _ k.vertices right, served_most (graph_of c.args.self.now.pool) c.in-Some.vertices.listed.now, c.in-Some.vertices.few)

pub returns : goal.returns
returns c =
    let k = c.in-Some.ensures in
    let new = met_now _ c.in-Some.vertices.listed.now c.in-Some-meet.ensures in
    let right : T (ends_right (graph_of c.args.self.now.pool) c.args.bytes.now) = from_true (cc) in
    passes_all k new.0 (from_true (cc)) (from_true (cc)) (from_true (cc)) right new.1 (ap (λ x. x + 1) c.first.ensures.value)
    (ap (λ n. c.args.before.served + n) (ends_served _ c.args.bytes.now _ k.vertices right))
