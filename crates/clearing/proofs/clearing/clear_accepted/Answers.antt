use mathlib.Core.List.{List}
use mathlib.Core.Path.{◌≡◌, refl, sym, ap₂, ◌∙◌}
use Prim.Native.Nat.{ℕ, ◌-◌, ◌/◌, ◌^◌, ◌≤◌}
use native.Mathlib.Omega.{arith}
use lib.ListN.{length, get_or}
use lib.Pow.{pow_pos}
use Rattle.std.specs.Prelude.{Result, Ok}
use Rattle.pool.specs.declared.value.Pool.{Pool}
use Rattle.pool.specs.declared.limits.Limits.{Limits}
use Rattle.pool.specs.declared.refusal.Refusal.{Refusal}
use Rattle.pool.specs.Refusals.{accepted, outcome}
use Rattle.pool.specs.Value.{graph_of}
use Rattle.kep.specs.Lists.{flat}
use Rattle.kep.specs.Table.{served, per_member}
use Rattle.pool.proofs.Tested.{accepts}
use Rattle.pool.proofs.ValueLaws.{entries_few}
use Rattle.tables.specs.Calls.{best_outcome, best_left}
use Rattle.exchanges.specs.ExchangesCall.{exchanges_outcome, exchanges_left}
use Rattle.exchanges.proofs.ExchangesCall.{passes_all as exchanges_pass, leaves as exchanges_leave}
use Rattle.tables.specs.declared.best.BestFilled.{BestFilled}
use Rattle.tables.proofs.BestCall.{told_all, accepted_all as best_accepted}
use Rattle.clearing.specs.Clearing.{clearable_value}
use Rattle.clearing.specs.computed.Cleared.{plan_of, exchanges_of, bests_of}
use Rattle.clearing.specs.inner.Taking.{TablesHold}
use Rattle.clearing.proofs.FilledTables.{exchanges_filled, best_filled, filled_hold, last_served, last_few}
use Rattle.clearing.proofs.ClearingCode.{Passed, passed}
use Rattle.clearing.proofs.clearing.clear_accepted.Goals as goal

-- all tests were passed
holds : {p : Pool} {l : Limits} {exchanges best plan : List ℕ} → accepted p ≡ clearable_value p l exchanges best plan → Passed p l exchanges best plan
holds e = passed _ _ _ _ _ e

-- the exchange table is filled, and the best table over it
module _ {p : Pool} {l : Limits} {exchanges best plan : List ℕ} (t : Passed p l exchanges best plan) where
  exchanges_told : {r : Result ℕ Refusal} → outcome r ≡ exchanges_outcome p l exchanges → r ≡ Ok (2 ^ p.size)
  exchanges_told e = accepts _ (e ∙ sym (exchanges_leave p l exchanges (exchanges_pass p l (length exchanges) t.fits t.within t.exchanges_long)).0)

  module _ {filled : List ℕ} (same : length filled ≡ length exchanges) (first : filled ≡ exchanges_left p l exchanges) where
    exchanges_are : filled ≡ exchanges_of p l exchanges
    exchanges_are = exchanges_filled p l t.fits exchanges t.within t.exchanges_long first

    best_told : {r : Result BestFilled Refusal} → outcome r ≡ best_outcome p filled best → r ≡ Ok (told_all p filled best)
    best_told e = accepts _ (e ∙ sym (best_accepted p filled best t.fits (omega (arith, t.exchanges_long)) t.best_long).0)

    -- the entries, as that call tells them
    entries_told : {r : Result BestFilled Refusal} {f : BestFilled} → outcome r ≡ best_outcome p filled best → r ≡ Ok f → f.entries ≡ 2 ^ p.size
    entries_told {f = f} e g = let told : ◌≡◌ {A = Result BestFilled Refusal} (Ok f) (Ok (told_all p filled best)) = sym g ∙ best_told e in cc

    module _ {bests : List ℕ} (second : bests ≡ best_left p filled best) where
      bests_are : bests ≡ bests_of p l best
      bests_are = best_filled p l t.fits exchanges exchanges_are best (omega (arith, t.exchanges_long)) t.best_long second

      hold : TablesHold p l filled bests
      hold = filled_hold p l t.fits exchanges exchanges_are best bests_are

      -- the best of all, as code looks it up, tells the members served, and they fit a byte
      told : {entries : ℕ} → entries ≡ 2 ^ p.size → get_or bests (entries - 1) 0 / per_member ≡ served (graph_of p) (flat (plan_of p l))
      told e = rw e (last_served p l t.fits best bests_are)

      few : {entries : ℕ} → entries ≡ 2 ^ p.size → get_or bests (entries - 1) 0 / per_member ≤ 14
      few e = rw e (last_few p l t.fits best bests_are)

pub unwrap-requires : goal.unwrap-requires
unwrap-requires c = let e = exchanges_told (holds c.requires) c.fill_exchanges.ensures.outcome in rw e refl

pub unwrap-entries-requires : goal.unwrap-entries-requires
unwrap-entries-requires c = let e = best_told (holds c.requires) c.fill_exchanges.auto.table c.fill_exchanges.ensures.left c.fill_best.ensures.outcome in rw e refl

pub write_plan-requires : goal.write_plan-requires
write_plan-requires c =
    let t = holds c.requires in
    record {
      fitting_pool = t.fits;
      fitting_limits = t.within;
      hold = hold t c.fill_exchanges.auto.table c.fill_exchanges.ensures.left c.fill_best.ensures.left;
      room = t.plan_long;
    }

pub overflow_sub-result : goal.overflow_sub-result
overflow_sub-result c =
    let t = holds c.requires in
    let entries = entries_told t c.fill_exchanges.auto.table c.fill_exchanges.ensures.left c.fill_best.ensures.outcome c.unwrap-entries.ensures in
    omega (arith, entries, pow_pos c.args.pool.size)

pub offset_bounds-best-entries : goal.offset_bounds-best-entries
offset_bounds-best-entries c =
    let t = holds c.requires in
    let entries = entries_told t c.fill_exchanges.auto.table c.fill_exchanges.ensures.left c.fill_best.ensures.outcome c.unwrap-entries.ensures in
    omega (arith, entries, entries_few c.args.pool t.fits)

pub bounds-best-entries : goal.bounds-best-entries
bounds-best-entries c =
    let t = holds c.requires in
    let entries = entries_told t c.fill_exchanges.auto.table c.fill_exchanges.ensures.left c.fill_best.ensures.outcome c.unwrap-entries.ensures in
    omega (arith, entries, pow_pos c.args.pool.size, c.fill_best.auto.table, t.best_long)

pub overflow_cast-result : goal.overflow_cast-result
overflow_cast-result c =
    let t = holds c.requires in
    let one = c.fill_exchanges.ensures.left in
    let same = c.fill_exchanges.auto.table in
    let entries = entries_told t same one c.fill_best.ensures.outcome c.unwrap-entries.ensures in
    omega (arith, few t same one c.fill_best.ensures.left entries)

pub returns : goal.returns
returns c =
    let t = holds c.requires in
    let one = c.fill_exchanges.ensures.left in
    let two = c.fill_best.ensures.left in
    let same = c.fill_exchanges.auto.table in
    let entries = entries_told t same one c.fill_best.ensures.outcome c.unwrap-entries.ensures in
    record {
      outcome = ap₂ (λ (s r : ℕ). accepted (s, r)) (told t same one two entries) c.write_plan.ensures.records;
      exchanges = exchanges_are t same one;
      best = bests_are t same one two;
      plan = c.write_plan.ensures.written;
    }
