use mathlib.Core.Bool.{not, ◌&&◌}
use mathlib.Core.List.{List}
use mathlib.Core.Logic.{◌≢◌}
use mathlib.Core.Path.{◌≡◌, sym, ◌∙◌}
use Prim.Native.Nat.{ℕ, ◌+◌, ◌-◌, ◌^◌, ◌<◌}
use native.Mathlib.Omega.{arith}
use lib.ListN.{get_or}
use Rattle.std.proofs.Common.{Option, Some, None}
use Rattle.pool.specs.declared.value.Pool.{Pool}
use Rattle.pool.specs.declared.limits.Limits.{Limits}
use Rattle.pool.specs.Value.{graph_of}
use Rattle.kep.specs.Sets.{has, set_where, lowest_below, without_vertex}
use Rattle.kep.specs.inner.Lowest.{lowest}
use Rattle.kep.specs.computed.Table.{best_of}
use Rattle.kep.specs.Plan.{FitRecords}
use Rattle.tables.specs.Calls.{worth_in}
use Rattle.kep.proofs.Operations.{below_set}
use Rattle.kep.proofs.ExchangeFacts.{small_fits}
use Rattle.pool.proofs.ValueLaws.{fits_size, entries_few}
use Rattle.clearing.specs.declared.step.Taken.{Taken}
use Rattle.clearing.specs.inner.Taking.{Choosing, Clean, Stepped, pool_field}
use Rattle.clearing.proofs.ChoosingCode.{MadeOf, with_next, made_start, made_room, made_count, made_plan, step_none, step_one, part_end}
use Rattle.kep.proofs.Greedy.{best_nonempty}
use Rattle.clearing.proofs.StepCode.{best_long, best_at, means}
use Rattle.clearing.proofs.choice.Choice.choose.Goals as goal

-- a turn of the loop: something can be gained
module _ {p : Pool} {l : Limits} {givers exchanges best : List ℕ} (k : Choosing p l givers exchanges best)
    {plan₀ plan : List ℕ} {free records : ℕ}
    (m : MadeOf p l plan₀ plan free records)
    (some : get_or best free 0 ≢ 0)
  where
    fit : FitRecords (graph_of p) l.cycle l.chain
    fit = small_fits (fits_size p k.fits)

    gain : 0 < best_of (worth_in p) (graph_of p) l.cycle l.chain free
    gain = omega (arith, best_at k.hold free m.inside)

    nonempty : 0 < free
    nonempty = best_nonempty (graph_of p) l.cycle l.chain (worth_in p) gain

    -- so there is room for a record
    room : records < p.size
    room = made_room (graph_of p) l.cycle l.chain fit (worth_in p) m gain

    -- a step was made
    module _ {told : Option Taken} {dead : List ℕ} (step : Stepped (graph_of p) (pool_field p exchanges best free) told) (clean : Clean (free - 2 ^ lowest free) dead) where
      -- no exchange is taken
      skips : told ≡ None → {v next : ℕ} → v ≡ lowest_below 16 free → next ≡ without_vertex 16 free v → (next < free) × (MadeOf p l plan₀ plan next records × Clean next dead)
      skips none found e =
          step_none (graph_of p) l.cycle l.chain fit (worth_in p) (means k.hold free m.inside) m gain step none (omega (arith, m.inside, entries_few p k.fits)) found e clean

      -- one is
      goes_on : {taken : Taken} → told ≡ Some taken → {next : ℕ} → next ≡ set_where 16 (λ u. has free u && not (has taken.set.0 u))
          → (next < free) × (MadeOf p l plan₀ (with_next plan records taken.bytes) next (records + 1) × Clean next dead)
      goes_on one e = step_one (graph_of p) l.cycle l.chain fit (worth_in p) (means k.hold free m.inside) m gain step one (omega (arith, m.inside, entries_few p k.fits)) e clean

pub loop-free-init : goal.loop-free-init
loop-free-init c =
    let s = c.args.self.now in
    let small = fits_size s.pool s.choosing.fits in
    let n = s.pool.size in
    rw (c.below-free.ensures ∙ below_set 16 n n (omega (arith, small)) (λ u l. (λ h. h, λ h. h)))
    (record { made = made_start (graph_of s.pool) s.limits.cycle s.limits.chain (small_fits small) (worth_in s.pool) c.args.plan.now; clean = c.requires.clean })

pub bounds-self-from : goal.bounds-self-from
bounds-self-from c = omega (arith, c.from.ensures, c.loop-free.invariant.made.inside, best_long c.args.self.now.choosing.hold)

pub take_exchange-requires-clause-some : goal.take_exchange-requires-clause-some
take_exchange-requires-clause-some c = nonempty c.args.self.now.choosing c.loop-free.invariant.made (rw c.from.ensures at c.loop-free-test.true)

pub slice_bounds-copy_from_slice-end : goal.slice_bounds-copy_from_slice-end
slice_bounds-copy_from_slice-end c = part_end (room c.args.self.now.choosing c.loop-free.invariant.made (rw c.from.ensures at c.loop-free-test.true)) c.requires.room c.loop-free.auto.plan

pub loop-free-smaller-in-Some : goal.loop-free-smaller-in-Some
loop-free-smaller-in-Some c =
    let t = c.take_exchange.ensures in
    (goes_on c.args.self.now.choosing c.loop-free.invariant.made (rw c.from.ensures at c.loop-free-test.true) t.stepped t.clean c.in-Some.is c.sub-free.ensures).0

pub loop-free-preserved-in-Some : goal.loop-free-preserved-in-Some
loop-free-preserved-in-Some c =
    let t = c.take_exchange.ensures in
    let next = (goes_on c.args.self.now.choosing c.loop-free.invariant.made (rw c.from.ensures at c.loop-free-test.true) t.stepped t.clean c.in-Some.is c.sub-free.ensures).1 in
    record { made = rw c.copy_from_slice.ensures.after next.0; clean = next.1 }

pub loop-free-smaller : goal.loop-free-smaller
loop-free-smaller c =
    let t = c.take_exchange.ensures in
    (skips c.args.self.now.choosing c.loop-free.invariant.made (rw c.from.ensures at c.loop-free-test.true) t.stepped t.clean c.in_default.is c.lowest.ensures c.without-free.ensures).0

pub loop-free-preserved : goal.loop-free-preserved
loop-free-preserved c =
    let t = c.take_exchange.ensures in
    let next = (skips c.args.self.now.choosing c.loop-free.invariant.made (rw c.from.ensures at c.loop-free-test.true) t.stepped t.clean c.in_default.is c.lowest.ensures c.without-free.ensures).1 in
    record { made = next.0; clean = next.1 }

pub returns : goal.returns
returns c =
    let s = c.args.self.now in
    let g = graph_of s.pool in
    let fit = small_fits (fits_size s.pool s.choosing.fits) in
    let made = c.loop-free.invariant.made in
    let end = sym (best_at s.choosing.hold c.loop-free.free.0 made.inside) ∙ (rw c.from.ensures at c.loop-free-test.false) in
    record {
      records = made_count g s.limits.cycle s.limits.chain fit (worth_in s.pool) made end;
      written = made_plan g s.limits.cycle s.limits.chain fit (worth_in s.pool) made end;
    }
