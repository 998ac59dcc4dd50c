use mathlib.Core.Path.{◌≡◌, refl}
use Prim.Native.Nat.{◌-◌}
use native.Mathlib.Omega.{arith}
use borrow.Author.Rules.{rules}
use borrow.Rule.Slice.PartMut.{put_mid, same_len_mid}
use lib.ListN.{length}
use Rattle.kep.proofs.Parts.{part_le}
use Rattle.kep.proofs.Told.{none_told}
use Rattle.clearing.proofs.Seek.{next_lt, has_with, opens, ended, room, deeper_falls, deeper, kept_there, found_there, none_there, onward_falls}
use Rattle.clearing.proofs.seeking.Step.+seek.Goals as goal

pub loop-v-init : goal.loop-v-init
loop-v-init t c =
    record {
      long = c.requires.room;
      untouched = λ S n. refl;
      same_bytes = refl;
      fits = omega arith;
      entering = c.requires.entering;
      opens = opens c.args.self.now.few c.requires.entering c.open_at-left.ensures;
    }

pub slice_bounds-seek-count : goal.slice_bounds-seek-count
slice_bounds-seek-count t c = room c.args.self.now.few c.loop-v.invariant c.take_lowest.ensures.told c.in-Some.is

pub slice_bounds-seek-start : goal.slice_bounds-seek-start
slice_bounds-seek-start t c = room c.args.self.now.few c.loop-v.invariant c.take_lowest.ensures.told c.in-Some.is

pub seek-requires : goal.seek-requires
seek-requires t c =
    let few = c.args.self.now.few in
    let inv = c.loop-v.invariant in
    let tells = c.take_lowest.ensures.told in
    let put = c.with.ensures in
    (omega (arith, deeper_falls few inv tells c.in-Some.is put), (omega arith, deeper few inv tells c.in-Some.is put (search rules)))

pub bounds-bytes-0 : goal.bounds-bytes-0
bounds-bytes-0 t c =
    let b = c.loop-v.bytes in
    let same : length (put_mid 1 (length b - 1) b c.seek.new.bytes) ≡ length b = same_len_mid 1 (length b - 1) b c.seek.new.bytes c.seek.auto.bytes in
    omega (arith, same, room c.args.self.now.few c.loop-v.invariant c.take_lowest.ensures.told c.in-Some.is)

pub returns-in-Some-seek : goal.returns-in-Some-seek
returns-in-Some-seek t c =
    let few = c.args.self.now.few in
    let inv = c.loop-v.invariant in
    let tells = c.take_lowest.ensures.told in
    let put = c.with.ensures in
    let e = c.seek.ensures in
    record { dead = e.dead; kept = kept_there few inv tells c.in-Some.is put e.kept; sought = rw (← c.in-Some-seek.is) (found_there few inv tells c.in-Some.is put e.sought c.in-Some-seek.is) }

pub loop-v-smaller : goal.loop-v-smaller
loop-v-smaller t c = onward_falls c.args.self.now.few c.loop-v.invariant c.take_lowest.ensures.told c.in-Some.is c.take_lowest.ensures.left

pub loop-v-preserved : goal.loop-v-preserved
loop-v-preserved t c =
    let e = c.seek.ensures in
    let taken = c.take_lowest.ensures in
    none_there c.args.self.now.few c.loop-v.invariant taken.told c.in-Some.is c.with.ensures e.sought taken.left c.in_default-seek.is (omega arith) e.dead e.kept

pub end_at-requires : goal.end_at-requires
end_at-requires t c = record { inside = part_le c.requires.entering.part; room = omega arith }

pub invariant_of-longer : goal.invariant_of-longer
invariant_of-longer t c =
    record { ends_there = has_with c.args.path.set.0 c.in-Some.v c.with.ensures (search rules) (next_lt c.args.self.now.few c.loop-v.invariant c.take_lowest.ensures.told c.in-Some.is) }

pub returns : goal.returns
returns t c =
    let inv = c.loop-v.invariant in
    let none = none_told _ c.take_lowest.ensures.told c.in_default.is in
    let told = ended c.args.self.now.few inv.entering inv.opens none refl inv.long inv.same_bytes inv.untouched c.end_at.ensures.told c.end_at.ensures.kept in
    record { dead = told.0; kept = told.1.0; sought = told.1.1 }
