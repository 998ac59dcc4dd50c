use Rattle.std.proofs.Common.{◌≡◌, ℕ, ◌+◌, ◌≤◌, List, ◌++◌, rules, length, take, drop, subst, le_refl, drop_at, length-take-le}
use Rattle.std.proofs.lemmas.Slice.{take-put_mid_below}
use Rattle.std.specs.Io.KnownBytes.{Consumes}
use Rattle.std.proofs.KnownBytes.{Consumes-trans}
use borrow.Rule.Slice.PartMut.{put_mid, post_of}
use Rattle.std.proofs.Math.Seq.{take-add, take-append-le}
use Rattle.swap.proofs.files.read_whole.Goals as goal

-- n bytes read behind the first d stand behind them
front_with : (d k n : ℕ) (old new : List ℕ) → d ≤ length old → n ≤ length new → take d old ++ take n new ≡ take (d + n) (put_mid d k old new)
front_with d k n old new within fits =
    let all = put_mid d k old new in
    let split : take (d + n) all ≡ take d all ++ take n (drop d all) = take-add d n all in
    let kept : take d all ≡ take d old = take-put_mid_below d k old new d (le_refl d) within in
    let behind : drop d all ≡ new ++ post_of d k old = drop_at (take d old) (new ++ post_of d k old) d (length-take-le d old within) in
    let front : take n (new ++ post_of d k old) ≡ take n new = take-append-le n new (post_of d k old) fits in
    cc

pub loop-done-preserved : goal.loop-done-preserved
loop-done-preserved g c =
    let told = c.in_ok-more.ensures in
    record {
      inside = search rules;
      bytes = subst (Consumes _ _) (front_with _ _ _ c.loop-done.buffer _ c.loop-done.invariant.inside told.bound.0) (Consumes-trans _ _ _ _ _ c.loop-done.invariant.bytes told.bytes.0);
    }
