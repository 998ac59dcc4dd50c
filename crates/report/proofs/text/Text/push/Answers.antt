use mathlib.Core.Path.{◌≡◌, ap, ◌∙◌}
use mathlib.Core.List.{◌++◌}
use Prim.Native.Nat.{◌+◌, ◌-◌}
use native.Mathlib.Omega.{arith}
use lib.ListN.{length, take}
use lib.Seq.{length-take-le}
use Rattle.std.proofs.lemmas.Slice.{take-put_mid}
use Rattle.report.specs.inner.Writing.{pushed}
use Rattle.report.proofs.Pushing.{fitted}
use Rattle.report.proofs.text.Text.push.Goals as goal

pub returns : goal.returns
returns c =
    let end = c.self.inside.end in
    let bytes = c.self.inside.bytes in
    let word = c.args.word.now in
    let n = c.min-fitting.result in
    let lent = c.self.told in
    let copied : c.copy_from_slice.new.self ≡ take n word = c.copy_from_slice.ensures.after in
    let long : n ≡ length c.copy_from_slice.new.self = omega (arith, ap length copied, length-take-le n word (omega (arith, c.min-fitting.ensures))) in
    take-put_mid end (end + n - end) bytes c.copy_from_slice.new.self (end + n) (omega arith) (omega arith)
    ∙ ap (λ w. take end bytes ++ w) copied
    ∙ fitted (take end bytes) word (1024 - end) n (omega (arith, length-take-le end bytes (omega arith))) (omega (arith, c.min-fitting.ensures))
    ∙ ap (λ t. pushed t word) c.self.view_is
