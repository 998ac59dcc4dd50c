use mathlib.Core.List.{[]}
use mathlib.Core.Path.{◌≡◌, ap, ap₂, ◌∙◌}
use Prim.Native.Nat.{◌+◌}
use native.Mathlib.Omega.{arith}
use Rattle.std.proofs.lemmas.List.{at_drop_all}
use lib.ListN.{length, drop, get_or, length-append}
use Rattle.report.specs.Text.{served_line, record_line, record_lines}
use Rattle.report.specs.inner.Writing.{pushed}
use Rattle.report.proofs.Lengths.{served_short}
use Rattle.report.proofs.LineLaws.{lines_next}
use Rattle.report.proofs.Pushing.{going_start, going_on, going_done, pushed_short}
use Rattle.report.proofs.text.Text.push_plan.Goals as goal

pub loop-bytes-init : goal.loop-bytes-init
loop-bytes-init c =
    let a = c.args in
    let line : c.push_numbers.new.self ≡ pushed a.self.now (served_line a.served a.members) = c.push_numbers.ensures ∙ ap₂ (λ s m. pushed a.self.now (served_line s m)) c.from.ensures c.from-2.ensures in
    (going_start a.self.now (served_line a.served a.members) (record_lines a.records.now) line, pushed_short _ _ line, omega arith)

pub loop-bytes-preserved : goal.loop-bytes-preserved
loop-bytes-preserved c =
    let l = c.loop-bytes in
    let line = get_or c.args.records.now l.bytes-index [] in
    let next = lines_next c.args.records.now l.bytes-index (omega arith) in
    let more = c.push_record.ensures in (
      going_on l.self _ _ next l.invariant.0 more.text,
      pushed_short _ _ more.text,
      omega (arith, l.invariant.2, more.short, ap length next, length-append (record_line line) (record_lines (drop (l.bytes-index + 1) c.args.records.now))),
    )

pub returns : goal.returns
unfolding record_lines
returns c =
    let l = c.loop-bytes in
    let a = c.args in
    let done = at_drop_all record_lines a.records.now l.bytes-index (omega arith) in
    record {
      text = going_done l.self l.invariant.1 done l.invariant.0;
      short = omega (arith, l.invariant.2, ap length done, served_short a.served a.members (omega arith) (omega arith), length-append (served_line a.served a.members) (record_lines a.records.now));
    }
