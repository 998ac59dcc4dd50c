-- A turn of the loop over the records: what the answer on record i says of the check of the whole plan.
use mathlib.Core.List.{List}
use mathlib.Core.Path.{◌≡◌, sym, ◌∙◌, ap}
use Prim.Native.Nat.{ℕ, ◌+◌, ◌/◌, ◌<◌}
use native.Mathlib.Numerals.{add-one}
use lib.ListN.{length}
use Rattle.std.specs.Prelude.{Result, Ok, Err}
use Rattle.pool.specs.declared.refusal.Cause.{Cause}
use Rattle.pool.specs.Refusals.{number_of, accepted, refused}
use Rattle.pool.specs.Value.{graph_of}
use Rattle.kep.specs.Exchange.{head_of}
use Rattle.kep.specs.Table.{served}
use Rattle.plans.specs.declared.check_record.Before.{Before}
use Rattle.plans.specs.declared.rules.Rules.{Rules}
use Rattle.plans.specs.Record.{record_at}
use Rattle.plans.specs.Check.{vertices_of, record_tests, check}
use Rattle.plans.specs.inner.CheckSteps.{fresh_in, added, record_check, answer_outcome, RecordChecked}
use Rattle.pool.proofs.Tested.{all_held}
use Rattle.plans.proofs.CheckSteps.{Checking, checking_stop, checking_next}

module _ {s : Rules} {bytes : List ℕ} {b : Before} {i : ℕ} (c : Checking (graph_of s.pool) s.limits.cycle s.limits.chain bytes b.met.0 b.least b.served i)
    (h : i < length bytes / 16) {answer : Result Before Cause} (checked : RecordChecked s b (record_at bytes i) answer) where
  abbrev r : List ℕ
  r = record_at bytes i

  -- it meets a cause
  pub turn_stop : {cause : Cause} → answer ≡ Err cause → refused (number_of cause) i ≡ check (graph_of s.pool) s.limits.cycle s.limits.chain bytes
  turn_stop e = sym (checking_stop (graph_of s.pool) s.limits.cycle s.limits.chain bytes c _ h (sym (checked.at_spot i) ∙ ap (answer_outcome i) e))

  -- it meets none
  pub turn_next : {next : Before} → answer ≡ Ok next → Checking (graph_of s.pool) s.limits.cycle s.limits.chain bytes next.met.0 next.least next.served (i + 1)
  turn_next {next} e =
      let g = graph_of s.pool in
      let xs = vertices_of r in
      let passes : record_check g s.limits.cycle s.limits.chain b i r ≡ accepted (next.met.0, next.least, next.served) = sym (checked.at_spot i) ∙ ap (answer_outcome i) e in
      let held = all_held (record_tests g s.limits.cycle s.limits.chain (fresh_in b.met.0) b.least r) i _ passes in
      let told : ◌≡◌ {A = ℕ × ℕ × ℕ} (next.met.0, next.least, next.served) (added b.met.0 xs, head_of xs + 1, b.served + served g xs) = cc held.1 in
      rw (add-one i, ap (λ t. t.0) told, ap (λ t. t.1) told, ap (λ t. t.2) told, add-one (head_of xs))
      (checking_next g s.limits.cycle s.limits.chain bytes c _ h passes)
