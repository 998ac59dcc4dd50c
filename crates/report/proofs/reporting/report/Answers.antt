use mathlib.Core.List.{List, [], ◌++◌}
use mathlib.Core.Path.{◌≡◌, ap, ◌∙◌}
use Prim.Native.Nat.{ℕ, ◌+◌, ◌*◌, ◌≤◌, min}
use native.Mathlib.Omega.{arith}
use lib.ListN.{length, take, drop}
use Rattle.std.proofs.lemmas.List.{take_min}
use Rattle.reading.specs.Fields.{record_width, most_records}
use Rattle.report.specs.Text.{text_of, whole_text}
use Rattle.report.specs.inner.Writing.{pushed}
use Rattle.report.proofs.Composing.{no_room, room}
use Rattle.report.proofs.Pushing.{whole}
use Rattle.report.proofs.reporting.report.Goals as goal

-- what was composed of what counts of the pool file is the text of it
composed : (pool limits : List ℕ) {end : ℕ} {empty words : List ℕ} → end ≡ min (record_width * (most_records + 2)) (length pool)
    → empty ≡ [] → words ≡ pushed empty (whole_text (take end pool) limits) → length (whole_text (take end pool) limits) ≤ 1024 → words ≡ text_of pool limits
composed pool limits {end} e new told short =
    whole short (told ∙ ap (λ t. pushed t (whole_text (take end pool) limits)) new)
    ∙ ap (λ p. whole_text p limits) (ap (λ k. take k pool) e ∙ take_min (record_width * (most_records + 2)) pool)

pub returns-then-out-length : goal.returns-then-out-length
returns-then-out-length c =
    let a = c.args in
    let words = composed a.pool.now a.limits.now (omega (arith, c.min.ensures)) c.new-text.ensures (c.as_bytes-words.ensures.text ∙ c.compose.ensures.text) c.compose.ensures.short in
    let told = no_room (text_of a.pool.now a.limits.now) a.out.now (omega (arith, ap length words, c.as_bytes-words.ensures.short)) (omega (arith, ap length words)) in
    record { length = told.0; text = told.1.0; short = told.1.1 }

pub returns : goal.returns
returns c =
    let a = c.args in
    let words = composed a.pool.now a.limits.now (omega (arith, c.min.ensures)) c.new-text.ensures (c.as_bytes-words.ensures.text ∙ c.compose.ensures.text) c.compose.ensures.short in
    let given = ap (λ w. w ++ drop (length c.as_bytes-words.result.now) a.out.now) c.copy_from_slice.ensures.after in
    let told = room (text_of a.pool.now a.limits.now) a.out.now (omega (arith, ap length words, c.as_bytes-words.ensures.short)) (omega (arith, ap length words)) words given in
    record { length = told.0; text = told.1.0; short = told.1.1 }
