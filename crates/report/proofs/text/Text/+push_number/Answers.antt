use mathlib.Core.List.{[], ◌∷◌}
use mathlib.Core.Path.{◌≡◌, ap, ap₂, sym, ◌∙◌}
use Prim.Native.Nat.{ℕ, ◌+◌, ◌%◌, ◌<◌}
use native.Mathlib.Omega.{arith}
use Rattle.report.specs.Text.{decimal}
use Rattle.report.specs.inner.Writing.{pushed}
use Rattle.report.proofs.Decimal.{decimal_one, decimal_more}
use Rattle.report.proofs.Pushing.{then, said}
use Rattle.report.proofs.text.Text.+push_number.Goals.{then-n-ge10, else-n-ge10}
use Rattle.report.proofs.text.Text.+push_number.Goals as goal

-- the last digit is the only one
one : (n : ℕ) → n < 10 → (48 + n % 10) ∷ [] ≡ decimal n
one n h = let same : n % 10 ≡ n = omega arith in ap (λ d. (48 + d) ∷ []) same ∙ sym (decimal_one n h)

pub returns : goal.returns
returns t c =
    let old = c.args.self.now in
    let n = c.args.n in
    elim c.if-n-ge10.branch [
      | then-n-ge10 w ↦ said old (sym (decimal_more n w.if-n-ge10.true)) (then old _ _ (w.self-is ∙ w.push_number.ensures) c.push.ensures)
      | else-n-ge10 w ↦ c.push.ensures ∙ ap₂ pushed w.self-is (one n w.if-n-ge10.false)
    ]
