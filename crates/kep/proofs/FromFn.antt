-- An array made of a function of the index, by a closure that changes nothing.
use mathlib.Core.List.{List}
use mathlib.Core.Path.{◌≡◌, sym, subst, ◌∙◌}
use Prim.Native.Nat.{ℕ, zero, suc, ◌+◌, ◌≤◌, ◌<◌}
use native.Mathlib.Decide.{ℕ_discrete}
use native.Mathlib.Omega.{arith}
use denote.Param.Members.{Mut, Called}
use lib.ListN.{get_or}
use lib.Seq.{ext_get_or}
use Rattle.std.specs.Array.{IsFromFnResultFrom, IsFromFnResult}
use Rattle.kep.specs.Lists.{tabulate}
use Rattle.kep.proofs.Tables.{length_tabulate, get_d_whole}

module _ {F : Type 0} (g : Mut F (ℕ × Unit {0}) ℕ) (h : ℕ → ℕ) (f : F) (calls : (i y : ℕ) (q : F) → Called g f (i, tt) y q → (y ≡ h i) × (q ≡ f)) where
  made_from : (ys : List ℕ) (n i k : ℕ) → IsFromFnResultFrom g f ys i n → i ≤ k → k < i + n → get_or ys k 0 ≡ h k
  made_from ys zero i k _ le lt = absurd (omega arith)
  made_from ys (suc n) i k (q, y, is_at, call, rest) le lt =
      let (value, same) = calls i y q call in
      elim (ℕ_discrete k i) [
        | yes e ↦ rw e (is_at.1 0 ∙ value)
        | no ne ↦ made_from ys n (i + 1) k (subst (λ (p : F). IsFromFnResultFrom g p ys (i + 1) n) same rest) (omega arith) (omega arith)
      ]

  pub from_fn_tabulated : {ys : List ℕ} (n : ℕ) → IsFromFnResult g f ys n → ys ≡ tabulate h n
  from_fn_tabulated {ys} n made =
      ext_get_or 0 ys (tabulate h n) (made.long ∙ sym (length_tabulate h n))
      (λ k l. made_from ys n 0 k made.each (omega arith) (omega (arith, made.long)) ∙ sym (get_d_whole h n k (omega (arith, made.long))))
