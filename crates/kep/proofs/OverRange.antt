-- A test of all numbers below n, as the library's `all` over a range makes it, by a closure that changes nothing.
use mathlib.Core.Bool.{Bool, true, false, ◌&&◌}
use mathlib.Core.Path.{◌≡◌, refl, ap, ◌∙◌}
use Prim.Native.Nat.{ℕ, zero, suc, ◌+◌}
use native.Mathlib.Omega.{arith}
use denote.Param.Members.{Mut, Called}
use Rattle.std.specs.declared.ops.Range.{Range}
use Rattle.std.specs.Iterator.{ChecksAll}
use Rattle.std.specs.List.{list_all, range_with_len}
use Rattle.std.proofs.iter.Yields.{nat_range_steps}
use Rattle.std.proofs.lemmas.Iterator.{YieldsList-from_range}
use Rattle.std.proofs.lemmas.Iterator.Search.{all_from_yields_List}
use Rattle.kep.specs.Lists.{all, upto}

all_in_range : (p : ℕ → Bool) (n from : ℕ) → list_all p (range_with_len from n) ≡ all p (upto n from)
unfolding all upto
all_in_range p zero from = refl
all_in_range p (suc n) from = first (p from) (all_in_range p n (from + 1) ∙ ap (λ k. all p (upto n k)) (omega arith))
  where
    first : (b : Bool) {rest more : Bool} → rest ≡ more → (b && rest) ≡ elim b [ true ↦ more | false ↦ false ]
    first true e = e
    first false e = refl

module _ {F : Type 0} {g : Mut F (ℕ × Unit {0}) Bool} (p : ℕ → Bool) (f : F) (calls : (v : ℕ) (b : Bool) (q : F) → Called g f (v, tt) b q → (q ≡ f) × (b ≡ p v)) where
  pub all_below : (n : ℕ) {r : Bool} {s : Range ℕ} → ChecksAll nat_range_steps g (record { start = 0; end = n }) f r s → r ≡ all p (upto n 0)
  all_below n {r} {s} checks = all_from_yields_List p s f r checks (YieldsList-from_range 0 n n refl (omega arith)) calls ∙ all_in_range p n 0
