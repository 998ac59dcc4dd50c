-- What is told of a number that may be 0: nothing of 0, else one thing.
use mathlib.Core.Logic.{◌≢◌}
use mathlib.Core.Path.{◌≡◌}
use Prim.Native.Nat.{ℕ}
use native.Mathlib.Decide.{ℕ_discrete}
use lib.Dec.{eqb}
use borrow.Author.Tests.{ne_eqb}
use Rattle.std.proofs.Common.{Option, Some, None, if◌then◌else◌}

module _ {A : Type 0} {s : ℕ} (x : A) {told : Option A} (tells : told ≡ (if eqb s 0 then None else Some x)) where
  pub none_told : told ≡ None → s ≡ 0
  none_told none = elim (ℕ_discrete s 0) [ yes z ↦ z | no n ↦ let some = rw (ne_eqb s 0 n) at tells in cc ]

  pub some_told : {y : A} → told ≡ Some y → (s ≢ 0) × (y ≡ x)
  some_told one = elim (ℕ_discrete s 0) [
    | yes z ↦ let none = rw z at tells in cc
    | no n ↦ let some = rw (ne_eqb s 0 n) at tells in (n, (cc))
  ]
