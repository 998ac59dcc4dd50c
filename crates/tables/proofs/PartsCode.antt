-- What the code that tries the parts of a set by fours looks up.
use mathlib.Core.Bool.{false}
use mathlib.Core.List.{List}
use mathlib.Core.Path.{◌≡◌, ap, ◌∙◌}
use Prim.Native.Nat.{ℕ, ◌+◌, ◌-◌, ◌<◌}
use native.Mathlib.Omega.{arith}
use lib.Bits.{bit_or, or_comm}
use lib.Dec.{leb}
use lib.ListN.{length, get_or, drop, length-drop}
use lib.Seq.{get_or-drop}
use borrow.Author.Tests.{leb-false}
use Rattle.kep.proofs.Operations.{or_holds}

-- a slice from b on
module _ (b : ℕ) (xs : List ℕ) {later : List ℕ} (e : later ≡ drop b xs) where
  pub from_at : (i : ℕ) → get_or later i 0 ≡ get_or xs (b + i) 0
  from_at i = ap (λ (l : List ℕ). get_or l i 0) e ∙ get_or-drop b xs i 0

  pub from_length : length later ≡ length xs - b
  from_length = ap length e ∙ length-drop b xs

-- none of four numbers reaches k where their bits together do not
or_below : {x y k : ℕ} → bit_or x y < k → (x < k) × (y < k)
or_below {x} {y} l = (omega (arith, or_comm x y, or_holds y x), omega (arith, or_holds x y))

pub four_below : (k c d e g : ℕ) → leb k (bit_or (bit_or (bit_or c d) e) g) ≡ false → (c < k) × (d < k) × (e < k) × (g < k)
four_below k c d e g h =
    let (three, z) = or_below (leb-false k (bit_or (bit_or (bit_or c d) e) g) h) in
    let (two, y) = or_below three in
    let (w, x) = or_below two in
    (w, x, y, z)
