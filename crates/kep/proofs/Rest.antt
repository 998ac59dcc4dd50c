-- Loops that go through a list from the front: what is left of it from i on.
use mathlib.Core.List.{List, [], ◌∷◌}
use mathlib.Core.Path.{◌≡◌}
use Prim.Native.Nat.{ℕ, zero, suc, ◌+◌, ◌≤◌, ◌<◌}
use native.Mathlib.Nat.{not-suc-le-zero, le_of_suc-le-suc}
use native.Mathlib.Numerals.{add-one}
use lib.ListN.{length, drop, get_or, drop_of_length-le}
use lib.Seq.{drop-cons}
use Rattle.kep.specs.Lists.{Each, none, also}

-- the rest from i on is what stands at i, and the rest from the next on; at the end there is none
pub rest_next : (xs : List ℕ) (i : ℕ) → i < length xs → drop i xs ≡ get_or xs i 0 ∷ drop (i + 1) xs
rest_next xs i h = rw (add-one i) (drop-cons xs i 0 h)

pub rest_none : (xs : List ℕ) (i : ℕ) → length xs ≤ i → drop i xs ≡ []
rest_none xs i h = drop_of_length-le xs {i = i} h

-- what holds of each holds at i
pub each_here : {P : ℕ → Type 0} {xs : List ℕ} (i : ℕ) → Each P xs → i < length xs → P (get_or xs i 0)
each_here zero (also h hs) l = h
each_here (suc i) (also h hs) l = each_here i hs (le_of_suc-le-suc l)
each_here i none l = absurd (not-suc-le-zero l)
