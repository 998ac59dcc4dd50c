-- `arrangements` lists every list that repeats none of the numbers given.
use mathlib.Core.Bool.{Bool, true, false}
use mathlib.Core.List.Memᴰ
use mathlib.Core.List.{List, Memᴰ, ◌∷◌, [], map}
use mathlib.Core.Logic.{◌≢◌}
use mathlib.Core.Path.{ap, refl, ◌≡◌, ◌∙◌, sym}
use Prim.Native.Nat.{ℕ, suc, ◌≤◌, zero, ◌<◌}
use native.Mathlib.Omega.{arith}
use lib.Dec.{T, eqb}
use lib.ListN.{length}
use borrow.Author.Tests.{eqb-true, eqb-false}
use Rattle.kep.specs.computed.Arrangements.{concat_map, remove, arrangements}
use Rattle.kep.specs.Lists.{distinct, Each, also, upto}
use Rattle.kep.proofs.Each.{each_map, each_both}
use Rattle.kep.proofs.ListLaws.{distinct_first, distinct_rest, upto_length, upto_in}

-- what one number of a list gives is in what all of them give
concat_in : {A : Type 0} (f : ℕ → List A) {x : ℕ} {xs : List ℕ} {a : A} → Memᴰ x xs → Memᴰ a (f x) → Memᴰ a (concat_map f xs)
unfolding concat_map
concat_in f (Memᴰ.head {x = y} {xs = xs} e) m = Memᴰ.append_left (concat_map f xs) (rw e at m)
concat_in f (Memᴰ.tail {x = y} h) m = Memᴰ.append_right (f y) (concat_in f h m)

-- what is left after a number is taken away
remove_in : (x : ℕ) {y : ℕ} {xs : List ℕ} → x ≢ y → Memᴰ y xs → Memᴰ y (remove x xs)
unfolding remove
remove_in x {y} d (Memᴰ.head {x = z} {xs = zs} e) = go (eqb x z) refl
  where
    go : (b : Bool) → eqb x z ≡ b → Memᴰ y (elim b [ true ↦ zs | false ↦ z ∷ remove x zs ])
    go true q = absurd (d (eqb-true x z q ∙ sym e))
    go false q = Memᴰ.head e
remove_in x {y} d (Memᴰ.tail {x = z} {xs = zs} m) = go (eqb x z) (remove_in x d m)
  where
    go : (b : Bool) → Memᴰ y (remove x zs) → Memᴰ y (elim b [ true ↦ zs | false ↦ z ∷ remove x zs ])
    go true r = m
    go false r = Memᴰ.tail r

remove_length : (x : ℕ) {xs : List ℕ} → Memᴰ x xs → suc (length (remove x xs)) ≡ length xs
unfolding remove
remove_length x (Memᴰ.head {x = z} {xs = zs} e) = go (eqb x z) refl
  where
    go : (b : Bool) → eqb x z ≡ b → suc (length {A = ℕ} (elim b [ true ↦ zs | false ↦ z ∷ remove x zs ])) ≡ suc (length zs)
    go true q = refl
    go false q = absurd (eqb-false x z q e)
remove_length x (Memᴰ.tail {x = z} {xs = zs} m) = go (eqb x z) (remove_length x m)
  where
    go : (b : Bool) → suc (length (remove x zs)) ≡ length zs → suc (length {A = ℕ} (elim b [ true ↦ zs | false ↦ z ∷ remove x zs ])) ≡ suc (length zs)
    go true r = refl
    go false r = ap suc r

-- each list of different numbers of those given is listed
arrangements_in : (k : ℕ) (left xs : List ℕ) → length left ≤ k → T (distinct xs) → Each (λ x. Memᴰ x left) xs → Memᴰ xs (arrangements k left)
unfolding arrangements
arrangements_in zero left [] l d h = Memᴰ.head refl
arrangements_in zero [] (x ∷ xs) l d (also m ms) = absurd (Memᴰ.not-nil m)
arrangements_in zero (y ∷ left) (x ∷ xs) l d h = absurd (omega arith)
arrangements_in (suc k) left [] l d h = Memᴰ.head refl
arrangements_in (suc k) left (x ∷ xs) l d (also m ms) =
    let fewer : length (remove x left) ≤ k = omega (arith, remove_length x m) in
    let found = each_map (λ y h. remove_in x h.0 h.1) (each_both (distinct_first x xs d) ms) in
    let rest = arrangements_in k (remove x left) xs fewer (distinct_rest x xs d) found in
    Memᴰ.tail (concat_in (λ y. map (λ ys. y ∷ ys) (arrangements k (remove y left))) m (Memᴰ.map (λ ys. x ∷ ys) rest))

-- each list of different numbers below n is listed
pub arrangements_complete : (n : ℕ) (xs : List ℕ) → T (distinct xs) → Each (λ x. x < n) xs → Memᴰ xs (arrangements n (upto n 0))
arrangements_complete n xs d h =
    arrangements_in n (upto n 0) xs (omega (arith, upto_length n 0)) d (each_map (λ x l. upto_in n 0 x (omega arith) (omega arith)) h)
