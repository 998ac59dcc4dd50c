-- Bytes of whole records, cut and joined.
use mathlib.Core.List.{List, [], ◌∷◌, ◌++◌}
use mathlib.Core.Path.{◌≡◌, refl, ◌∙◌, ap, ap₂}
use Prim.Native.Nat.{ℕ, zero, suc, ◌*◌}
use native.Mathlib.Nat.{zero-mul, suc-mul}
use native.Mathlib.Omega.{arith}
use lib.ListN.{length, take, drop, length-append, length-drop, take-append-drop}
use lib.Seq.{take_at, drop_at, length-take-le}
use Rattle.kep.specs.Lists.{Each, none, also, flat, cut}

-- records of w bytes
abbrev pub Whole : ℕ → List (List ℕ) → Type 0
Whole w rs = Each (λ r. length r ≡ w) rs

module _ (w : ℕ) where
  -- one record less
  drop_whole : (k : ℕ) (bs : List ℕ) → length bs ≡ suc k * w → length (drop w bs) ≡ k * w
  drop_whole k bs h = omega (arith, length-drop w bs, suc-mul k w)

  -- bytes of k records are cut into whole records, which joined are these bytes
  pub cut_whole : (k : ℕ) (bs : List ℕ) → length bs ≡ k * w → Whole w (cut w k bs)
  unfolding cut
  cut_whole zero bs h = none
  cut_whole (suc k) bs h = also {x = take w bs} (length-take-le w bs (omega (arith, suc-mul k w))) (cut_whole k (drop w bs) (drop_whole k bs h))

  pub cut_joins : (k : ℕ) (bs : List ℕ) → length bs ≡ k * w → flat (cut w k bs) ≡ bs
  unfolding cut flat
  cut_joins zero [] h = refl
  cut_joins zero (b ∷ bs) h = absurd (omega (arith, zero-mul w))
  cut_joins (suc k) bs h = ap (λ cs. take w bs ++ cs) (cut_joins k (drop w bs) (drop_whole k bs h)) ∙ take-append-drop w bs

  -- whole records joined have so many bytes
  pub whole_length : {rs : List (List ℕ)} → Whole w rs → length (flat rs) ≡ length rs * w
  unfolding flat
  whole_length none = omega (arith, zero-mul w)
  whole_length (also {x = r} {xs = rs} h hs) = omega (arith, length-append r (flat rs), suc-mul (length rs) w, whole_length hs)

  -- and are cut into the same records
  pub cut_flat : {rs : List (List ℕ)} → Whole w rs → cut w (length rs) (flat rs) ≡ rs
  unfolding cut flat
  cut_flat none = refl
  cut_flat (also {x = r} {xs = rs} h hs) = ap₂ (λ x xs. x ∷ xs) (take_at r (flat rs) w h) (ap (cut w (length rs)) (drop_at r (flat rs) w h) ∙ cut_flat hs)
