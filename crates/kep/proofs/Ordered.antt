-- Lists in order, by any relation; and that a strictly rising list of things found in a rising list is a part of it.
use mathlib.Core.List.Memᴰ
use mathlib.Core.List.Sublistᴰ
use mathlib.Core.List.{List, ◌∷◌, Sublistᴰ, ◌++◌, Memᴰ, []}
use mathlib.Core.Logic.{◌⊎◌, inl, inr}
use mathlib.Core.Path.{ap, ◌≡◌}
use Prim.Native.Nat.{ℕ, ◌<◌, ◌≤◌}
use native.Mathlib.Omega.{arith}
use Rattle.kep.specs.Lists.{Pairwise, Each, cons, nil, also}
use Rattle.kep.proofs.Each.{each_map, each_part, each_append, each_both, each_at}

module _ {A : Type 0} where
  pub pairwise_first : {R : A → A → Type 0} {x : A} {xs : List A} → Pairwise R (x ∷ xs) → Each (R x) xs
  pairwise_first (cons r o) = r

  pub pairwise_rest : {R : A → A → Type 0} {x : A} {xs : List A} → Pairwise R (x ∷ xs) → Pairwise R xs
  pairwise_rest (cons r o) = o

  pub pairwise_map : {R S : A → A → Type 0} {xs : List A} → ((x y : A) → R x y → S x y) → Pairwise R xs → Pairwise S xs
  pairwise_map f nil = nil
  pairwise_map f (cons {x = x} r o) = cons (each_map (f x) r) (pairwise_map f o)

  pub pairwise_part : {R : A → A → Type 0} {xs ys : List A} → Sublistᴰ xs ys → Pairwise R ys → Pairwise R xs
  pairwise_part Sublistᴰ.slnil o = nil
  pairwise_part (Sublistᴰ.cons s) (cons r o) = pairwise_part s o
  pairwise_part (Sublistᴰ.cons-cons {a = x} {l₁ = xs} e s) (cons r o) = cons {x = x} {xs = xs} (rw e (each_part s r)) (pairwise_part s o)

  pub pairwise_append : {R : A → A → Type 0} {xs ys : List A} → Pairwise R xs → Pairwise R ys → Each (λ x. Each (R x) ys) xs → Pairwise R (xs ++ ys)
  pairwise_append nil o h = o
  pairwise_append (cons r o) o' (also h hs) = cons (each_append r h) (pairwise_append o o' hs)

  module _ (key : A → ℕ) where
    -- found in a list whose first has a smaller key, so found in the rest
    found_later : {y z : A} {ys : List A} → key y < key z → Memᴰ z (y ∷ ys) → Memᴰ z ys
    found_later {y} {z} {ys} l m = go (Memᴰ.cases_cons m)
      where
        go : (z ≡ y) ⊎ Memᴰ z ys → Memᴰ z ys
        go (inl e) = absurd (omega (arith, ap key e))
        go (inr m') = m'

    pub rising_part : (p all : List A) → Pairwise (λ x y. key x < key y) p → Pairwise (λ x y. key x ≤ key y) all → Each (λ x. Memᴰ x all) p
        → Sublistᴰ p all
    rising_part [] all o o' m = Sublistᴰ.nil-sublist all
    rising_part (x ∷ p) [] o o' (also m ms) = absurd (Memᴰ.not-nil m)
    rising_part (x ∷ p) (y ∷ ys) (cons r o) (cons r' o') (also m ms) =
        go (rising_part p ys o o') (rising_part (x ∷ p) ys (cons r o) o') (Memᴰ.cases_cons m)
      where
        later : key y ≤ key x → Each (λ z. Memᴰ z ys) p
        later l = each_map (λ z h. found_later (omega (arith, h.0)) h.1) (each_both r ms)

        go :
            (Each (λ z. Memᴰ z ys) p → Sublistᴰ p ys)
            → (Each (λ z. Memᴰ z ys) (x ∷ p) → Sublistᴰ (x ∷ p) ys)
            → (x ≡ y) ⊎ Memᴰ x ys
            → Sublistᴰ (x ∷ p) (y ∷ ys)
        go take skip (inl e) = Sublistᴰ.cons-cons e (take (later (omega (arith, ap key e))))
        go take skip (inr m') = Sublistᴰ.cons (skip (also m' (later (each_at r' m'))))
