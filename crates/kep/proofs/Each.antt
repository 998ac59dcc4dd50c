-- What holds of each thing in a list, and what `keep` keeps.
use mathlib.Core.Bool.{Bool, true, false}
use mathlib.Core.List.{List, ◌∷◌, map, [], Memᴰ, ◌++◌, Sublistᴰ}
use mathlib.Core.Path.{ap, refl, ◌≡◌}
use Prim.Native.Nat.{suc, ◌+◌, ◌≤◌}
use native.Mathlib.Omega.{arith}
use lib.Dec.{T}
use lib.ListN.{length}
use Rattle.kep.specs.Lists.{Each, also, none, keep}

module _ {A : Type 0} where
  pub each_first : {P : A → Type 0} {x : A} {xs : List A} → Each P (x ∷ xs) → P x
  each_first (also h hs) = h

  pub each_rest : {P : A → Type 0} {x : A} {xs : List A} → Each P (x ∷ xs) → Each P xs
  each_rest (also h hs) = hs

  pub each_map : {P Q : A → Type 0} {xs : List A} → ((x : A) → P x → Q x) → Each P xs → Each Q xs
  each_map f none = none
  each_map f (also {x = x} h hs) = also (f x h) (each_map f hs)

  pub each_both : {P Q : A → Type 0} {xs : List A} → Each P xs → Each Q xs → Each (λ x. P x × Q x) xs
  each_both none none = none
  each_both (also h hs) (also k ks) = also (h, k) (each_both hs ks)

  pub each_any : {P : A → Type 0} → ((x : A) → P x) → (xs : List A) → Each P xs
  each_any f [] = none
  each_any f (x ∷ xs) = also (f x) (each_any f xs)

  pub each_of : {P : A → Type 0} (xs : List A) → ((x : A) → Memᴰ x xs → P x) → Each P xs
  each_of [] f = none
  each_of (x ∷ xs) f = also (f x (Memᴰ.head refl)) (each_of xs (λ y m. f y (Memᴰ.tail m)))

  pub each_at : {P : A → Type 0} {x : A} {xs : List A} → Each P xs → Memᴰ x xs → P x
  each_at {P = P} none m = elim m [ ]
  each_at (also h hs) (Memᴰ.head e) = rw e h
  each_at (also h hs) (Memᴰ.tail m) = each_at hs m

  pub each_append : {P : A → Type 0} {xs ys : List A} → Each P xs → Each P ys → Each P (xs ++ ys)
  each_append none k = k
  each_append (also h hs) k = also h (each_append hs k)

  pub each_append_left : {P : A → Type 0} (xs ys : List A) → Each P (xs ++ ys) → Each P xs
  each_append_left [] ys h = none
  each_append_left (x ∷ xs) ys (also h hs) = also h (each_append_left xs ys hs)

  pub each_append_right : {P : A → Type 0} (xs : List A) {ys : List A} → Each P (xs ++ ys) → Each P ys
  each_append_right [] h = h
  each_append_right (x ∷ xs) (also h hs) = each_append_right xs hs

  pub each_mapped : {B : Type 0} {P : A → Type 0} {Q : B → Type 0} {xs : List A} (f : A → B) → ((x : A) → P x → Q (f x)) → Each P xs → Each Q (map f xs)
  each_mapped f g none = none
  each_mapped f g (also {x = x} h hs) = also (g x h) (each_mapped f g hs)

  -- what holds of each thing in a list holds of each thing in a part of it
  pub each_part : {P : A → Type 0} {xs ys : List A} → Sublistᴰ xs ys → Each P ys → Each P xs
  each_part Sublistᴰ.slnil h = none
  each_part (Sublistᴰ.cons s) h = each_part s (each_rest h)
  each_part (Sublistᴰ.cons-cons {a = x} e s) h = also {x = x} (rw e (each_first h)) (each_part s (each_rest h))

-- ---- what passes a test

module _ {A : Type 0} (p : A → Bool) where
  pub keep_yes : (x : A) (xs : List A) → p x ≡ true → keep p (x ∷ xs) ≡ x ∷ keep p xs
  unfolding keep
  keep_yes x xs e = ap {B = List A} (λ (b : Bool). elim b [ true ↦ x ∷ keep p xs | false ↦ keep p xs ]) e

  pub keep_no : (x : A) (xs : List A) → p x ≡ false → keep p (x ∷ xs) ≡ keep p xs
  unfolding keep
  keep_no x xs e = ap {B = List A} (λ (b : Bool). elim b [ true ↦ x ∷ keep p xs | false ↦ keep p xs ]) e

  -- one thing more is at most one more kept
  pub keep_one : (x : A) (xs : List A) → length (keep p (x ∷ xs)) ≤ suc (length (keep p xs))
  keep_one x xs = go (p x) refl
    where
      go : (b : Bool) → p x ≡ b → length (keep p (x ∷ xs)) ≤ suc (length (keep p xs))
      go true e = rw (keep_yes x xs e) (omega arith)
      go false e = rw (keep_no x xs e) (omega arith)

  -- as many more as one thing brings
  pub keep_more : (x : A) (xs : List A) → length (keep p (xs ++ (x ∷ []))) ≡ length (keep p (x ∷ [])) + length (keep p xs)
  unfolding keep
  keep_more x [] = omega arith
  keep_more x (y ∷ ys) = go (p y) (keep_more x ys)
    where
      go : (b : Bool) → length (keep p (ys ++ (x ∷ []))) ≡ length (keep p (x ∷ [])) + length (keep p ys)
          → length {A = A} (elim b as (λ _. List A) [ true ↦ y ∷ keep p (ys ++ (x ∷ [])) | false ↦ keep p (ys ++ (x ∷ [])) ])
          ≡ length (keep p (x ∷ [])) + length {A = A} (elim b as (λ _. List A) [ true ↦ y ∷ keep p ys | false ↦ keep p ys ])
      go true ih = omega arith
      go false ih = ih

  -- so no more are kept than there were
  pub keep_length : (xs : List A) → length (keep p xs) ≤ length xs
  unfolding keep
  keep_length [] = omega arith
  keep_length (x ∷ xs) = omega (arith, keep_one x xs, keep_length xs)

  -- `keep` keeps what passes the test, and nothing else
  pub keep_each : (xs : List A) → Each (λ x. T (p x)) (keep p xs)
  unfolding keep
  keep_each [] = none
  keep_each (x ∷ xs) = go (p x) refl (keep_each xs)
    where
      go : (b : Bool) → p x ≡ b → Each (λ y. T (p y)) (keep p xs) → Each (λ y. T (p y)) (elim b [ true ↦ x ∷ keep p xs | false ↦ keep p xs ])
      go true e r = also {x = x} (rw e tt) r
      go false e r = r

  pub keep_part : (xs : List A) → Sublistᴰ (keep p xs) xs
  unfolding keep
  keep_part [] = Sublistᴰ.slnil
  keep_part (x ∷ xs) = go (p x) (keep_part xs)
    where
      go : (b : Bool) → Sublistᴰ (keep p xs) xs → Sublistᴰ (elim b [ true ↦ x ∷ keep p xs | false ↦ keep p xs ]) (x ∷ xs)
      go true r = Sublistᴰ.cons-cons refl r
      go false r = Sublistᴰ.cons r

  -- what is kept was there and passes
  pub keep_out : (xs : List A) {x : A} → Memᴰ x (keep p xs) → Memᴰ x xs × T (p x)
  keep_out xs m = (each_at (each_part (keep_part xs) (each_of xs (λ y n. n))) m, each_at (keep_each xs) m)

  -- what was there and passes is kept
  pub keep_in : {x : A} {xs : List A} → Memᴰ x xs → T (p x) → Memᴰ x (keep p xs)
  unfolding keep
  keep_in {x} (Memᴰ.head {x = y} {xs = xs} e) h = go (p y) (rw e at h)
    where
      go : (b : Bool) → T b → Memᴰ x (elim b [ true ↦ y ∷ keep p xs | false ↦ keep p xs ])
      go true t = Memᴰ.head e
      go false t = absurd t
  keep_in {x} (Memᴰ.tail {x = y} {xs = xs} m) h = go (p y) (keep_in m h)
    where
      go : (b : Bool) → Memᴰ x (keep p xs) → Memᴰ x (elim b [ true ↦ y ∷ keep p xs | false ↦ keep p xs ])
      go true r = Memᴰ.tail r
      go false r = r
