-- Lists joined, and the parts of a list.
use mathlib.Core.List.Memᴰ
use mathlib.Core.List.Permᴰ
use mathlib.Core.List.{List, ◌∷◌, map, [], Memᴰ, ◌++◌, append_assoc, Sublistᴰ, Permᴰ}
use mathlib.Core.Path.{ap, refl}
use Prim.Native.Nat.{ℕ}
use Rattle.kep.specs.Lists.{Each, also, none, flat}
use Rattle.kep.specs.computed.Answer.{sublists}
use Rattle.kep.proofs.Each.{each_append, each_mapped, each_map}

module _ {A : Type 0} where
  -- `sublists` lists the parts of a list, and nothing else
  pub sublists_each : (xs : List A) → Each (λ p. Sublistᴰ p xs) (sublists xs)
  unfolding sublists
  sublists_each [] = also Sublistᴰ.slnil none
  sublists_each (x ∷ xs) =
      let r = sublists_each xs in
      each_append (each_mapped (λ l. x ∷ l) (λ l s. Sublistᴰ.cons-cons refl s) r) (each_map (λ l s. Sublistᴰ.cons s) r)

  pub sublists_in : {p xs : List A} → Sublistᴰ p xs → Memᴰ p (sublists xs)
  unfolding sublists
  sublists_in Sublistᴰ.slnil = Memᴰ.head refl
  sublists_in (Sublistᴰ.cons {a = x} {l₂ = xs} s) = Memᴰ.append_right (map (λ l. x ∷ l) (sublists xs)) (sublists_in s)
  sublists_in (Sublistᴰ.cons-cons {b = x} {l₁ = p} {l₂ = xs} e s) =
      Memᴰ.append_left (sublists xs) (Memᴰ.cast (ap (λ y. y ∷ p) e) (Memᴰ.map (λ l. x ∷ l) (sublists_in s)))

-- lists told in another order, joined, hold the same numbers
pub flat_perm : {p q : List (List ℕ)} → Permᴰ p q → Permᴰ (flat p) (flat q)
unfolding flat
flat_perm Permᴰ.nil = Permᴰ.nil
flat_perm (Permᴰ.cons {b = y} {l₁ = p} e d) = rw e (Permᴰ.append_left y (flat_perm d))
flat_perm (Permᴰ.swap {a = x} {b = y} {l = l} e₁ e₂) = rw (← e₂, ← e₁) (swap_front x y (flat l))
  where
    swap_front : (xs ys zs : List ℕ) → Permᴰ (xs ++ (ys ++ zs)) (ys ++ (xs ++ zs))
    swap_front xs ys zs = rw (← append_assoc xs ys zs, ← append_assoc ys xs zs) (Permᴰ.append_right zs (Permᴰ.append_comm xs ys))
flat_perm (Permᴰ.trans d d') = Permᴰ.trans (flat_perm d) (flat_perm d')
