-- The tests and sums on lists of vertices do not depend on the order in which the vertices are told.
use mathlib.Core.List.{List, Permᴰ, ◌∷◌}
use mathlib.Core.Path.{sym, ◌≡◌, refl, ◌∙◌}
use Prim.Native.Nat.{ℕ}
use native.Mathlib.Omega.{arith}
use lib.Dec.{T}
use Rattle.kep.specs.Lists.{Each, also, distinct, total}
use Rattle.kep.proofs.Each.{each_first, each_rest}
use Rattle.kep.proofs.ListLaws.{distinct_more, distinct_first, distinct_rest, Apart}

-- told in another order: what holds of each, that none is repeated, what all are worth
pub each_perm : {A : Type 0} {P : A → Type 0} {xs ys : List A} → Permᴰ xs ys → Each P xs → Each P ys
each_perm Permᴰ.nil h = h
each_perm (Permᴰ.cons {b = y} e d) h = also {x = y} (rw e at (each_first h)) (each_perm d (each_rest h))
each_perm (Permᴰ.swap {a' = x} {b' = y} e₁ e₂) h =
    also {x = x} (rw e₂ at (each_first (each_rest h))) (also {x = y} (rw e₁ at (each_first h)) (each_rest (each_rest h)))
each_perm (Permᴰ.trans d d') h = each_perm d' (each_perm d h)

pub distinct_perm : {xs ys : List ℕ} → Permᴰ xs ys → T (distinct xs) → T (distinct ys)
distinct_perm Permᴰ.nil h = h
distinct_perm (Permᴰ.cons {a = x} {b = y} {l₁ = xs} {l₂ = ys} e d) h =
    distinct_more y ys (rw e at (each_perm d (distinct_first x xs h))) (distinct_perm d (distinct_rest x xs h))
distinct_perm (Permᴰ.swap {a = a} {b = b} {l = l} e₁ e₂) h =
    let apart = distinct_first a (b ∷ l) h in
    let rest = distinct_rest a (b ∷ l) h in
    let first : Apart b (a ∷ l) = also (λ e. each_first apart (sym e)) (distinct_first b l rest) in
    rw (← e₂, ← e₁) (distinct_more b (a ∷ l) first (distinct_more a l (each_rest apart) (distinct_rest b l rest)))
distinct_perm (Permᴰ.trans d d') h = distinct_perm d' (distinct_perm d h)

pub total_perm : (w : ℕ → ℕ) {xs ys : List ℕ} → Permᴰ xs ys → total w xs ≡ total w ys
unfolding total
total_perm w Permᴰ.nil = refl
total_perm w (Permᴰ.cons {l₁ = xs} e d) = rw (e, total_perm w d)
total_perm w (Permᴰ.swap {a = a} {b = b} {l = l} e₁ e₂) = rw (← e₂, ← e₁) (omega arith)
total_perm w (Permᴰ.trans d d') = total_perm w d ∙ total_perm w d'
