-- `in_order`: the exchanges of a plan, turned and sorted by first vertex. It keeps the vertices, and a plan in order is left as it is.
use mathlib.Core.Bool.{Bool, true, false}
use mathlib.Core.List.Permᴰ
use mathlib.Core.List.{List, Permᴰ, ◌∷◌, [], map, ◌++◌}
use mathlib.Core.Logic.{◌≢◌}
use mathlib.Core.Path.{refl, ◌≡◌, ap₂, ◌∙◌}
use Prim.Native.Nat.{ℕ, ◌<◌, ◌≤◌}
use native.Mathlib.Omega.{arith}
use lib.Dec.{T, ltb, lt→ltb}
use lib.ListN.{length}
use borrow.Author.Tests.{ltb-true, ltb-false}
use Rattle.kep.specs.Lists.{cons, nil, Each, total, Pairwise, none, also, distinct, flat}
use Rattle.kep.specs.Table.{lowest_first}
use Rattle.kep.specs.Exchange.{head_of, turned}
use Rattle.kep.specs.Plan.{insert, in_order}
use Rattle.kep.proofs.Each.{each_map, each_mapped, each_first, each_append_right, each_rest}
use Rattle.kep.proofs.ListLaws.{distinct_first, distinct_append_right}
use Rattle.kep.proofs.Permutations.{each_perm, total_perm, distinct_perm}
use Rattle.kep.proofs.PlanLists.{flat_perm}
use Rattle.kep.proofs.Rotations.{turned_perm, turned_some, turned_fixed}

-- strictly by first vertex
abbrev pub Rises : List ℕ → List ℕ → Type 0
Rises xs ys = head_of xs < head_of ys

-- inserting adds, and does nothing else
insert_perm : (x : List ℕ) (ys : List (List ℕ)) → Permᴰ (insert x ys) (x ∷ ys)
unfolding insert
insert_perm x [] = Permᴰ.refl (x ∷ [])
insert_perm x (y ∷ ys) = go (ltb (head_of x) (head_of y)) (insert_perm x ys)
  where
    go : (b : Bool) → Permᴰ (insert x ys) (x ∷ ys) → Permᴰ (elim b [ true ↦ x ∷ y ∷ ys | false ↦ y ∷ insert x ys ]) (x ∷ y ∷ ys)
    go true r = Permᴰ.refl (x ∷ y ∷ ys)
    go false r = Permᴰ.trans (Permᴰ.cons refl r) (Permᴰ.swap refl refl)

-- the plan in order has the plan's exchanges, turned
pub in_order_perm : (p : List (List ℕ)) → Permᴰ (in_order p) (map turned p)
unfolding in_order
in_order_perm [] = Permᴰ.nil
in_order_perm (x ∷ xs) = Permᴰ.trans (insert_perm (turned x) (in_order xs)) (Permᴰ.cons refl (in_order_perm xs))

-- what holds of each exchange once it is turned holds of each exchange of the plan in order
pub in_order_each : {P Q : List ℕ → Type 0} {p : List (List ℕ)} → ((x : List ℕ) → P x → Q (turned x)) → Each P p → Each Q (in_order p)
in_order_each {p = p} turn h = each_perm (Permᴰ.symm (in_order_perm p)) (each_mapped turned turn h)

-- turned exchanges have the same vertices
turned_flat : (p : List (List ℕ)) → Permᴰ (flat (map turned p)) (flat p)
unfolding flat
turned_flat [] = Permᴰ.nil
turned_flat (x ∷ xs) = Permᴰ.trans (Permᴰ.append_right (flat (map turned xs)) (turned_perm x)) (Permᴰ.append_left x (turned_flat xs))

-- and the plan's vertices
pub in_order_flat : (p : List (List ℕ)) → Permᴰ (flat (in_order p)) (flat p)
in_order_flat p = Permᴰ.trans (flat_perm (in_order_perm p)) (turned_flat p)

-- so it is worth as much
pub in_order_total : (w : ℕ → ℕ) (p : List (List ℕ)) → total w (flat (in_order p)) ≡ total w (flat p)
in_order_total w p = total_perm w (in_order_flat p)

-- a list put into a rising plan, with a first vertex of its own, leaves it rising
insert_rises : (x : List ℕ) {ys : List (List ℕ)} → Each (λ y. head_of x ≢ head_of y) ys → Pairwise Rises ys → Pairwise Rises (insert x ys)
unfolding insert
insert_rises x none nil = cons none nil
insert_rises x (also {x = y} {xs = ys} h hs) (cons r o) = go (ltb (head_of x) (head_of y)) refl (insert_rises x hs o)
  where
    go : (b : Bool) → ltb (head_of x) (head_of y) ≡ b → Pairwise Rises (insert x ys) → Pairwise Rises (elim b [ true ↦ x ∷ y ∷ ys | false ↦ y ∷ insert x ys ])
    go true e rest =
        let l : head_of x < head_of y = ltb-true (head_of x) (head_of y) e in
        cons {x = x} (also l (each_map (λ z k. omega arith) r)) (cons r o)
    go false e rest =
        let l : head_of y < head_of x = omega (arith, h, ltb-false (head_of x) (head_of y) e) in
        cons {x = y} (each_perm (Permᴰ.symm (insert_perm x ys)) (also l r)) rest

-- what holds of each vertex of a plan holds of the first vertex of each of its exchanges
pub each_heads : {P : ℕ → Type 0} {p : List (List ℕ)} → Each (λ y. 1 ≤ length y) p → Each P (flat p) → Each (λ y. P (head_of y)) p
unfolding flat head_of
each_heads none h = none
each_heads (also {x = []} s ss) h = absurd (omega arith)
each_heads (also {x = y ∷ ys} s ss) h = also {x = y ∷ ys} (each_first h) (each_heads ss (each_append_right ys (each_rest h)))

-- the first vertices of a plan that repeats no vertex differ
heads_apart : (x : List ℕ) {p : List (List ℕ)} → 1 ≤ length x → Each (λ y. 1 ≤ length y) p → T (distinct (x ++ flat p)) → Each (λ y. head_of x ≢ head_of y) p
unfolding head_of
heads_apart [] h hs d = absurd (omega arith)
heads_apart (x ∷ xs) {p} h hs d = each_heads hs (each_append_right xs (distinct_first x (xs ++ flat p) d))

-- a plan that repeats no vertex, in order, rises by first vertex
pub in_order_rises : {p : List (List ℕ)} → Each (λ x. 1 ≤ length x) p → T (distinct (flat p)) → Pairwise Rises (in_order p)
unfolding in_order flat
in_order_rises none d = nil
in_order_rises (also {x = x} {xs = xs} s ss) d =
    let first_kept = Permᴰ.append_right (flat (in_order xs)) (turned_perm x) in
    let kept = Permᴰ.trans first_kept (Permᴰ.append_left x (in_order_flat xs)) in
    let apart = heads_apart (turned x) (turned_some x s) (in_order_each turned_some ss) (distinct_perm (Permᴰ.symm kept) d) in
    insert_rises (turned x) apart (in_order_rises ss (distinct_append_right x (flat xs) d))

-- a list below the first of a rising plan is put first
insert_first : (x : List ℕ) {ys : List (List ℕ)} → Each (Rises x) ys → insert x ys ≡ x ∷ ys
unfolding insert
insert_first x none = refl
insert_first x (also {x = y} {xs = ys} l ls) = go (ltb (head_of x) (head_of y)) (lt→ltb (head_of x) (head_of y) l)
  where
    go : (b : Bool) → T b → ◌≡◌ {A = List (List ℕ)} (elim b [ true ↦ x ∷ y ∷ ys | false ↦ y ∷ insert x ys ]) (x ∷ y ∷ ys)
    go true t = refl
    go false t = absurd t

-- a plan in order is left as it is
pub in_order_fixed : {p : List (List ℕ)} → Pairwise Rises p → Each (λ x. T (lowest_first x)) p → in_order p ≡ p
unfolding in_order
in_order_fixed nil none = refl
in_order_fixed (cons {x = x} {xs = xs} r o) (also l ls) = ap₂ insert (turned_fixed x l) (in_order_fixed o ls) ∙ insert_first x r
