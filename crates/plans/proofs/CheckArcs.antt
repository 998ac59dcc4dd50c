-- Laws of code that tests the vertices of an exchange in the pool's graph: arcs (15), length (16), kind and members (17).
use mathlib.Core.Bool.{Bool, true, false, not, ◌&&◌, and-true, and_comm}
use mathlib.Core.List.{List, [], ◌∷◌}
use mathlib.Core.Path.{◌≡◌, refl, sym, ◌∙◌, ap}
use Prim.Native.Nat.{ℕ, suc, ◌+◌, ◌-◌, ◌≤◌, ◌<◌}
use native.Mathlib.Omega.{arith}
use Rattle.std.proofs.lemmas.Bool.Decides.{nat_tests}
use lib.Dec.{T, eqb, leb, ltb, ltb→lt}
use lib.ListN.{length, take, drop, get_or, length-drop}
use lib.Seq.{take_all}
use borrow.Author.Tests.{lt-ltb, le-ltb}
use Rattle.pool.specs.declared.limits.Limits.{Limits}
use Rattle.pool.specs.Limits.{most_vertices}
use Rattle.kep.specs.Graph.{Graph, is_altruist}
use Rattle.kep.specs.Exchange.{walk, last_of, head_of}
use Rattle.plans.specs.Check.{all_below, joined, within_limits}
use Rattle.kep.proofs.Each.{each_first}
use Rattle.kep.proofs.ListLaws.{all_each}
use Rattle.kep.proofs.Rest.{rest_next, rest_none}
use Rattle.kep.proofs.Walks.{walk_cons}

-- the first of a list, as code reads it
pub head_here : (xs : List ℕ) → head_of xs ≡ get_or xs 0 0
unfolding head_of
head_here [] = refl
head_here (x ∷ xs) = refl

pub head_below : (xs : List ℕ) → T (all_below 14 xs) → get_or xs 0 0 < 14
head_below [] t = omega arith
head_below (x ∷ xs) t = ltb→lt x 14 (each_first (all_each (λ y. ltb y 14) (x ∷ xs) t))

-- ---- the walk

-- u gives to the i-th: whether the rest is a walk from u says what is asked for
module _ (g : Graph) (u : ℕ) (xs : List ℕ) {i : ℕ} {b : Bool} (left : walk g u (drop i xs) ≡ b) where
  module _ (h : i < length xs) where
    here : b ≡ (g.arc u (get_or xs i 0) && walk g (get_or xs i 0) (drop (i + 1) xs))
    here = sym left ∙ ap (walk g u) (rest_next xs i h) ∙ walk_cons g u (get_or xs i 0) (drop (i + 1) xs)

    pub walk_stop : g.arc u (get_or xs i 0) ≡ false → false ≡ b
    walk_stop e = sym (here ∙ ap (λ t. t && walk g (get_or xs i 0) (drop (i + 1) xs)) e)

    pub walk_next : g.arc u (get_or xs i 0) ≡ true → walk g (get_or xs i 0) (drop (i + 1) xs) ≡ b
    walk_next e = sym (here ∙ ap (λ t. t && walk g (get_or xs i 0) (drop (i + 1) xs)) e)

  pub walk_end : length xs ≤ i → true ≡ b
  unfolding walk
  walk_end h = ap (walk g u) (sym (rest_none xs i h)) ∙ left

-- ---- all arcs needed

-- the vertices behind the first, as code lends them
pub tail_part : (xs : List ℕ) → take (length xs - 1) (drop 1 xs) ≡ drop 1 xs
tail_part xs = take_all (length xs - 1) (drop 1 xs) (omega (arith, length-drop 1 xs))

last_here : (x : ℕ) (xs : List ℕ) → last_of x xs ≡ get_or (x ∷ xs) (length xs) 0
unfolding last_of
last_here x [] = refl
last_here x (y ∷ ys) = last_here y ys

module _ (g : Graph) where
  pub joined_chain : (xs : List ℕ) → 1 ≤ length xs → head_of xs < g.altruists → walk g (head_of xs) (drop 1 xs) ≡ joined g xs
  unfolding head_of joined
  joined_chain [] some h = absurd (omega arith)
  joined_chain (x ∷ xs) some h = rw (lt-ltb x g.altruists h) (sym (and-true (walk g x xs)))

  -- the last vertex of a cycle gives to the first
  pub joined_cycle : (xs : List ℕ) → 1 ≤ length xs → g.altruists ≤ head_of xs → walk g (get_or xs (length xs - 1) 0) xs ≡ joined g xs
  unfolding head_of joined
  joined_cycle [] some h = absurd (omega arith)
  joined_cycle (x ∷ xs) some h =
      let back : length (x ∷ xs) - 1 ≡ length xs = omega arith in
      rw (back, ← last_here x xs, le-ltb x g.altruists h) (walk_cons g (last_of x xs) x xs ∙ and_comm (g.arc (last_of x xs) x) (walk g x xs))

-- ---- its length

-- as code tests it: at most as many as the limit allows, and no lone altruist
pub limits_told : (g : Graph) (l : Limits) (xs : List ℕ) → 1 ≤ length xs → {of_chain : Bool} → of_chain ≡ is_altruist g (head_of xs)
    → (leb (length xs) (most_vertices l of_chain) && not (of_chain && eqb (length xs) 1)) ≡ within_limits g l.cycle l.chain xs
unfolding head_of within_limits
limits_told g l [] some e = absurd (omega arith)
limits_told g l (x ∷ xs) some e = rw (e, within_limits) (go (is_altruist g x) (length xs))
  where
    go : (b : Bool) (n : ℕ) → (leb (suc n) (most_vertices l b) && not (b && eqb (suc n) 1)) ≡ (elim b as (λ _. Bool) [ true ↦ leb 1 n && leb n l.chain | false ↦ leb (suc n) l.cycle ])
    go true n = grind (arith, nat_tests)
    go false n = and-true _
