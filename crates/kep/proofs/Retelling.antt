-- Legal plans that are the same in order are the same plan, told otherwise: each can be retold in order, and retelling goes both ways.
use mathlib.Core.List.Permᴰ
use mathlib.Core.List.{List, [], ◌∷◌, ◌++◌, map, append_assoc, append-nil}
use mathlib.Core.Path.{◌≡◌, refl}
use Prim.Native.Nat.{ℕ}
use lib.Dec.{T}
use Rattle.kep.specs.Lists.{Each, none, also}
use Rattle.kep.specs.Graph.{Graph}
use Rattle.kep.specs.Exchange.{is_cycle, turned}
use Rattle.kep.specs.Plan.{in_order}
use Rattle.kep.proofs.Walks.{lower_lowest_first}
use Rattle.kep.proofs.Rotations.{turned_keeps, turned_fixed}
use Rattle.kep.proofs.ExchangeFacts.{Exchange, cycle, chain, cycle_of, cycle_turn, chain_lowest}
use Rattle.kep.proofs.InOrder.{in_order_perm}
use Rattle.kep.proofs.Legal.{Legal, legal_exchanges}
use Rattle.kep.specs.Retold.{Retold, reordered, begun_later, again}

module _ (g : Graph) (lc lp : ℕ) where
  same : (p : List (List ℕ)) → Retold g lc lp p p
  same p = reordered (Permᴰ.refl p)

  -- behind an exchange that stays as it is
  retold_behind : (x : List ℕ) {p q : List (List ℕ)} → Retold g lc lp p q → Retold g lc lp (x ∷ p) (x ∷ q)
  retold_behind x (reordered d) = reordered (Permᴰ.cons refl d)
  retold_behind x (begun_later c) =
      again (reordered (Permᴰ.swap refl refl)) (again (begun_later c) (reordered (Permᴰ.swap refl refl)))
  retold_behind x (again r s) = again (retold_behind x r) (retold_behind x s)

  -- a cycle, begun anywhere else
  rotated : (front back : List ℕ) {p : List (List ℕ)} → T (is_cycle g lc (front ++ back)) → Retold g lc lp ((front ++ back) ∷ p) ((back ++ front) ∷ p)
  rotated [] back {p} c = rw (append-nil back) (same (back ∷ p))
  rotated (x ∷ xs) back {p} c =
      let later : T (is_cycle g lc (xs ++ (back ++ x ∷ []))) = rw (append_assoc xs back (x ∷ [])) at (cycle_turn g lc x (xs ++ back) c) in
      let step : Retold g lc lp ((x ∷ xs ++ back) ∷ p) ((xs ++ (back ++ x ∷ [])) ∷ p) = rw (← append_assoc xs back (x ∷ [])) (begun_later c) in
      again step (rw (append_assoc back (x ∷ []) xs) at (rotated xs (back ++ x ∷ []) {p = p} later))

  pub retold_back : {p q : List (List ℕ)} → Retold g lc lp p q → Retold g lc lp q p
  retold_back (reordered d) = reordered (Permᴰ.symm d)
  retold_back (begun_later {x = x} {xs = xs} c) = rotated xs (x ∷ []) (cycle_turn g lc x xs c)
  retold_back (again r s) = again (retold_back s) (retold_back r)

  -- an exchange, turned to begin at its lowest vertex: a chain begins there
  turn_first : {x : List ℕ} (p : List (List ℕ)) → Exchange g lc lp x → Retold g lc lp (x ∷ p) (turned x ∷ p)
  turn_first p (cycle {x = x} {xs = xs} c) =
      (turned_keeps (λ ys. T (is_cycle g lc ys) × Retold g lc lp ((x ∷ xs) ∷ p) (ys ∷ p))
      (λ y ys h. (cycle_turn g lc y ys h.0, again h.1 (begun_later h.0)))
      (x ∷ xs)
      (cycle_of g c, same ((x ∷ xs) ∷ p))).1
  turn_first p (chain {x = x} {xs = xs} c) = rw (turned_fixed (x ∷ xs) (lower_lowest_first x (chain_lowest g c))) (same ((x ∷ xs) ∷ p))

  turn_each : {p : List (List ℕ)} → Each (Exchange g lc lp) p → Retold g lc lp p (map turned p)
  turn_each none = same []
  turn_each (also {x = x} {xs = p} h hs) = again (turn_first p h) (retold_behind (turned x) (turn_each hs))

  -- a legal plan retold in order
  in_order_retold : (p : List (List ℕ)) → Legal g lc lp p → Retold g lc lp p (in_order p)
  in_order_retold p h = again (turn_each (legal_exchanges g lc lp p h)) (reordered (Permᴰ.symm (in_order_perm p)))

  pub same_order_retold : (p q : List (List ℕ)) → Legal g lc lp p → Legal g lc lp q → in_order p ≡ in_order q → Retold g lc lp p q
  same_order_retold p q h k e = again (rw e at (in_order_retold p h)) (retold_back (in_order_retold q k))
