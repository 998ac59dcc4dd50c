-- In what order a plan's exchanges are told, and where its cycles begin, makes no difference: to what is legal, or to the records.
use mathlib.Core.List.Sublistᴰ
use mathlib.Core.List.{List, Permᴰ, ◌∷◌, ◌++◌, []}
use mathlib.Core.Path.{◌≡◌, sym, ap, ◌∙◌}
use Prim.Native.Nat.{ℕ}
use native.Mathlib.Omega.{arith}
use Rattle.kep.specs.Lists.{Pairwise, also, total, flat}
use Rattle.kep.specs.Graph.{Graph}
use Rattle.kep.specs.Exchange.{head_of, turned}
use Rattle.kep.specs.Plan.{in_order, insert, record_form, records_of}
use Rattle.kep.specs.Retold.{Retold, reordered, begun_later, again}
use Rattle.kep.proofs.Each.{each_of, each_rest}
use Rattle.kep.proofs.Permutations.{each_perm, distinct_perm}
use Rattle.kep.proofs.PlanLists.{flat_perm}
use Rattle.kep.proofs.Ordered.{rising_part, pairwise_map}
use Rattle.kep.proofs.Rotations.{turned_turn}
use Rattle.kep.proofs.ExchangeFacts.{cycle_exchange, cycle_turn, exchange_distinct}
use Rattle.kep.proofs.InOrder.{Rises, in_order_perm, in_order_total}
use Rattle.kep.proofs.Legal.{Legal, legal_of, legal_exchanges, legal_distinct, legal_rises}

-- two rising lists of the same lists are the same
pub rising_same : {p q : List (List ℕ)} → Pairwise Rises p → Pairwise Rises q → Permᴰ p q → p ≡ q
rising_same {p} {q} o o' d =
    let found = each_perm (mathlib.Core.List.Permᴰ.symm d) (each_of q (λ x m. m)) in
    Sublistᴰ.eq_of_length (rising_part head_of p q o (pairwise_map (λ x y h. omega arith) o') found) (mathlib.Core.List.Permᴰ.length-eq d)

module _ (g : Graph) (lc lp : ℕ) where
  -- told otherwise, a legal plan is legal
  pub retold_legal : {p q : List (List ℕ)} → Retold g lc lp p q → Legal g lc lp p → Legal g lc lp q
  unfolding flat
  retold_legal {p} {q} (reordered d) h =
      legal_of g lc lp q (each_perm d (legal_exchanges g lc lp p h)) (distinct_perm (flat_perm d) (legal_distinct g lc lp p h))
  retold_legal (begun_later {x = x} {xs = xs} {p = p} c) h =
      let ys = xs ++ x ∷ [] in
      let turn : Permᴰ (flat ((x ∷ xs) ∷ p)) (flat (ys ∷ p)) = mathlib.Core.List.Permᴰ.append_right (flat p) (mathlib.Core.List.Permᴰ.append_comm (x ∷ []) xs) in
      let still = cycle_exchange g lc lp ys (cycle_turn g lc x xs c) in
      let others = each_rest (legal_exchanges g lc lp ((x ∷ xs) ∷ p) h) in
      legal_of g lc lp (ys ∷ p) (also still others) (distinct_perm turn (legal_distinct g lc lp ((x ∷ xs) ∷ p) h))
  retold_legal (again r s) h = retold_legal s (retold_legal r h)

  -- and in order it is the same
  pub retold_order : {p q : List (List ℕ)} → Retold g lc lp p q → Legal g lc lp p → in_order p ≡ in_order q
  unfolding in_order
  retold_order {p} {q} (reordered d) h =
      let same = mathlib.Core.List.Permᴰ.trans (in_order_perm p) (mathlib.Core.List.Permᴰ.trans (mathlib.Core.List.Permᴰ.map turned d) (mathlib.Core.List.Permᴰ.symm (in_order_perm q))) in
      rising_same (legal_rises g lc lp p h) (legal_rises g lc lp q (retold_legal (reordered d) h)) same
  retold_order (begun_later {x = x} {xs = xs} {p = p} c) h =
      ap (λ y. insert y (in_order p)) (sym (turned_turn x xs (exchange_distinct g (cycle_exchange g lc lp (x ∷ xs) c))))
  retold_order (again r s) h = retold_order r h ∙ retold_order s (retold_legal r h)

  -- so a plan has just one record form
  pub one_form : {p q : List (List ℕ)} → Retold g lc lp p q → Legal g lc lp p → record_form g p ≡ record_form g q
  unfolding record_form
  one_form r h = ap (records_of g) (retold_order r h)

  -- and it is worth the same
  pub one_total : (w : ℕ → ℕ) {p q : List (List ℕ)} → Retold g lc lp p q → Legal g lc lp p → total w (flat p) ≡ total w (flat q)
  one_total w {p} {q} r h = rw (← in_order_total w p, ← in_order_total w q) (ap (λ t. total w (flat t)) (retold_order r h))
