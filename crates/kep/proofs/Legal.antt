-- Legal plans, and that each plan listed by `plans` is one.
use mathlib.Core.Bool.{◌&&◌}
use mathlib.Core.List.Permᴰ
use mathlib.Core.List.{List, ◌∷◌, [], append-nil}
use mathlib.Core.Path.{◌≡◌}
use Prim.Native.Nat.{ℕ}
use lib.Dec.{T}
use Rattle.kep.specs.Lists.{flat, Each, none, also, distinct, Pairwise}
use Rattle.kep.specs.computed.Answer.{sublists, plans}
use Rattle.kep.specs.Graph.{Graph}
use Rattle.kep.specs.Exchange.{is_exchange}
use Rattle.kep.specs.computed.Table.{exchanges}
use Rattle.kep.specs.Plan.{is_legal, all_exchanges, in_order}
use Rattle.kep.proofs.Tests.{if_and, and_left, and_right, and_both}
use Rattle.kep.proofs.Each.{each_map, each_part, keep_part, keep_each, each_of, each_both}
use Rattle.kep.proofs.PlanLists.{sublists_each}
use Rattle.kep.proofs.Permutations.{distinct_perm}
use Rattle.kep.proofs.ExchangeFacts.{Exchange, is_exchange_lem, exchange_is, exchange_some, exchange_distinct, Told, told_turned}
use Rattle.kep.proofs.Listing.{exchanges_are}
use Rattle.kep.proofs.InOrder.{Rises, in_order_rises, in_order_each, in_order_flat, in_order_fixed}

pub flat_alone : (xs : List ℕ) → flat (xs ∷ []) ≡ xs
unfolding flat
flat_alone xs = append-nil xs

module _ (g : Graph) (lc lp : ℕ) where
  abbrev pub Legal : List (List ℕ) → Type 0
  Legal p = T (is_legal g lc lp p)

  pub all_exchanges_cons : (x : List ℕ) (xs : List (List ℕ)) → all_exchanges g lc lp (x ∷ xs) ≡ is_exchange g lc lp x && all_exchanges g lc lp xs
  unfolding all_exchanges
  all_exchanges_cons x xs = if_and (is_exchange g lc lp x) (all_exchanges g lc lp xs)

  all_exchanges_each : (p : List (List ℕ)) → T (all_exchanges g lc lp p) → Each (Exchange g lc lp) p
  all_exchanges_each [] h = none
  all_exchanges_each (x ∷ xs) h =
      let k : T (is_exchange g lc lp x && all_exchanges g lc lp xs) = rw all_exchanges_cons at h in
      also (is_exchange_lem g lc lp x (search and_left)) (all_exchanges_each xs (search and_right))

  each_all_exchanges : {p : List (List ℕ)} → Each (Exchange g lc lp) p → T (all_exchanges g lc lp p)
  unfolding all_exchanges
  each_all_exchanges none = tt
  each_all_exchanges (also {x = x} {xs = xs} h hs) =
      rw all_exchanges_cons (and_both (is_exchange g lc lp x) (all_exchanges g lc lp xs) (exchange_is g h) (each_all_exchanges hs))

  -- a legal plan is a list of exchanges that repeats no vertex
  pub legal_exchanges : (p : List (List ℕ)) → Legal p → Each (Exchange g lc lp) p
  unfolding is_legal
  legal_exchanges p h = all_exchanges_each p (search and_left)

  pub legal_distinct : (p : List (List ℕ)) → Legal p → T (distinct (flat p))
  unfolding is_legal
  legal_distinct p h = search and_right

  pub legal_of : (p : List (List ℕ)) → Each (Exchange g lc lp) p → T (distinct (flat p)) → Legal p
  unfolding is_legal
  legal_of p h k = and_both (all_exchanges g lc lp p) (distinct (flat p)) (each_all_exchanges h) k

  -- in order, its exchanges rise by first vertex
  pub legal_rises : (p : List (List ℕ)) → Legal p → Pairwise Rises (in_order p)
  legal_rises p h = in_order_rises (each_map (λ x e. exchange_some g e) (legal_exchanges p h)) (legal_distinct p h)

  -- the plan of no exchange is legal
  pub empty_legal : Legal []
  unfolding distinct flat
  empty_legal = legal_of [] none tt

  -- each plan that `plans` lists is legal
  pub plans_legal : Each Legal (plans g lc lp)
  unfolding plans
  plans_legal =
      let all = sublists (exchanges g lc lp) in
      let parts = each_part (keep_part (λ p. distinct (flat p)) all) (sublists_each (exchanges g lc lp)) in
      let apart = keep_each (λ p. distinct (flat p)) all in
      let told = each_of (exchanges g lc lp) (λ x m. ((exchanges_are g lc lp x).0 m).0) in
      each_map (λ p h. legal_of p (each_part h.0 told) h.1) (each_both parts apart)

  -- an exchange alone is a legal plan
  pub alone_legal : {xs : List ℕ} → Exchange g lc lp xs → Legal (xs ∷ [])
  alone_legal {xs} h = legal_of (xs ∷ []) (also h none) (rw (flat_alone xs) (exchange_distinct g h))

  -- in order, each exchange of a legal plan is told from its lowest vertex on
  pub in_order_told : (q : List (List ℕ)) → Legal q → Each (Told g lc lp) (in_order q)
  in_order_told q h = in_order_each (λ x e. told_turned g e) (legal_exchanges q h)

  -- and no vertex stands in two of them
  pub in_order_distinct : (q : List (List ℕ)) → Legal q → T (distinct (flat (in_order q)))
  in_order_distinct q h = distinct_perm (Permᴰ.symm (in_order_flat q)) (legal_distinct q h)

  -- a plan that rises by first vertex, each exchange told from its lowest on, is in order
  pub told_in_order : {p : List (List ℕ)} → Pairwise Rises p → Each (Told g lc lp) p → in_order p ≡ p
  told_in_order r t = in_order_fixed r (each_map (λ x k. k.1) t)
