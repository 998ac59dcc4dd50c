-- Plans in their one form, inside a set of vertices: exchanges told from their lowest vertex on, in rising order of first vertex,
-- no vertex in two of them. A legal plan in order is such a plan, and such a plan is legal and in order.
use mathlib.Core.List.Memᴰ
use mathlib.Core.List.{List, [], ◌∷◌, Memᴰ}
use mathlib.Core.Path.{◌≡◌}
use Prim.Native.Nat.{◌-◌, ℕ, ◌≤◌}
use native.Mathlib.Nat.{le_refl}
use native.Mathlib.Omega.{arith}
use lib.Dec.{T}
use lib.ListN.{length, length-append}
use Rattle.kep.specs.Lists.{flat, Each, none, also, Pairwise, distinct, cons, nil}
use Rattle.kep.specs.Graph.{Graph}
use Rattle.kep.specs.Sets.{has, Part, set_of}
use Rattle.kep.specs.Table.{lowest_first}
use Rattle.kep.specs.computed.Table.{everything}
use Rattle.kep.specs.Exchange.{head_of}
use Rattle.kep.specs.Plan.{in_order}
use Rattle.kep.proofs.Each.{each_append, each_map, each_first, each_append_left, each_at, each_rest, each_of, each_both}
use Rattle.kep.proofs.ListLaws.{distinct_append}
use Rattle.kep.proofs.Ordered.{pairwise_first, pairwise_rest}
use Rattle.kep.proofs.SetLaws.{has_full}
use Rattle.kep.proofs.Parts.{in_rest}
use Rattle.kep.proofs.SetOf.{set_of_part, has_set_of, part_set_of}
use Rattle.kep.proofs.Walks.{lowest_first_lower}
use Rattle.kep.proofs.ExchangeFacts.{Told, exchange_some, exchange_distinct, exchange_below}
use Rattle.kep.proofs.InOrder.{Rises}
use Rattle.kep.proofs.Legal.{Legal, legal_of, told_in_order, in_order_told, legal_rises, in_order_distinct}

-- ---- the vertices of a plan

-- what holds of each vertex of each exchange holds of each vertex of the plan
pub flat_each : {P : ℕ → Type 0} {p : List (List ℕ)} → Each (Each P) p → Each P (flat p)
unfolding flat
flat_each none = none
flat_each (also h hs) = each_append h (flat_each hs)

pub flat_length : {p : List (List ℕ)} → Each (λ x. 1 ≤ length x) p → length p ≤ length (flat p)
unfolding flat
flat_length none = omega arith
flat_length (also {x = x} {xs = p} h hs) = omega (arith, length-append x (flat p), flat_length hs)

-- no vertex of a list that begins at its lowest is lower than its first
pub head_least : (xs : List ℕ) → T (lowest_first xs) → Each (λ v. head_of xs ≤ v) xs
unfolding head_of
head_least [] l = none
head_least (x ∷ xs) l = also (le_refl x) (each_map (λ v h. omega arith) (lowest_first_lower x xs l))

module _ (g : Graph) (lc lp : ℕ) where
  pub told_some : {p : List (List ℕ)} → Each (Told g lc lp) p → Each (λ x. 1 ≤ length x) p
  told_some t = each_map (λ x k. exchange_some g k.0) t

  -- ---- plans inside U

  pub record Plan (U : ℕ) (p : List (List ℕ)) : Type 0 where
    pub told : Each (Told g lc lp) p
    pub rises : Pairwise Rises p
    pub apart : T (distinct (flat p))
    pub inside : Each (λ v. T (has U v)) (flat p)

  -- the first exchange taken off: the others begin above it and are a plan inside what it leaves
  pub plan_split : {U : ℕ} (x : List ℕ) (p : List (List ℕ)) → Plan U (x ∷ p)
      → Told g lc lp x × Part (set_of x) U × Each (Rises x) p × Plan (U - set_of x) p
  unfolding flat
  plan_split {U} x p plan = (each_first plan.told, part, pairwise_first plan.rises, rest)
    where
      lists : T (distinct x) × T (distinct (flat p)) × ((v : ℕ) → Memᴰ v x → Memᴰ v (flat p) → ⊥)
      lists = (distinct_append x (flat p)).0 plan.apart

      part : Part (set_of x) U
      part = set_of_part x lists.0 (each_append_left x (flat p) plan.inside)

      left : (v : ℕ) → Memᴰ v (flat p) → T (has (U - set_of x) v)
      left v m = (in_rest part v).1 (each_at plan.inside (Memᴰ.append_right x m), λ h. lists.2 v ((has_set_of x lists.0 v).0 h) m)

      rest : Plan (U - set_of x) p
      rest = record { told = each_rest plan.told; rises = pairwise_rest plan.rises; apart = lists.1; inside = each_of (flat p) left }

  -- and put on again
  pub plan_put : {U : ℕ} {x : List ℕ} {p : List (List ℕ)} → Told g lc lp x → Part (set_of x) U → Each (Rises x) p → Plan (U - set_of x) p → Plan U (x ∷ p)
  unfolding flat
  plan_put {U} {x} {p} told part rises plan =
      record {
        told = also told plan.told;
        rises = cons rises plan.rises;
        apart = (distinct_append x (flat p)).1 (once, plan.apart, λ v m n. ((in_rest part v).0 (each_at plan.inside n)).1 ((has_set_of x once v).1 m));
        inside = each_append (part_set_of x once part) (each_map (λ v h. ((in_rest part v).0 h).0) plan.inside);
      }
    where
      once : T (distinct x)
      once = exchange_distinct g told.0

  pub plan_none : (U : ℕ) → Plan U []
  unfolding flat distinct
  plan_none U = record { told = none; rises = nil; apart = tt; inside = none }

  -- no vertex of a plan is lower than its first
  pub plan_least : {U : ℕ} (x : List ℕ) (p : List (List ℕ)) → Plan U (x ∷ p) → Each (λ v. head_of x ≤ v) (flat (x ∷ p))
  plan_least x p plan =
      flat_each (also (head_least x (each_first plan.told).1) (each_map above_head (each_both (each_rest plan.told) (pairwise_first plan.rises))))
    where
      above_head : (y : List ℕ) → Told g lc lp y × Rises x y → Each (λ v. head_of x ≤ v) y
      above_head y h = each_map (λ v k. omega (arith, h.1)) (head_least y h.0.1)

  -- ---- legal plans

  pub plan_legal : {U : ℕ} {p : List (List ℕ)} → Plan U p → Legal g lc lp p
  plan_legal {p = p} plan = legal_of g lc lp p (each_map (λ x k. k.0) plan.told) plan.apart

  pub plan_in_order : {U : ℕ} {p : List (List ℕ)} → Plan U p → in_order p ≡ p
  plan_in_order plan = told_in_order g lc lp plan.rises plan.told

  pub legal_plan : (q : List (List ℕ)) → Legal g lc lp q → Plan (everything g) (in_order q)
  legal_plan q l =
      let told = in_order_told g lc lp q l in
      record {
        told = told;
        rises = legal_rises g lc lp q l;
        apart = in_order_distinct g lc lp q l;
        inside = each_map (λ v h. has_full g.size v h) (flat_each (each_map (λ x k. exchange_below g k.0) told));
      }
