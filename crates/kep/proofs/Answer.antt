-- `answer` is the first of the plans that are worth most, for any worth of the vertices; and there is only one.
use mathlib.Core.List.{List, ◌∷◌, [], Memᴰ}
use mathlib.Core.Path.{ap, ◌≡◌, ◌∙◌, sym, refl}
use Prim.Native.Nat.{ℕ, ◌≤◌}
use native.Mathlib.Omega.{arith}
use lib.Dec.{T}
use Rattle.kep.specs.Lists.{before, flat, total, Each, none, also, distinct}
use Rattle.kep.specs.Graph.{Graph}
use Rattle.kep.specs.Exchange.{is_exchange, head_of}
use Rattle.kep.specs.Table.{member_worth}
use Rattle.kep.specs.computed.Table.{exchanges}
use Rattle.kep.specs.Plan.{ZeroClause, record_form, in_order, records_of}
use Rattle.kep.specs.inner.Best.{BestBy, BestLegal}
use Rattle.kep.specs.computed.Answer.{plans, answer}
use Rattle.kep.proofs.Each.{each_map, keep_in, each_at}
use Rattle.kep.proofs.PlanLists.{sublists_in}
use Rattle.kep.proofs.Ordered.{rising_part}
use Rattle.kep.proofs.ExchangeFacts.{Exchange, is_exchange_lem, exchange_is, exchange_serves}
use Rattle.kep.proofs.Listing.{exchanges_are, exchanges_ordered}
use Rattle.kep.proofs.Bytes.{before_antisym}
use Rattle.kep.proofs.InOrder.{in_order_total}
use Rattle.kep.proofs.Legal.{flat_alone, alone_legal, legal_exchanges, Legal, told_in_order, legal_rises, in_order_told, in_order_distinct, empty_legal, plans_legal}
use Rattle.kep.proofs.Choice.{AsGood, pick_best, pick_keeps, as_good_score, as_good_form}

-- ---- what is best by a worth is one, records and worth

module _ {Allowed : List (List ℕ) → Type 0} {w : ℕ → ℕ} {g : Graph} where
  -- one is worth as much as the other
  as_much : {r r' : List ℕ} {c c' : ℕ} → BestBy Allowed w g r c → BestBy Allowed w g r' c' → c' ≤ c
  as_much b b' = omega (arith, b.greatest b'.plan.0 b'.plan.1)

  -- of equal worth, one does not come after the other
  as_early : {r r' : List ℕ} {c c' : ℕ} → BestBy Allowed w g r c → BestBy Allowed w g r' c' → c ≡ c' → T (before r r')
  as_early b b' e = rw b'.plan.2 at (b.first b'.plan.0 b'.plan.1 (b'.plan.3 ∙ sym e))

  pub best_determines : {r r' : List ℕ} {c c' : ℕ} → BestBy Allowed w g r c → BestBy Allowed w g r' c' → (r ≡ r') × (c ≡ c')
  best_determines {r} {r'} {c} {c'} b b' =
      let same : c ≡ c' = omega (arith, as_much b b', as_much b' b) in
      (before_antisym r r' (as_early b b' same) (as_early b' b (sym same)), same)

module _ (g : Graph) (lc lp : ℕ) where
  -- each exchange is worth something: what the zero clause and the greedy choice need of a worth
  abbrev pub Worthy : (ℕ → ℕ) → Type 0
  Worthy w = (xs : List ℕ) → Exchange g lc lp xs → 1 ≤ total w xs

  -- ---- the zero clause: the most that a legal plan is worth is 0 exactly where there is no exchange

  pub zero_clause : (w : ℕ → ℕ) {c : ℕ} (p : List (List ℕ)) → Worthy w → Legal g lc lp p → total w (flat p) ≡ c
      → ((q : List (List ℕ)) → Legal g lc lp q → total w (flat q) ≤ c) → ZeroClause g lc lp c
  unfolding total flat
  zero_clause w {c} p worthy legal count greatest = (no_exchange, nothing)
    where
      no_exchange : c ≡ 0 → (xs : List ℕ) → T (is_exchange g lc lp xs) → ⊥
      no_exchange e xs h =
          let x = is_exchange_lem g lc lp xs h in
          let most : total w xs ≤ c = rw (flat_alone xs) at (greatest (xs ∷ []) (alone_legal g lc lp x)) in
          omega (arith, worthy xs x)

      empty : {p : List (List ℕ)} → ((xs : List ℕ) → T (is_exchange g lc lp xs) → ⊥) → Each (Exchange g lc lp) p → p ≡ []
      empty f none = refl
      empty f (also {x = x} h hs) = absurd (f x (exchange_is g h))

      nothing : ((xs : List ℕ) → T (is_exchange g lc lp xs) → ⊥) → c ≡ 0
      nothing f = sym count ∙ ap (λ (q : List (List ℕ)). total w (flat q)) (empty f (legal_exchanges g lc lp p legal))

  -- ---- the answer is best

  -- a legal plan in order has the same records
  pub in_order_form : (q : List (List ℕ)) → Legal g lc lp q → record_form g (in_order q) ≡ record_form g q
  unfolding record_form
  in_order_form q h = ap (records_of g) (told_in_order g lc lp (legal_rises g lc lp q h) (in_order_told g lc lp q h))

  -- each legal plan, in order, is listed
  pub plan_listed : (q : List (List ℕ)) → Legal g lc lp q → Memᴰ (in_order q) (plans g lc lp)
  unfolding plans
  plan_listed q h =
      let listed = each_map (λ x k. (exchanges_are g lc lp x).1 k) (in_order_told g lc lp q h) in
      let part = rising_part head_of (in_order q) (exchanges g lc lp) (legal_rises g lc lp q h) (exchanges_ordered g lc lp) listed in
      keep_in (λ p. distinct (flat p)) (sublists_in part) (in_order_distinct g lc lp q h)

  module _ (w : ℕ → ℕ) where
    score : List (List ℕ) → ℕ
    score q = total w (flat q)

    -- the answer is as good as any legal plan
    answer_as_good : (q : List (List ℕ)) → Legal g lc lp q → AsGood score (record_form g) (answer w g lc lp) q
    unfolding score answer
    answer_as_good q h =
        let as_good = each_at (pick_best score (record_form g) [] (plans g lc lp)) (plan_listed q h) in
        rw (in_order_total w q, in_order_form q h) at as_good

    pub answer_legal : Legal g lc lp (answer w g lc lp)
    unfolding score answer
    answer_legal = pick_keeps score (record_form g) (Legal g lc lp) [] (plans g lc lp) (empty_legal g lc lp) (plans_legal g lc lp)

    pub answer_best : let p = answer w g lc lp in BestLegal w g lc lp (record_form g p) (total w (flat p))
    unfolding score
    answer_best =
        let p = answer w g lc lp in
        record {
          plan = (p, answer_legal, refl, refl);
          greatest = λ q h. as_good_score score (record_form g) p q (answer_as_good q h);
          first = λ q h e. as_good_form score (record_form g) p q (answer_as_good q h) e;
        }

  -- with members for worth every exchange is worth something
  pub member_worthy : Worthy (member_worth g)
  member_worthy xs e = exchange_serves g e
