-- The first of the plans of greatest worth, chosen exchange by exchange over the two tables: for any worth w of the vertices.
use mathlib.Core.List.Memᴰ
use mathlib.Core.List.{List, [], ◌∷◌, ◌++◌, append_assoc, append-nil}
use mathlib.Core.Logic.{◌⊎◌, ◌≢◌, inl, inr}
use mathlib.Core.Path.{ap, ◌≡◌, refl, sym, ◌∙◌}
use Prim.Native.Nat.{ℕ, ◌-◌, ◌+◌, ◌≤◌, ◌^◌, ◌<◌}
use native.Mathlib.Omega.{arith}
use lib.Dec.{T}
use Rattle.kep.specs.Lists.{total, distinct, none, Each, flat, before}
use Rattle.kep.specs.Graph.{Graph}
use Rattle.kep.specs.Sets.{worth_of, set_of, Part, has, Disjoint}
use Rattle.kep.specs.Table.{Marked}
use Rattle.kep.specs.computed.Table.{best_of, marks, everything}
use Rattle.kep.specs.Exchange.{head_of}
use Rattle.kep.specs.Plan.{in_order, records_of, record_form, FitRecords}
use Rattle.kep.specs.inner.Best.{BestLegal}
use Rattle.kep.proofs.Tests.{below, compared, Compared, equal, above}
use Rattle.kep.proofs.Each.{each_first, each_map, each_both}
use Rattle.kep.proofs.SetLaws.{nonempty, IsLowest}
use Rattle.kep.proofs.Parts.{in_rest, part_le, part_refl}
use Rattle.kep.proofs.Vertices.{in_power, power_part, in_without}
use Rattle.kep.proofs.SetOf.{has_set_of, part_set_of}
use Rattle.kep.proofs.Worth.{list_worth, total_append}
use Rattle.kep.proofs.BestTable.{best_with, best_avoids, best_choice, best_marked}
use Rattle.kep.proofs.Walks.{first_lowest}
use Rattle.kep.proofs.ExchangeFacts.{Told, exchange_distinct, exchange_below, exchange_member, exchange_some, fits_few}
use Rattle.kep.proofs.EntryMeaning.{told_marked, marked_told}
use Rattle.kep.proofs.Bytes.{◌◁◌, ◌≺◌, records_order, lower, next, records_same, ≺-before}
use Rattle.kep.proofs.InOrder.{each_heads, in_order_total}
use Rattle.kep.proofs.Legal.{Legal}
use Rattle.kep.proofs.Canonical.{Plan, plan_split, plan_least, plan_put, told_some, plan_none, legal_plan, plan_legal, plan_in_order}

module _ (g : Graph) (lc lp : ℕ) (w : ℕ → ℕ) where
  abbrev best_in : ℕ → ℕ
  best_in U = best_of w g lc lp U

  -- ---- the set of an exchange, and the best table

  -- it is worth what the exchange is
  pub told_worth : {xs : List ℕ} → Told g lc lp xs → worth_of w g.size (set_of xs) ≡ total w xs
  told_worth {xs} t = list_worth w g.size xs (exchange_distinct g t.0) (exchange_below g t.0)

  -- it is marked
  pub told_part : {U : ℕ} {xs : List ℕ} → Told g lc lp xs → Part (set_of xs) U → Marked (marks g lc lp) U (set_of xs)
  told_part {U} {xs} t i =
      let (v, m, member) = exchange_member g t.0 in
      record {
        nonempty = nonempty (set_of xs) v ((has_set_of xs (exchange_distinct g t.0) v).1 m);
        marked = told_marked g lc lp (set_of xs) xs t refl;
        inside = i;
      }

  -- so its entry in the best table is what it is worth
  pub told_best : {xs : List ℕ} → Told g lc lp xs → best_in (set_of xs) ≡ total w xs
  told_best {xs} t = let m = told_part t (part_refl (set_of xs)) in best_marked w (marks g lc lp) g.size m.nonempty m.marked ∙ told_worth t

  -- an exchange inside U and the best of what it leaves are together at most the best of U
  together_bound : {U : ℕ} {xs : List ℕ} → Told g lc lp xs → Part (set_of xs) U → total w xs + best_in (U - set_of xs) ≤ best_in U
  together_bound t i = omega (arith, told_worth t, best_with (worth_of w g.size) (marks g lc lp) (told_part t i))

  -- no plan inside U is worth more than the best of U
  pub plan_bound : {U : ℕ} (p : List (List ℕ)) → Plan g lc lp U p → total w (flat p) ≤ best_in U
  unfolding flat total
  plan_bound [] plan = omega arith
  plan_bound {U = U} (x ∷ p) plan =
      let (t, i, rises, rest) = plan_split g lc lp x p plan in
      omega (arith, total_append w x (flat p), together_bound t i, plan_bound {U = U - set_of x} p rest)

  -- a set with a best that is not 0 has a vertex
  pub best_nonempty : {U : ℕ} → 0 < best_in U → 0 < U
  best_nonempty p = let (t, m, e) = best_choice (worth_of w g.size) (marks g lc lp) p in omega (arith, m.nonempty, part_le m.inside)

  -- ---- what is chosen

  -- a plan inside U that is worth the best of U
  pub record Optimal (U : ℕ) (p : List (List ℕ)) : Type 0 where
    pub plan : Plan g lc lp U p
    pub greatest : total w (flat p) ≡ best_in U

  -- an exchange with which the best of U can still be reached
  pub record Good (U : ℕ) (xs : List ℕ) : Type 0 where
    pub told : Told g lc lp xs
    pub inside : Part (set_of xs) U
    pub exact : total w xs + best_in (U - set_of xs) ≡ best_in U

  -- the good exchange from f on that comes first
  pub record FirstGood (U f : ℕ) (xs : List ℕ) : Type 0 where
    pub good : Good U (f ∷ xs)
    pub first : (ys : List ℕ) → Good U (f ∷ ys) → (xs ≡ ys) ⊎ (xs ◁ ys)

  -- no exchange from f on is good
  abbrev pub NoneGood : ℕ → ℕ → Type 0
  NoneGood U f = (xs : List ℕ) → Good U (f ∷ xs) → ⊥

  -- the plan that repeating the step gives: while the best of U is not 0, the first good exchange from the lowest vertex of U on is
  -- taken; if there is none, the vertex is left out
  pub data Chosen : ℕ → List (List ℕ) → Type 0 where
    done : {U : ℕ} → best_in U ≡ 0 → Chosen U []
    skip : {U f : ℕ} {p : List (List ℕ)} → IsLowest U f → NoneGood U f → Chosen (U - 2 ^ f) p → Chosen U p
    take :
        {U f : ℕ} {xs : List ℕ} {p : List (List ℕ)} → 0 < best_in U → IsLowest U f → FirstGood U f xs
        → Chosen (U - set_of (f ∷ xs)) p → Chosen U ((f ∷ xs) ∷ p)

  -- ---- the choice as a loop

  -- the exchanges made lead from U to W: whatever is chosen inside W goes behind them
  abbrev pub Leads : ℕ → List (List ℕ) → ℕ → Type 0
  Leads U made W = (p : List (List ℕ)) → Chosen W p → Chosen U (made ++ p)

  pub leads_start : (U : ℕ) → Leads U [] U
  leads_start U p c = c

  -- a step that leaves the vertex out, one that takes an exchange, and the end
  pub leads_skip : {U W f : ℕ} (made : List (List ℕ)) → IsLowest W f → NoneGood W f → Leads U made W → Leads U made (W - 2 ^ f)
  leads_skip made low nothing l p c = l p (skip low nothing c)

  pub leads_take :
      {U W f : ℕ} {xs : List ℕ} (made : List (List ℕ)) → 0 < best_in W → IsLowest W f → FirstGood W f xs → Leads U made W
      → Leads U (made ++ (f ∷ xs) ∷ []) (W - set_of (f ∷ xs))
  leads_take {f = f} {xs = xs} made positive low first l p c = rw append_assoc (l ((f ∷ xs) ∷ p) (take positive low first c))

  pub leads_done : {U W : ℕ} (made : List (List ℕ)) → best_in W ≡ 0 → Leads U made W → Chosen U made
  leads_done made e l = rw append-nil at (l [] (done e))

  -- ---- the parts of an optimal plan

  -- its first exchange is good and leaves an optimal plan
  split_optimal : {U : ℕ} (x : List ℕ) (r : List (List ℕ)) → Optimal U (x ∷ r) → Good U x × Optimal (U - set_of x) r
  unfolding flat
  split_optimal {U} x r o =
      let (t, i, rises, rest) = plan_split g lc lp x r o.plan in
      let least : total w x + best_in (U - set_of x) ≤ best_in U = together_bound t i in
      let most : total w (flat r) ≤ best_in (U - set_of x) = plan_bound r rest in
      let all : total w x + total w (flat r) ≡ best_in U = sym (total_append w x (flat r)) ∙ o.greatest in
      (record { told = t; inside = i; exact = omega arith }, record { plan = rest; greatest = omega arith })

  -- where it begins, beside the lowest vertex of U
  data Begins (U f : ℕ) : List (List ℕ) → Type 0 where
    nowhere : Begins U f []
    higher : {h : ℕ} {ys : List ℕ} {r : List (List ℕ)} → f < h → Begins U f ((h ∷ ys) ∷ r)
    there : {ys : List ℕ} {r : List (List ℕ)} → Good U (f ∷ ys) → Optimal (U - set_of (f ∷ ys)) r → Begins U f ((f ∷ ys) ∷ r)

  begins : {U f : ℕ} (q : List (List ℕ)) → IsLowest U f → Optimal U q → Begins U f q
  begins [] low o = nowhere
  begins ([] ∷ r) low o = absurd (omega (arith, exchange_some g (split_optimal [] r o).0.told.0))
  begins {U} {f} ((h ∷ ys) ∷ r) low o = go (compared f h)
    where
      first : T (has U h)
      first = let (good, rest) = split_optimal (h ∷ ys) r o in each_first (part_set_of (h ∷ ys) (exchange_distinct g good.told.0) good.inside)

      go : Compared f h → Begins U f ((h ∷ ys) ∷ r)
      go (below l) = higher l
      go (equal e) = let (good, rest) = split_optimal (f ∷ ys) r (rw (← e) at o) in rw (← e) (there good rest)
      go (above l) = absurd (omega (arith, low.least h first))

  -- ---- no exchange from the lowest vertex on is good: the vertex is left out

  module _ {U f : ℕ} (low : IsLowest U f) (nothing : NoneGood U f) where
    -- no marked part with which the best of U can be reached has the vertex
    skip_away : (t : ℕ) → Marked (marks g lc lp) U t → best_in U ≡ worth_of w g.size t + best_in (U - t) → Disjoint t (2 ^ f)
    skip_away t m exact = let (xs, told, uses) = marked_told g lc lp t m.marked in go xs told uses
      where
        at_first : (h : ℕ) (ys : List ℕ) → Told g lc lp (h ∷ ys) → set_of (h ∷ ys) ≡ t → T (has t f) → ⊥
        at_first h ys told uses member =
            let first : IsLowest t h = rw uses at (first_lowest h ys (exchange_distinct g told.0) told.1) in
            let same : h ≡ f = omega (arith, first.least f member, low.least h (m.inside.within h first.is_in)) in
            let good : Good U (h ∷ ys) = record { told = told; inside = rw uses m.inside; exact = rw (← told_worth told, uses) (sym exact) } in
            nothing ys (rw same at good)

        go : (xs : List ℕ) → Told g lc lp xs → set_of xs ≡ t → Disjoint t (2 ^ f)
        go [] told uses = absurd (omega (arith, exchange_some g told.0))
        go (h ∷ ys) told uses = record { never = λ v p q. at_first h ys told uses (rw ((in_power f v).0 q) at p) }

    -- so the best stays the same
    pub skip_best : best_in (U - 2 ^ f) ≡ best_in U
    skip_best = best_avoids (worth_of w g.size) (marks g lc lp) (power_part U f low.is_in) skip_away

    -- and so do the optimal plans
    skip_above : (q : List (List ℕ)) → Optimal U q → Begins U f q → Each (λ v. f < v) (flat q)
    unfolding flat head_of
    skip_above q o nowhere = none
    skip_above q o (higher {h = h} {ys = ys} {r = r} l) = each_map (λ v k. omega arith) (plan_least g lc lp (h ∷ ys) r o.plan)
    skip_above q o (there {ys = ys} good rest) = absurd (nothing ys good)

    skip_optimal : (q : List (List ℕ)) → Optimal U q → Optimal (U - 2 ^ f) q
    skip_optimal q o =
        let above : Each (λ v. f < v) (flat q) = skip_above q o (begins q low o) in
        let p = o.plan in
        record {
          plan = record {
            told = p.told;
            rises = p.rises;
            apart = p.apart;
            inside = each_map (λ v h. (in_without U f v low.is_in).1 (h.0, omega (arith, h.1))) (each_both p.inside above);
          };
          greatest = o.greatest ∙ sym skip_best;
        }

    unskip_optimal : (q : List (List ℕ)) → Optimal (U - 2 ^ f) q → Optimal U q
    unskip_optimal q o =
        let p = o.plan in
        record {
          plan = record {
            told = p.told;
            rises = p.rises;
            apart = p.apart;
            inside = each_map (λ v h. ((in_without U f v low.is_in).0 h).0) p.inside;
          };
          greatest = o.greatest ∙ skip_best;
        }

  -- ---- some exchange from the lowest vertex on is good: the first of them is taken

  -- with an optimal plan of what is left behind it, it makes an optimal plan
  take_optimal : {U f : ℕ} {xs : List ℕ} {p : List (List ℕ)} → IsLowest U f → Good U (f ∷ xs) → Optimal (U - set_of (f ∷ xs)) p → Optimal U ((f ∷ xs) ∷ p)
  unfolding flat head_of
  take_optimal {U} {f} {xs} {p} low good o =
      record {
        plan = plan_put g lc lp good.told good.inside (each_heads (told_some g lc lp o.plan.told) (each_map later o.plan.inside)) o.plan;
        greatest = total_append w (f ∷ xs) (flat p) ∙ ap (λ (k : ℕ). total w (f ∷ xs) + k) o.greatest ∙ good.exact;
      }
    where
      once : T (distinct (f ∷ xs))
      once = exchange_distinct g good.told.0

      later : (v : ℕ) → T (has (U - set_of (f ∷ xs)) v) → f < v
      later v h =
          let (inside, other) = (in_rest good.inside v).0 h in
          let differs : v ≢ f = λ e. other ((has_set_of (f ∷ xs) once v).1 (Memᴰ.head e)) in
          omega (arith, low.least v inside)

  -- the plan chosen is optimal
  pub chosen_optimal : {U : ℕ} {p : List (List ℕ)} → Chosen U p → Optimal U p
  unfolding flat total
  chosen_optimal (done {U = U} e) = record { plan = plan_none g lc lp U; greatest = sym e }
  chosen_optimal (skip {p = p} low nothing c) = unskip_optimal low nothing p (chosen_optimal c)
  chosen_optimal (take positive low first c) = take_optimal low first.good (chosen_optimal c)

  -- no legal plan is worth more than the best of all vertices
  pub legal_bound : (q : List (List ℕ)) → Legal g lc lp q → total w (flat q) ≤ best_in (everything g)
  legal_bound q l = omega (arith, in_order_total w q, plan_bound (in_order q) (legal_plan g lc lp q l))

  -- ---- the records of the plan chosen come first

  module _ (fit : FitRecords g lc lp) where
    -- a record has room for an exchange, and its vertices are below the filler
    told_before : {x y : List ℕ} (p q : List (List ℕ)) → Told g lc lp x → x ◁ y → records_of g (x ∷ p) ≺ records_of g (y ∷ q)
    told_before p q t r = records_order g p q (fits_few fit t.0) (each_map (λ v h. omega (arith, fit.below_filler)) (exchange_below g t.0)) r

    -- an optimal plan begins with the exchange taken and goes on as an optimal plan of what is left, or it comes later, whatever is
    -- put behind the exchange taken
    data Later (U : ℕ) (x : List ℕ) : List (List ℕ) → Type 0 where
      goes_on : {r : List (List ℕ)} → Optimal (U - set_of x) r → Later U x (x ∷ r)
      later : {q : List (List ℕ)} → ((p : List (List ℕ)) → records_of g (x ∷ p) ≺ records_of g q) → Later U x q

    take_first : {U f : ℕ} {xs : List ℕ} (q : List (List ℕ)) → 0 < best_in U → FirstGood U f xs → Optimal U q → Begins U f q → Later U (f ∷ xs) q
    unfolding flat total
    take_first q positive first o nowhere = absurd (omega (arith, o.greatest))
    take_first q positive first o (higher {r = r} l) = later (λ p. told_before p r first.good.told (lower l))
    take_first {U} {f} {xs} q positive first o (there {ys = ys} {r = r} good rest) = go (first.first ys good)
      where
        go : (xs ≡ ys) ⊎ (xs ◁ ys) → Later U (f ∷ xs) ((f ∷ ys) ∷ r)
        go (inl e) = rw e (goes_on rest)
        go (inr l) = later (λ p. told_before p r first.good.told (next refl l))

    pub chosen_first : {U : ℕ} {p q : List (List ℕ)} → Chosen U p → Optimal U q → T (before (records_of g p) (records_of g q))
    unfolding records_of before
    chosen_first (done e) o = tt
    chosen_first {q = q} (skip low nothing c) o = chosen_first c (skip_optimal low nothing q o)
    chosen_first {U} {q = q} (take {f = f} {xs = xs} {p = p} positive low first c) o =
        go (λ r o'. chosen_first c o') (take_first q positive first o (begins q low o))
      where
        go : {q : List (List ℕ)}
            → ((r : List (List ℕ)) → Optimal (U - set_of (f ∷ xs)) r → T (before (records_of g p) (records_of g r)))
            → Later U (f ∷ xs) q → T (before (records_of g ((f ∷ xs) ∷ p)) (records_of g q))
        go rest (goes_on {r = r} o') = rw (records_same g (f ∷ xs) p r) (rest r o')
        go rest (later l) = ≺-before (l p)

    -- so it is what is asked for, among all legal plans, told in any order with cycles begun anywhere
    pub chosen_best : {p : List (List ℕ)} → Chosen (everything g) p → BestLegal w g lc lp (record_form g p) (best_in (everything g))
    unfolding record_form
    chosen_best {p} c =
        let o : Optimal (everything g) p = chosen_optimal c in
        record {
          plan = (p, plan_legal g lc lp o.plan, refl, o.greatest);
          greatest = λ q l. legal_bound q l;
          first = λ q l e.
              rw (plan_in_order g lc lp o.plan) (chosen_first c (record { plan = legal_plan g lc lp q l; greatest = in_order_total w q ∙ e }));
        }
