-- The last entry of the best table, at the set of all vertices, is what the answer is worth.
use mathlib.Core.List.{List, [], ◌∷◌}
use mathlib.Core.Path.{◌≡◌, refl, ◌∙◌}
use Prim.Native.Nat.{ℕ, ◌-◌}
use native.Mathlib.Omega.{arith}
use lib.Dec.{T}
use Rattle.kep.specs.Lists.{Each, distinct, total, none, also, flat}
use Rattle.kep.specs.Graph.{Graph}
use Rattle.kep.specs.Sets.{has, worth_of, set_of, Part}
use Rattle.kep.specs.Table.{Family, member_worth}
use Rattle.kep.specs.Plan.{Best}
use Rattle.kep.specs.computed.Table.{marks, best_of, everything}
use Rattle.kep.specs.inner.Best.{BestLegal}
use Rattle.kep.proofs.Each.{each_at, each_append, each_map}
use Rattle.kep.proofs.ListLaws.{distinct_append}
use Rattle.kep.proofs.Parts.{in_rest}
use Rattle.kep.proofs.SetOf.{has_set_of, part_set_of}
use Rattle.kep.proofs.Worth.{total_append}
use Rattle.kep.proofs.BestTable.{family_first, family_rest, best_attained}
use Rattle.kep.proofs.ExchangeFacts.{Exchange, Told, exchange_distinct}
use Rattle.kep.proofs.EntryMeaning.{marked_told}
use Rattle.kep.proofs.Legal.{Legal, legal_of}
use Rattle.kep.proofs.Greedy.{told_worth, legal_bound}

module _ (g : Graph) (lc lp : ℕ) (w : ℕ → ℕ) where
  -- the exchanges of a family of marked parts of U: they use its sets, lie inside U and are worth what it is worth
  record Uses (U : ℕ) (ts : List ℕ) : Type 0 where
    plan : List (List ℕ)
    exchanges : Each (Exchange g lc lp) plan
    apart : T (distinct (flat plan))
    inside : Each (λ v. T (has U v)) (flat plan)
    worth : total w (flat plan) ≡ total (worth_of w g.size) ts

  family_plan : (U : ℕ) (ts : List ℕ) → Family (marks g lc lp) U ts → Uses U ts
  unfolding total flat distinct
  family_plan U [] f = record { plan = []; exchanges = none; apart = tt; inside = none; worth = refl }
  family_plan U (t ∷ ts) f =
      let (xs, told, uses) = marked_told g lc lp t (family_first f).marked in
      put xs told uses (family_plan (U - t) ts (family_rest f))
    where
      put : (xs : List ℕ) → Told g lc lp xs → set_of xs ≡ t → Uses (U - t) ts → Uses U (t ∷ ts)
      put xs told uses r =
          let once : T (distinct xs) = exchange_distinct g told.0 in
          let part : Part (set_of xs) U = rw uses (family_first f).inside in
          let left : Each (λ v. T (has (U - set_of xs) v)) (flat r.plan) = rw uses r.inside in
          let value : worth_of w g.size t ≡ total w xs = rw (← uses) (told_worth g lc lp w told) in
          record {
            plan = xs ∷ r.plan;
            exchanges = also told.0 r.exchanges;
            apart = (distinct_append xs (flat r.plan)).1 (once, r.apart, λ v m n. ((in_rest part v).0 (each_at left n)).1 ((has_set_of xs once v).1 m));
            inside = each_append (part_set_of xs once part) (each_map (λ v h. ((in_rest part v).0 h).0) left);
            worth = omega (arith, total_append w xs (flat r.plan), r.worth);
          }

  -- some legal plan is worth the last entry of the best table
  pub best_legal : (p : List (List ℕ)) × Legal g lc lp p × (total w (flat p) ≡ best_of w g lc lp (everything g))
  best_legal =
      let (ts, f, e) = best_attained (worth_of w g.size) (marks g lc lp) (everything g) in
      let r : Uses (everything g) ts = family_plan (everything g) ts f in
      (r.plan, legal_of g lc lp r.plan r.exchanges r.apart, r.worth ∙ e)

  -- none is worth more, so whatever is best is worth that much
  pub best_count : {r : List ℕ} {c : ℕ} → BestLegal w g lc lp r c → c ≡ best_of w g lc lp (everything g)
  best_count {r} {c} b =
      let (p, l, e) = best_legal in
      let (q, m, form, count) = b.plan in
      omega (arith, b.greatest p l, legal_bound g lc lp w q m)

-- the best by members and then by weeks serves as many as the best by members alone
pub weeks_most : (g : Graph) (lc lp : ℕ) {weeks : ℕ → ℕ} {r : List ℕ} {c : ℕ} → Best (Legal g lc lp) g weeks r c → c ≡ best_of (member_worth g) g lc lp (everything g)
weeks_most g lc lp b =
    let (p, legal, e) = best_legal g lc lp (member_worth g) in
    omega (arith, b.most_members p legal, legal_bound g lc lp (member_worth g) b.plan b.allowed.0, b.allowed.2)
