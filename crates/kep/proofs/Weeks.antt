-- Members first, then weeks: what "members × 65,536 + weeks" tells of plans and of families, where all weeks together stay below 65,536.
use mathlib.Core.Bool.{Bool, true, false}
use mathlib.Core.List.{List, [], ◌∷◌}
use mathlib.Core.Path.{◌≡◌, refl, sym, ap, ap₂, fun_ext, ◌∙◌}
use Prim.Native.Nat.{ℕ, zero, suc, ◌+◌, ◌*◌, ◌/◌, ◌%◌, ◌≤◌, ◌<◌}
use native.Mathlib.Nat.{mul-add, mul-zero}
use native.Mathlib.Omega.{arith}
use lib.Dec.{T}
use Rattle.kep.specs.Lists.{total, flat, before}
use Rattle.kep.specs.Sets.{has, set_of, counted, worth_of}
use Rattle.kep.specs.Graph.{Graph, is_member}
use Rattle.kep.specs.Table.{member_worth, weeks_worth, served, waited, per_member, member_weeks, Family, MostHeld}
use Rattle.kep.specs.computed.Table.{best}
use Rattle.kep.specs.computed.Answer.{answer}
use Rattle.kep.specs.Plan.{record_form, Best, Optimum}
use Rattle.kep.specs.inner.Best.{BestBy}
use Rattle.kep.proofs.Each.{each_map}
use Rattle.kep.proofs.Worth.{list_worth}
use Rattle.kep.proofs.BestTable.{best_attained, best_bound, best_unique, family_worth}
use Rattle.kep.proofs.ExchangeFacts.{exchange_below}
use Rattle.kep.proofs.Bytes.{before_antisym}
use Rattle.kep.proofs.Canonical.{flat_each}
use Rattle.kep.proofs.Legal.{Legal, legal_exchanges, legal_distinct}
use Rattle.kep.proofs.Answer.{answer_best, answer_legal, zero_clause, member_worthy}
use Rattle.kep.proofs.Digits.{digits, high_le, low_le}

-- ---- only one is best

module _ {Allowed : List (List ℕ) → Type 0} {g : Graph} {weeks : ℕ → ℕ} where
  as_many : {r r' : List ℕ} {c c' : ℕ} → Best Allowed g weeks r c → Best Allowed g weeks r' c' → c' ≤ c
  as_many b b' = omega (arith, b.most_members b'.plan b'.allowed.0, b'.allowed.2)

  as_long : {r r' : List ℕ} {c c' : ℕ} (b : Best Allowed g weeks r c) (b' : Best Allowed g weeks r' c') → c' ≡ c → waited g weeks (flat b'.plan) ≤ waited g weeks (flat b.plan)
  as_long b b' e = b.most_weeks b'.plan b'.allowed.0 (b'.allowed.2 ∙ e)

  as_early : {r r' : List ℕ} {c c' : ℕ} (b : Best Allowed g weeks r c) (b' : Best Allowed g weeks r' c') → c' ≡ c
      → waited g weeks (flat b'.plan) ≡ waited g weeks (flat b.plan) → T (before r r')
  as_early b b' e f = rw b'.allowed.1 at (b.first b'.plan b'.allowed.0 (b'.allowed.2 ∙ e) f)

  pub only_best : {r r' : List ℕ} {c c' : ℕ} → Best Allowed g weeks r c → Best Allowed g weeks r' c' → (r ≡ r') × (c ≡ c')
  only_best {r} {r'} {c} {c'} b b' =
      let same : c ≡ c' = omega (arith, as_many b b', as_many b' b) in
      let also_same : waited g weeks (flat b.plan) ≡ waited g weeks (flat b'.plan) = omega (arith, as_long b b' (sym same), as_long b' b same) in
      (before_antisym r r' (as_early b b' (sym same) (sym also_same)) (as_early b' b same also_same), same)

-- ---- sums of k × a + b

total_both : (k : ℕ) (a b : ℕ → ℕ) (xs : List ℕ) → total (λ x. k * a x + b x) xs ≡ k * total a xs + total b xs
unfolding total
total_both k a b [] = omega (arith, mul-zero k)
total_both k a b (x ∷ xs) = omega (arith, total_both k a b xs, mul-add k (a x) (total a xs))

worth_both : (k : ℕ) (a b : ℕ → ℕ) (n s : ℕ) → worth_of (λ x. k * a x + b x) n s ≡ k * worth_of a n s + worth_of b n s
unfolding worth_of
worth_both k a b zero s = omega (arith, mul-zero k)
worth_both k a b (suc n) s = go (has s n) (worth_both k a b n s)
  where
    go : (h : Bool) → worth_of (λ x. k * a x + b x) n s ≡ k * worth_of a n s + worth_of b n s
        → worth_of (λ x. k * a x + b x) n s + counted h (k * a n + b n) ≡ k * (worth_of a n s + counted h (a n)) + (worth_of b n s + counted h (b n))
    go true e = omega (arith, mul-add k (worth_of a n s) (a n))
    go false e = omega (arith, mul-add k (worth_of a n s) 0, mul-zero k)

module _ (g : Graph) (weeks : ℕ → ℕ) where
  both : member_weeks g weeks ≡ (λ x. per_member * member_worth g x + weeks_worth g weeks x)
  both = fun_ext (λ x. go (is_member g x) (weeks x))
    where
      go : (m : Bool) (n : ℕ) → counted m (per_member + n) ≡ per_member * counted m 1 + counted m n
      go true n = omega arith
      go false n = omega arith

  -- over a list of vertices
  listed : (xs : List ℕ) → total (member_weeks g weeks) xs ≡ per_member * served g xs + waited g weeks xs
  listed xs = ap (λ (w : ℕ → ℕ). total w xs) both ∙ total_both per_member (member_worth g) (weeks_worth g weeks) xs

  -- over a family of sets
  held : (n : ℕ) (ts : List ℕ) → total (worth_of (member_weeks g weeks) n) ts ≡ per_member * total (worth_of (member_worth g) n) ts + total (worth_of (weeks_worth g weeks) n) ts
  held n ts =
      ap (λ (v : ℕ → ℕ). total v ts) (fun_ext (λ s. ap (λ (w : ℕ → ℕ). worth_of w n s) both ∙ worth_both per_member (member_worth g) (weeks_worth g weeks) n s))
      ∙ total_both per_member (worth_of (member_worth g) n) (worth_of (weeks_worth g weeks) n) ts

  -- ---- the best by both in one number is the best by members and then by weeks, and its worth tells the members

  module _ {Allowed : List (List ℕ) → Type 0} (below : (p : List (List ℕ)) → Allowed p → waited g weeks (flat p) < per_member) where
    pub weeks_told : (p : List (List ℕ)) → Allowed p → total (member_weeks g weeks) (flat p) / per_member ≡ served g (flat p)
    weeks_told p h = (digits per_member (served g (flat p)) (below p h) (sym (listed (flat p)))).0

    pub weeks_best : {r : List ℕ} {c : ℕ} → BestBy Allowed (member_weeks g weeks) g r c → Best Allowed g weeks r (c / per_member)
    weeks_best {r} {c} b = go b.plan
      where
        go : (p : List (List ℕ)) × Allowed p × (record_form g p ≡ r) × (total (member_weeks g weeks) (flat p) ≡ c) → Best Allowed g weeks r (c / per_member)
        go (p, allowed, form, worth) =
            let most : (q : List (List ℕ)) → Allowed q
            → per_member * served g (flat q) + waited g weeks (flat q) ≤ per_member * served g (flat p) + waited g weeks (flat p) =
            λ q h. omega (arith, b.greatest q h, worth, listed (flat p), listed (flat q)) in
            rw (← worth, weeks_told p allowed) record {
              plan = p;
              allowed = (allowed, form, refl);
              most_members = λ q h. high_le per_member (served g (flat p)) (served g (flat q)) (waited g weeks (flat q)) (below p allowed) (most q h);
              most_weeks = λ q h e. low_le per_member (waited g weeks (flat p)) (waited g weeks (flat q)) e (most q h);
              first = λ q h e f. b.first q h (listed (flat q) ∙ ap₂ (λ (x y : ℕ). per_member * x + y) e f ∙ sym (listed (flat p)) ∙ worth);
            }

  -- ---- the weeks in any set are less than a member counts

  module _ (few : (s : ℕ) → worth_of (weeks_worth g weeks) g.size s < per_member) where
    -- an entry of the best table tells both
    pub weeks_held_lem : (m : ℕ → Bool) (s : ℕ) → let c = best (worth_of (member_weeks g weeks) g.size) m s in
        MostHeld (worth_of (member_worth g) g.size) (worth_of (weeks_worth g weeks) g.size) m s (c / per_member) (c % per_member)
    weeks_held_lem m s = go (best_attained v m s)
      where
        v : ℕ → ℕ
        v = worth_of (member_weeks g weeks) g.size

        members : ℕ → ℕ
        members = worth_of (member_worth g) g.size

        weeks_of : ℕ → ℕ
        weeks_of = worth_of (weeks_worth g weeks) g.size

        go : (ts : List ℕ) × Family m s ts × (total v ts ≡ best v m s) → MostHeld members weeks_of m s (best v m s / per_member) (best v m s % per_member)
        go (ts, f, e) =
            let below : total weeks_of ts < per_member = omega (arith, family_worth (weeks_worth g weeks) g.size s ts f, few s) in
            let (is_a, is_b) = digits per_member (total members ts) below (sym (held g.size ts) ∙ e) in
            let most : (us : List ℕ) → Family m s us → per_member * total members us + total weeks_of us ≤ per_member * total members ts + total weeks_of ts =
            λ us h. omega (arith, best_bound v m h, e, held g.size ts, held g.size us) in
            rw (is_a, is_b) record {
              attained = (ts, f, refl, refl);
              most_members = λ {ts = us} h. high_le per_member (total members ts) (total members us) (total weeks_of us) below (most us h);
              most_weeks = λ {ts = us} h d. low_le per_member (total weeks_of ts) (total weeks_of us) d (most us h);
            }

    -- so its members are the most that any family holds
    pub members_told : (m : ℕ → Bool) (s : ℕ) → best (worth_of (member_worth g) g.size) m s ≡ best (worth_of (member_weeks g weeks) g.size) m s / per_member
    members_told m s =
        let held = weeks_held_lem m s in
        let (ts, family, members, _) = held.attained in
        sym (best_unique (worth_of (member_worth g) g.size) m family (λ us f. omega (arith, held.most_members f, members))) ∙ members

    module _ (lc lp : ℕ) where
      -- the weeks of a legal plan stay below what a member counts
      pub waited_small : (p : List (List ℕ)) → Legal g lc lp p → waited g weeks (flat p) < per_member
      waited_small p h =
          let vertices = flat_each (each_map (λ x e. exchange_below g e) (legal_exchanges g lc lp p h)) in
          rw (← list_worth (weeks_worth g weeks) g.size (flat p) (legal_distinct g lc lp p h) vertices) (few (set_of (flat p)))

      -- so `answer` by both in one number is what demand 3 asks for
      pub weeks_optimum : let p = answer (member_weeks g weeks) g lc lp in Optimum g weeks lc lp (record_form g p) (served g (flat p))
      weeks_optimum =
          let p = answer (member_weeks g weeks) g lc lp in
          let b : Best (Legal g lc lp) g weeks (record_form g p) (served g (flat p)) =
          rw (weeks_told waited_small p (answer_legal g lc lp (member_weeks g weeks))) at (weeks_best waited_small (answer_best g lc lp (member_weeks g weeks))) in
          record { best = b; zero_clause = zero_clause g lc lp (member_worth g) b.plan (member_worthy g lc lp) b.allowed.0 b.allowed.2 b.most_members }
