-- The records of a plan, one after the other: they are accepted exactly where they are the records of exchanges that may come one
-- after the other.
use mathlib.Core.List.{List, [], ◌∷◌, ◌++◌, map, append_assoc, append-nil}
use mathlib.Core.Path.{◌≡◌, refl, sym, ◌∙◌, ap, ap₂}
use Prim.Native.Nat.{ℕ, suc, ◌≤◌}
use native.Mathlib.Omega.{arith}
use lib.Dec.{T}
use Rattle.kep.specs.Lists.{Each, none, also, Pairwise, nil, cons, distinct, flat}
use Rattle.kep.specs.Graph.{Graph, WellFormed}
use Rattle.kep.specs.Exchange.{head_of}
use Rattle.kep.specs.Table.{served}
use Rattle.kep.specs.Plan.{record_of, FitRecords}
use Rattle.pool.specs.Refusals.{accepted, refused, tested}
use Rattle.plans.specs.Check.{vertices_of, fresh, record_tests, check_from}
use Rattle.kep.proofs.Each.{each_first, each_rest, each_map}
use Rattle.kep.proofs.ListLaws.{distinct_append}
use Rattle.pool.proofs.Tested.{all_pass, all_held, with_rest}
use Rattle.pool.specs.Causes.{Pass}
use Rattle.kep.proofs.Ordered.{pairwise_first, pairwise_rest}
use Rattle.kep.proofs.ExchangeFacts.{Told}
use Rattle.kep.proofs.InOrder.{Rises}
use Rattle.kep.proofs.WholeRecords.{Whole}
use Rattle.plans.proofs.CheckRecord.{Next, record_accepted, record_passes, exchange_back}

-- the vertices met, and then those of a plan
met_more : (met xs : List ℕ) (p : List (List ℕ)) → met ++ xs ++ flat p ≡ met ++ flat (xs ∷ p)
unfolding flat
met_more met xs p = append_assoc met xs (flat p)

met_all : (met : List ℕ) → met ++ flat [] ≡ met
unfolding flat
met_all met = append-nil met

module _ (g : Graph) (lc lp : ℕ) where
  -- ---- exchanges that may come one after the other, after the vertices `met` and with first vertices not under `least`

  pub record Follows (met : List ℕ) (least : ℕ) (p : List (List ℕ)) : Type 0 where
    pub told : Each (Told g lc lp) p
    pub rises : Pairwise Rises p
    pub after : Each (λ x. least ≤ head_of x) p
    pub apart : T (distinct (met ++ flat p))

  follows_none : (met : List ℕ) (least : ℕ) → T (distinct met) → Follows met least []
  follows_none met least d = record { told = none; rises = nil; after = none; apart = rw met_all d }

  -- the first taken off
  follows_split : {met : List ℕ} {least : ℕ} (xs : List ℕ) (p : List (List ℕ)) → Follows met least (xs ∷ p)
      → Next g lc lp met least xs × Follows (met ++ xs) (suc (head_of xs)) p
  follows_split {met} xs p f =
      let apart : T (distinct (met ++ xs ++ flat p)) = rw (met_more met xs p) f.apart in (
        record { told = each_first f.told; apart = ((distinct_append (met ++ xs) (flat p)).0 apart).0; after = each_first f.after },
        record { told = each_rest f.told; rises = pairwise_rest f.rises; after = pairwise_first f.rises; apart = apart },
      )

  -- and put on again
  follows_put : {met : List ℕ} {least : ℕ} (xs : List ℕ) (p : List (List ℕ)) → Next g lc lp met least xs
      → Follows (met ++ xs) (suc (head_of xs)) p → Follows met least (xs ∷ p)
  follows_put {met} xs p n f = record {
    told = also n.told f.told;
    rises = cons f.after f.rises;
    after = also n.after (each_map (λ ys h. omega (arith, n.after)) f.after);
    apart = rw (met_more met xs p) at f.apart;
  }

  -- ---- the check of one record and of the others

  module _ (met : List ℕ) (least i : ℕ) (r : List ℕ) (rs : List (List ℕ)) where
    -- a record that meets no cause is passed over
    pub check_next : Each Pass (record_tests g lc lp (fresh met) least r)
        → check_from g lc lp met least i (r ∷ rs) ≡ check_from g lc lp (met ++ vertices_of r) (suc (head_of (vertices_of r))) (suc i) rs
    unfolding check_from
    check_next tests = all_pass i _ tests

    -- one that meets a cause ends the check
    pub check_stop : {A : Type 0} (a : A) {cause at : ℕ} → tested (record_tests g lc lp (fresh met) least r) i (accepted a) ≡ refused cause at
        → check_from g lc lp met least i (r ∷ rs) ≡ refused cause at
    unfolding check_from
    check_stop a e = with_rest a (record_tests g lc lp (fresh met) least r) i e _

    -- what is accepted meets no cause in its first record
    check_first : {k : ℕ} → check_from g lc lp met least i (r ∷ rs) ≡ accepted k → Each Pass (record_tests g lc lp (fresh met) least r)
    unfolding check_from
    check_first e = (all_held (record_tests g lc lp (fresh met) least r) i _ e).0

  pub check_end : (met : List ℕ) (least i : ℕ) → check_from g lc lp met least i [] ≡ accepted (served g met)
  unfolding check_from
  check_end met least i = refl

  -- ---- the check of all

  -- the records of exchanges that may come one after the other are accepted, with the members among their vertices
  pub follows_accepted : FitRecords g lc lp → (i : ℕ) {met : List ℕ} {least : ℕ} (p : List (List ℕ)) → Follows met least p
      → check_from g lc lp met least i (map (record_of g) p) ≡ accepted (served g (met ++ flat p))
  follows_accepted fit i {met} {least} [] f = check_end met least i ∙ ap (λ xs. accepted (served g xs)) (sym (met_all met))
  follows_accepted fit i {met} {least} (xs ∷ p) f =
      let (n, rest) = follows_split xs p f in
      check_next met least i (record_of g xs) (map (record_of g) p) (record_passes g lc lp fit met least n)
      ∙ ap (λ ys. check_from g lc lp (met ++ ys) (suc (head_of ys)) (suc i) (map (record_of g) p)) (exchange_back g lc lp fit n.told.0)
      ∙ follows_accepted fit (suc i) p rest
      ∙ ap (λ ys. accepted (served g ys)) (met_more met xs p)

  -- what accepted records are
  pub record Accepted (met : List ℕ) (least : ℕ) (rs : List (List ℕ)) (k : ℕ) : Type 0 where
    pub follows : Follows met least (map vertices_of rs)
    pub records : map (record_of g) (map vertices_of rs) ≡ rs
    pub count : served g (met ++ flat (map vertices_of rs)) ≡ k

  -- records that are accepted are those of such exchanges
  pub accepted_follows : WellFormed g → (met : List ℕ) (least i : ℕ) {rs : List (List ℕ)} {k : ℕ} → T (distinct met) → Whole 16 rs
      → check_from g lc lp met least i rs ≡ accepted k → Accepted met least rs k
  accepted_follows wf met least i d none e =
      record { follows = follows_none met least d; records = refl; count = cc (check_end met least i, met_all met) }
  accepted_follows wf met least i d (also {x = r} {xs = rs} h hs) e =
      let passed = check_first met least i r rs e in
      let (n, back) = record_accepted g lc lp wf met least r h passed in
      let xs = vertices_of r in
      let rest = accepted_follows wf (met ++ xs) (suc (head_of xs)) (suc i) n.apart hs (sym (check_next met least i r rs passed) ∙ e) in
      record {
        follows = follows_put xs (map vertices_of rs) n rest.follows;
        records = ap₂ (λ x xs. x ∷ xs) back rest.records;
        count = ap (served g) (sym (met_more met xs (map vertices_of rs))) ∙ rest.count;
      }
