-- The calls of clearing: what they tell and leave where they accept, and by which cause they refuse.
use mathlib.Core.List.{List}
use mathlib.Core.Logic.Iff
use mathlib.Core.Logic.{◌↔◌, ◌⊎◌, inl, inr, ⊎_elim}
use mathlib.Core.Path.{◌≡◌, refl, sym, ap, subst, ◌∙◌}
use Prim.Native.Nat.{ℕ, ◌*◌, ◌/◌, ◌≤◌}
use native.Mathlib.Omega.{arith}
use lib.ListN.{length, take, drop}
use lib.Seq.{take_at, drop_at, length_front, length-take-le}
use Rattle.pool.specs.declared.value.Pool.{Pool}
use Rattle.pool.specs.declared.limits.Limits.{Limits}
use Rattle.kep.specs.Lists.{Each, flat}
use Rattle.kep.specs.Table.{served}
use Rattle.kep.specs.computed.Table.{best_of}
use Rattle.kep.specs.Plan.{record_form, FitRecords}
use Rattle.pool.specs.Refusals.{Outcome, accepted, refused, tested, and_then}
use Rattle.reading.specs.Records.{read_pool}
use Rattle.pool.specs.Value.{graph_of, weeks_in, pool_fits}
use Rattle.tables.specs.Calls.{worth_in}
use Rattle.plans.specs.Check.{LegalForm}
use Rattle.clearing.specs.Clearing.{clearable_value, clearable}
use Rattle.clearing.specs.computed.Cleared.{plan_of, clear_outcome, exchanges_of}
use Rattle.claims.specs.Plans.{Lent, Clears, left, tests_of, value_tests, byte_tests}
use Rattle.kep.proofs.Cut.{length_cut}
use Rattle.kep.proofs.ExchangeFacts.{small_fits}
use Rattle.kep.proofs.Answer.{answer_legal}
use Rattle.kep.proofs.FewExchanges.{legal_few}
use Rattle.pool.proofs.Tested.{passes, not_both}
use Rattle.pool.specs.Causes.{Pass, FirstFails}
use Rattle.pool.proofs.Causes.{same_given, alone_refused, alone_accepted, then_refused, then_accepted}
use Rattle.pool.proofs.ValueLaws.{fits_size, few_weeks}
use Rattle.reading.proofs.ReadPool.{read_fits}
use Rattle.plans.proofs.PlanChecked.{legal_listed, legal_counts}
use Rattle.clearing.proofs.ChoosingCode.{form_length}
use Rattle.clearing.proofs.ClearingCode.{Passed, passed}
use Rattle.clearing.proofs.FilledTables.{bests_agree, last_served}
use Rattle.claims.proofs.Problem.{answer_is_optimum}
use Rattle.claims.proofs.TableLaws.{written_exchanges, written_best}
use Rattle.claims.proofs.CheckerLaws.{accepts_legal}

-- ---- a pool that passes all tests is cleared

module _ (p : Pool) (l : Limits) (lent : Lent) (pass : Passed p l lent.exchanges lent.best lent.plan) where
  abbrev form : List ℕ
  form = record_form (graph_of p) (plan_of p l)

  abbrev count : ℕ
  count = served (graph_of p) (flat (plan_of p l))

  fit : FitRecords (graph_of p) l.cycle l.chain
  fit = small_fits (fits_size p pass.fits)

  -- the record form is so long, and there is room for it
  form_long : length form ≡ 16 * length (plan_of p l)
  form_long = form_length (graph_of p) l.cycle l.chain fit (plan_of p l) (answer_legal (graph_of p) l.cycle l.chain (worth_in p))

  inside : length form ≤ length lent.plan
  inside = omega (arith, form_long, pass.plan_long, legal_few (graph_of p) l.cycle l.chain (plan_of p l) (answer_legal (graph_of p) l.cycle l.chain (worth_in p)))

  front : take (16 * length (plan_of p l)) (left l (accepted p) lent).plan ≡ form
  front = take_at form (drop (length form) lent.plan) (16 * length (plan_of p l)) form_long

  passed_clears : Clears p l count (length (plan_of p l)) lent (left l (accepted p) lent)
  passed_clears =
      let optimum = answer_is_optimum (graph_of p) l.cycle l.chain (weeks_in p) (few_weeks p pass.fits) in
      let legal : LegalForm (graph_of p) l.cycle l.chain form count = let b = optimum.best in (b.plan, b.allowed.0, b.allowed.1, b.allowed.2) in
      let many : length form / 16 ≡ length (plan_of p l) = omega (arith, form_long) in
      record {
        fitting_pool = pass.fits;
        fitting_limits = pass.within;
        records = rw front (length_cut 16 (length form / 16) form ∙ many);
        room = omega (arith, inside, form_long);
        beyond = drop_at form (drop (length form) lent.plan) (16 * length (plan_of p l)) form_long ∙ ap (λ n. drop n lent.plan) form_long;
        as_long = length_front lent.plan form (length form) (sym (length-take-le (length form) lent.plan inside));
        optimum = rw front optimum;
        listed = rw front (legal_listed (graph_of p) l.cycle l.chain fit form count legal);
        summed = rw front (legal_counts (graph_of p) l.cycle l.chain fit form count legal);
        exchange_table = written_exchanges p l pass.fits lent.exchanges pass.exchanges_long;
        best_table =
            written_best p pass.fits (exchanges_of p l lent.exchanges) lent.best pass.best_long (best_of (worth_in p) (graph_of p) l.cycle l.chain)
            (bests_agree p l pass.fits lent.exchanges refl);
        last_entry = last_served p l pass.fits lent.best refl;
        checked = λ bytes read. rw front ((accepts_legal bytes l form count).1 (record { pool = p; read = read; fitting_limits = pass.within; legal = legal }));
      }

-- ---- the theorem, once for both calls: by what their tests came to

module _ (l : Limits) (lent : Lent) {o : Outcome Pool} (pass : (p : Pool) → o ≡ accepted p → accepted p ≡ value_tests p l lent) where
  told_clears : {k r : ℕ} (p : Pool) → o ≡ accepted p → clear_outcome l (accepted p) ≡ accepted (k, r) → Clears p l k r lent (left l o lent)
  told_clears {k} {r} p ok told =
      let both = same_given told in
      let served_is : served (graph_of p) (flat (plan_of p l)) ≡ k = ap (λ x. x.0) both in
      let records_are : length (plan_of p l) ≡ r = ap (λ x. x.1) both in
      let clears = passed_clears p l lent (passed p l lent.exchanges lent.best lent.plan (pass p ok)) in
      rw (ok, ← served_is, ← records_are) clears

  outcome_clears : {k r : ℕ} → clear_outcome l o ≡ accepted (k, r) → (p : Pool) × (o ≡ accepted p) × Clears p l k r lent (left l o lent)
  outcome_clears e = let (p, ok, told) = (then_accepted o).0 e in (p, ok, told_clears p ok told)

-- what the tests of a value accept is the value
value_same : (p : Pool) (l : Limits) (lent : Lent) {q : Pool} → value_tests p l lent ≡ accepted q → p ≡ q
unfolding clearable_value
value_same p l lent e = ((alone_accepted p (tests_of p l lent) 0).0 e).1

pub value_cleared : (p : Pool) (l : Limits) (lent : Lent) {k r : ℕ} → clear_outcome l (value_tests p l lent) ≡ accepted (k, r)
    → Clears p l k r lent (left l (value_tests p l lent) lent)
value_cleared p l lent {k} {r} e =
    let (q, ok, clears) = outcome_clears l lent (λ q ok. sym ok ∙ ap (λ x. value_tests x l lent) (value_same p l lent ok)) e in
    subst (λ x. Clears x l k r lent (left l (value_tests p l lent) lent)) (sym (value_same p l lent ok)) clears

pub bytes_cleared : (bytes : List ℕ) (l : Limits) (lent : Lent) {k r : ℕ} → clear_outcome l (byte_tests bytes l lent) ≡ accepted (k, r)
    → (p : Pool) × (read_pool bytes ≡ accepted p) × Clears p l k r lent (left l (byte_tests bytes l lent) lent)
unfolding clearable
bytes_cleared bytes l lent e =
    let (p, ok, clears) = outcome_clears l lent (λ p ok. (reads ok).1) e in
    (p, (reads ok).0, clears)
  where
    reads : {p : Pool} → byte_tests bytes l lent ≡ accepted p → (read_pool bytes ≡ accepted p) × (accepted p ≡ value_tests p l lent)
    reads {p} ok =
        let (q, read, rest) = (then_accepted (read_pool bytes)).0 ok in
        let same = value_same q l lent rest in
        (read ∙ ap (λ x. accepted x) same, sym rest ∙ ap (λ x. value_tests x l lent) same)

-- ---- refusals

-- a call refuses where its tests do, and tells something where they accept
module _ (l : Limits) (o : Outcome Pool) where
  tests_refused : {n at : ℕ} → (clear_outcome l o ≡ refused n at) ↔ (o ≡ refused n at)
  tests_refused = (λ e. ⊎_elim (λ r. r) (λ h. absurd (not_both h.2)) ((then_refused o).0 e), λ r. (then_refused o).1 (inl r))

  tests_accepted : ((k : ℕ) × (r : ℕ) × (clear_outcome l o ≡ accepted (k, r))) ↔ ((p : Pool) × (o ≡ accepted p))
  tests_accepted = (λ t. let (p, ok, told) = (then_accepted o).0 t.2 in (p, ok), λ t. (_, _, (then_accepted o).1 (t.0, t.1, refl)))

-- and leaves all that is lent where they refuse
pub left_untouched : (l : Limits) (o : Outcome Pool) {n at : ℕ} → clear_outcome l o ≡ refused n at → (lent : Lent) → left l o lent ≡ lent
left_untouched l o e lent = rw ((tests_refused l o).0 e)

-- `clear_value`: 6 to 10
module _ (p : Pool) (l : Limits) (lent : Lent) where
  pub value_refused_by : {n at : ℕ} → (clear_outcome l (value_tests p l lent) ≡ refused n at) ↔ (FirstFails (tests_of p l lent) n × (at ≡ 0))
  unfolding clearable_value
  value_refused_by = Iff.trans (tests_refused l (value_tests p l lent)) (alone_refused p (tests_of p l lent) 0)

  pub value_accepted_by : ((k : ℕ) × (r : ℕ) × (clear_outcome l (value_tests p l lent) ≡ accepted (k, r))) ↔ Each Pass (tests_of p l lent)
  unfolding clearable_value
  value_accepted_by =
      let (to, from) = tests_accepted l (value_tests p l lent) in
      (λ t. ((alone_accepted p (tests_of p l lent) 0).0 (to t).1).0, λ h. from (p, (alone_accepted p (tests_of p l lent) 0).1 (h, refl)))

-- `clear`: the causes of reading, and then 7 to 10. A pool that was read meets no 6.
module _ (bytes : List ℕ) (l : Limits) (lent : Lent) where
  pub no_6 : byte_tests bytes l lent ≡ and_then (read_pool bytes) (λ p. tested (drop 1 (tests_of p l lent)) 0 (accepted p))
  unfolding clearable clearable_value
  no_6 = go (read_pool bytes) refl
    where
      go : (o : Outcome Pool) → read_pool bytes ≡ o
          → and_then o (λ p. value_tests p l lent) ≡ and_then o (λ p. tested (drop 1 (tests_of p l lent)) 0 (accepted p))
      go (accepted p) e = passes 6 (pool_fits p) (drop 1 (tests_of p l lent)) 0 (accepted p) (read_fits bytes e)
      go (refused n at) e = refl

  pub bytes_refused_by : {n at : ℕ} → (clear_outcome l (byte_tests bytes l lent) ≡ refused n at)
      ↔ ((read_pool bytes ≡ refused n at) ⊎ ((p : Pool) × (read_pool bytes ≡ accepted p) × FirstFails (drop 1 (tests_of p l lent)) n × (at ≡ 0)))
  bytes_refused_by =
      let (to, from) = tests_refused l (byte_tests bytes l lent) in (
        λ e. ⊎_elim inl (λ h. let f = (alone_refused h.0 (drop 1 (tests_of h.0 l lent)) 0).0 h.2 in inr (h.0, h.1, f.0, f.1))
            ((then_refused (read_pool bytes)).0 (sym no_6 ∙ to e)),
        λ h. from
            (no_6
            ∙ (then_refused (read_pool bytes)).1 (⊎_elim inl (λ t. inr (t.0, t.1, (alone_refused t.0 (drop 1 (tests_of t.0 l lent)) 0).1 (t.2, t.3))) h)),
      )

  pub bytes_accepted_by : ((k : ℕ) × (r : ℕ) × (clear_outcome l (byte_tests bytes l lent) ≡ accepted (k, r)))
      ↔ ((p : Pool) × (read_pool bytes ≡ accepted p) × Each Pass (drop 1 (tests_of p l lent)))
  bytes_accepted_by =
      let (to, from) = tests_accepted l (byte_tests bytes l lent) in (
        λ t. let (p, read, rest) = (then_accepted (read_pool bytes)).0 (sym no_6 ∙ (to t).1) in
            (p, read, ((alone_accepted p (drop 1 (tests_of p l lent)) 0).0 rest).0),
        λ h. from
            (h.0, no_6 ∙ (then_accepted (read_pool bytes)).1 (h.0, h.1, (alone_accepted h.0 (drop 1 (tests_of h.0 l lent)) 0).1 (h.2, refl))),
      )
