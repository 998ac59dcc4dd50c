-- The call of the checker: what it accepts, and by which cause it refuses.
use mathlib.Core.List.{List, [], ◌∷◌, ◌++◌, map, append-nil, append_assoc}
use mathlib.Core.Logic.{◌↔◌, ◌⊎◌, inl, inr, ⊎_elim}
use mathlib.Core.Path.{◌≡◌, refl, sym, ap, ◌∙◌}
use Prim.Native.Nat.{ℕ, suc}
use Rattle.pool.specs.declared.value.Pool.{Pool}
use Rattle.pool.specs.declared.limits.Limits.{Limits}
use Rattle.kep.specs.Lists.{Each, none, also, flat}
use Rattle.kep.specs.Graph.{Graph}
use Rattle.kep.specs.Exchange.{head_of}
use Rattle.kep.specs.Table.{served}
use Rattle.pool.specs.Refusals.{Outcome, accepted, refused, tested}
use Rattle.pool.specs.Limits.{limits_fit}
use Rattle.reading.specs.Records.{read_pool}
use Rattle.pool.specs.Value.{graph_of}
use Rattle.plans.specs.Check.{vertices_of, records_in, lists_in, counts, fresh, record_tests, check_from, check, LegalForm}
use Rattle.plans.specs.CheckCall.{check_outcome}
use Rattle.claims.specs.Plans.{LegalPlan, whole_tests, plan_tests, records_tests}
use Rattle.kep.proofs.Each.{each_first}
use Rattle.kep.proofs.ExchangeFacts.{small_fits}
use Rattle.kep.specs.Plan.{FitRecords}
use Rattle.pool.proofs.Tested.{not_both}
use Rattle.pool.specs.Causes.{Pass, FirstMet}
use Rattle.pool.proofs.Causes.{in_turn, accepted_by, then_refused, then_accepted, met_refused, met_accepted}
use Rattle.pool.proofs.ValueLaws.{fits_size}
use Rattle.reading.proofs.ReadPool.{read_fits, read_formed}
use Rattle.plans.proofs.PlanChecked.{accepted_legal, legal_accepted, legal_listed, legal_counts}

-- the exchanges of a pool that was read fit into records
pub read_fit_records : (bytes : List ℕ) {p : Pool} → read_pool bytes ≡ accepted p → (lc lp : ℕ) → FitRecords (graph_of p) lc lp
read_fit_records bytes {p} read lc lp = small_fits (fits_size p (read_fits bytes read))

module _ (bytes : List ℕ) (l : Limits) (plan : List ℕ) where
  pub accepts_legal : (k : ℕ) → (check_outcome bytes l plan ≡ accepted k) ↔ LegalPlan bytes l plan k
  accepts_legal k = (
    λ e. let (p, read, rest) = (then_accepted (read_pool bytes)).0 e in
        let (fit, checked) = (limits_first p).0 rest in
        record { pool = p; read = read; fitting_limits = each_first fit; legal = (means p read).0 checked },
    λ h. (then_accepted (read_pool bytes)).1 (h.pool, h.read, (limits_first h.pool).1 (also h.fitting_limits none, (means h.pool h.read).1 h.legal)),
  )
    where
      limits_first : (p : Pool) → (tested ((7, limits_fit l) ∷ []) 0 (check (graph_of p) l.cycle l.chain plan) ≡ accepted k)
          ↔ (Each Pass ((7, limits_fit l) ∷ []) × (check (graph_of p) l.cycle l.chain plan ≡ accepted k))
      limits_first p = accepted_by (check (graph_of p) l.cycle l.chain plan) ((7, limits_fit l) ∷ []) 0

      means : (p : Pool) → read_pool bytes ≡ accepted p → (check (graph_of p) l.cycle l.chain plan ≡ accepted k) ↔ LegalForm (graph_of p) l.cycle l.chain plan k
      means p read =
          let g = graph_of p in
          let fit = read_fit_records bytes read l.cycle l.chain in
          (accepted_legal g l.cycle l.chain (read_formed bytes read) plan k, legal_accepted g l.cycle l.chain fit plan k)

  pub refuses_others : ((n : ℕ) × (at : ℕ) × (check_outcome bytes l plan ≡ refused n at)) ↔ ((k : ℕ) → LegalPlan bytes l plan k → ⊥)
  refuses_others = (λ r k h. not_both (sym ((accepts_legal k).1 h) ∙ r.2), others)
    where
      others : ((k : ℕ) → LegalPlan bytes l plan k → ⊥) → (n : ℕ) × (at : ℕ) × (check_outcome bytes l plan ≡ refused n at)
      others never = go (check_outcome bytes l plan) refl
        where
          go : (o : Outcome ℕ) → check_outcome bytes l plan ≡ o → (n : ℕ) × (at : ℕ) × (check_outcome bytes l plan ≡ refused n at)
          go (accepted k) e = absurd (never k ((accepts_legal k).0 e))
          go (refused n at) e = (n, at, e)

pub plan_counts : {bytes plan : List ℕ} {l : Limits} {k : ℕ} (h : LegalPlan bytes l plan k)
    → (served (graph_of h.pool) (flat (lists_in plan)) ≡ k) × (counts (records_in plan) ≡ k)
plan_counts {bytes} {plan} {l} {k} h =
    let fit = read_fit_records bytes h.read l.cycle l.chain in
    (legal_listed (graph_of h.pool) l.cycle l.chain fit plan k h.legal, legal_counts (graph_of h.pool) l.cycle l.chain fit plan k h.legal)

-- ---- by which cause it refuses

records_in_turn : (g : Graph) (lc lp : ℕ) (met : List ℕ) (least i : ℕ) (rs : List (List ℕ))
    → check_from g lc lp met least i rs ≡ in_turn (plan_tests g lc lp met least rs) i (accepted (served g (met ++ flat (map vertices_of rs))))
unfolding check_from in_turn plan_tests flat
records_in_turn g lc lp met least i [] = ap (λ xs. accepted (served g xs)) (sym (append-nil met))
records_in_turn g lc lp met least i (r ∷ rs) =
    ap (λ o. tested (record_tests g lc lp (fresh met) least r) i o)
    (records_in_turn g lc lp (met ++ vertices_of r) (suc (head_of (vertices_of r))) (suc i) rs
    ∙ ap (λ xs. in_turn (plan_tests g lc lp (met ++ vertices_of r) (suc (head_of (vertices_of r))) rs) (suc i) (accepted (served g xs)))
    (append_assoc met (vertices_of r) (flat (map vertices_of rs))))

module _ (bytes : List ℕ) (l : Limits) (plan : List ℕ) where
  after_reading : (p : Pool) → tested ((7, limits_fit l) ∷ []) 0 (check (graph_of p) l.cycle l.chain plan)
      ≡ tested (whole_tests l plan) 0 (in_turn (records_tests p l plan) 0 (accepted (served (graph_of p) (flat (lists_in plan)))))
  unfolding check tested
  after_reading p = ap (λ o. tested (whole_tests l plan) 0 o) (records_in_turn (graph_of p) l.cycle l.chain [] 0 0 (records_in plan))

  pub check_refused_by : {n at : ℕ} → (check_outcome bytes l plan ≡ refused n at)
      ↔ ((read_pool bytes ≡ refused n at) ⊎ ((p : Pool) × (read_pool bytes ≡ accepted p) × FirstMet (whole_tests l plan) (records_tests p l plan) n at))
  check_refused_by = (
    λ e. ⊎_elim inl (λ h. inr (h.0, h.1, (met h.0).0 (sym (after_reading h.0) ∙ h.2))) ((then_refused (read_pool bytes)).0 e),
    λ h. (then_refused (read_pool bytes)).1 (⊎_elim inl (λ t. inr (t.0, t.1, after_reading t.0 ∙ (met t.0).1 t.2)) h),
  )
    where
      met : (p : Pool) {n at : ℕ} → (tested (whole_tests l plan) 0 (in_turn (records_tests p l plan) 0 (accepted (served (graph_of p) (flat (lists_in plan))))) ≡ refused n at)
          ↔ FirstMet (whole_tests l plan) (records_tests p l plan) n at
      met p = met_refused (served (graph_of p) (flat (lists_in plan))) (whole_tests l plan) (records_tests p l plan)

  pub check_accepted_by : {k : ℕ} → (check_outcome bytes l plan ≡ accepted k)
      ↔ ((p : Pool) × (read_pool bytes ≡ accepted p) × Each Pass (whole_tests l plan) × Each (Each Pass) (records_tests p l plan) × (served (graph_of p) (flat (lists_in plan)) ≡ k))
  check_accepted_by = (
    λ e. let (p, read, rest) = (then_accepted (read_pool bytes)).0 e in
        let (tests, records, count) = (met p).0 (sym (after_reading p) ∙ rest) in
        (p, read, tests, records, count),
    λ h. (then_accepted (read_pool bytes)).1 (h.0, h.1, after_reading h.0 ∙ (met h.0).1 (h.2, h.3, h.4)),
  )
    where
      met : (p : Pool) {k : ℕ} → (tested (whole_tests l plan) 0 (in_turn (records_tests p l plan) 0 (accepted (served (graph_of p) (flat (lists_in plan))))) ≡ accepted k)
          ↔ (Each Pass (whole_tests l plan) × Each (Each Pass) (records_tests p l plan) × (served (graph_of p) (flat (lists_in plan)) ≡ k))
      met p = met_accepted (served (graph_of p) (flat (lists_in plan))) (whole_tests l plan) (records_tests p l plan)
