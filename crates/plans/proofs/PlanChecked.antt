-- What the checker's yes means: plan bytes are accepted with a count exactly where they are the record form of a legal plan that
-- serves so many.
use mathlib.Core.List.{List, [], ◌∷◌, ◌++◌, map}
use mathlib.Core.Logic.{◌≢◌}
use mathlib.Core.Path.{◌≡◌, refl, sym, ◌∙◌, ap, ap₂}
use Prim.Native.Nat.{ℕ, ◌+◌, ◌*◌, ◌/◌, ◌%◌}
use native.Mathlib.Omega.{arith}
use lib.Dec.{eqb, eqb→eq}
use lib.ListN.{length}
use Rattle.kep.specs.Lists.{Each, none, also, distinct, total, flat}
use Rattle.kep.specs.Graph.{Graph, WellFormed}
use Rattle.kep.specs.Table.{member_worth, served}
use Rattle.kep.specs.Plan.{in_order, record_of, records_of, record_form, FitRecords}
use Rattle.pool.specs.Refusals.{Outcome, accepted, refused, tested}
use Rattle.plans.specs.Check.{vertices_of, records_in, lists_in, counts, check_from, check, LegalForm}
use Rattle.kep.proofs.Tests.{eq→eqb}
use Rattle.kep.proofs.Each.{each_first, each_map, each_any, each_mapped}
use Rattle.pool.proofs.Tested.{passes, fails, all_held}
use Rattle.kep.proofs.Worth.{total_append}
use Rattle.kep.proofs.ExchangeFacts.{Told, fits_few}
use Rattle.kep.proofs.Bytes.{record_length}
use Rattle.kep.proofs.InOrder.{in_order_total}
use Rattle.kep.proofs.Legal.{Legal, legal_of, legal_rises, in_order_told, in_order_distinct, told_in_order}
use Rattle.plans.proofs.Records.{record_count, records_joined}
use Rattle.kep.proofs.WholeRecords.{Whole, cut_whole, cut_joins, whole_length}
use Rattle.plans.proofs.CheckRecord.{exchange_back}
use Rattle.plans.proofs.CheckPlan.{Follows, follows_accepted, accepted_follows}

-- the record form is its records, joined
records_flat : (g : Graph) (p : List (List ℕ)) → records_of g p ≡ flat (map (record_of g) p)
unfolding records_of flat
records_flat g [] = refl
records_flat g (x ∷ p) = ap (λ bs. record_of g x ++ bs) (records_flat g p)

module _ (g : Graph) (lc lp : ℕ) where
  -- bytes of whole records are checked record by record; others are not accepted
  pub check_whole : (bytes : List ℕ) → length bytes % 16 ≡ 0 → check g lc lp bytes ≡ check_from g lc lp [] 0 0 (records_in bytes)
  unfolding check tested
  check_whole bytes h = passes 11 (eqb (length bytes % 16) 0) [] 0 _ (eq→eqb (length bytes % 16) 0 h)

  pub check_length : (bytes : List ℕ) → length bytes % 16 ≢ 0 → check g lc lp bytes ≡ refused 11 0
  unfolding check
  check_length bytes h = fails 11 (eqb (length bytes % 16) 0) [] 0 _ (λ t. h (eqb→eq (length bytes % 16) 0 t))

  check_multiple : (bytes : List ℕ) {k : ℕ} → check g lc lp bytes ≡ accepted k → length bytes % 16 ≡ 0
  unfolding check
  check_multiple bytes e = eqb→eq (length bytes % 16) 0 (each_first (all_held ((11, eqb (length bytes % 16) 0) ∷ []) 0 _ e).0)

  -- ---- what is accepted is the record form of a legal plan: of the lists that it tells

  pub accepted_legal : WellFormed g → (bytes : List ℕ) (k : ℕ) → check g lc lp bytes ≡ accepted k → LegalForm g lc lp bytes k
  unfolding distinct record_form
  accepted_legal wf bytes k e =
      let multiple = check_multiple bytes e in
      let whole : length bytes ≡ length bytes / 16 * 16 = omega arith in
      let p = lists_in bytes in
      let a = accepted_follows g lc lp wf [] 0 0 tt (cut_whole 16 (length bytes / 16) bytes whole) (sym (check_whole bytes multiple) ∙ e) in
      let f : Follows g lc lp [] 0 p = a.follows in (
        p,
        legal_of g lc lp p (each_map (λ x t. t.0) f.told) f.apart,
        ap (records_of g) (told_in_order g lc lp f.rises f.told)
            ∙ records_flat g p
            ∙ ap flat a.records
            ∙ cut_joins 16 (length bytes / 16) bytes whole,
        a.count,
      )

  -- ---- the record form of a legal plan, read and checked

  module _ (fit : FitRecords g lc lp) where
    -- exchanges are read back from their records
    lists_back : {q : List (List ℕ)} → Each (Told g lc lp) q → map vertices_of (map (record_of g) q) ≡ q
    lists_back none = refl
    lists_back (also t ts) = ap₂ (λ x xs. x ∷ xs) (exchange_back g lc lp fit t.0) (lists_back ts)

    -- and the bytes 15 add up to the members among their vertices
    counts_served : {q : List (List ℕ)} → Each (Told g lc lp) q → counts (map (record_of g) q) ≡ served g (flat q)
    unfolding counts flat total
    counts_served none = refl
    counts_served (also {x = x} {xs = q} t ts) =
        ap₂ (λ a b. a + b) (record_count g x (fits_few fit t.0)) (counts_served ts) ∙ sym (total_append (member_worth g) x (flat q))

    module _ (p : List (List ℕ)) (legal : Legal g lc lp p) where
      told : Each (Told g lc lp) (in_order p)
      told = in_order_told g lc lp p legal

      form_flat : record_form g p ≡ flat (map (record_of g) (in_order p))
      unfolding record_form
      form_flat = records_flat g (in_order p)

      form_whole : Whole 16 (map (record_of g) (in_order p))
      form_whole = each_mapped (record_of g) (λ x t. record_length g x (fits_few fit t.0)) told

      form_multiple : length (record_form g p) % 16 ≡ 0
      form_multiple = rw form_flat (omega (arith, whole_length 16 form_whole))

      -- its records are those of the plan's exchanges in order
      pub form_records : records_in (record_form g p) ≡ map (record_of g) (in_order p)
      form_records = ap records_in form_flat ∙ records_joined form_whole

      -- they tell these exchanges
      pub form_lists : lists_in (record_form g p) ≡ in_order p
      form_lists = ap (map vertices_of) form_records ∙ lists_back told

      -- their bytes 15 add up to the members that the plan serves
      form_counts : counts (records_in (record_form g p)) ≡ served g (flat p)
      form_counts = ap counts form_records ∙ counts_served told ∙ in_order_total (member_worth g) p

      -- and they are accepted with so many
      form_accepted : check g lc lp (record_form g p) ≡ accepted (served g (flat p))
      form_accepted =
          let f : Follows g lc lp [] 0 (in_order p) = record {
            told = told;
            rises = legal_rises g lc lp p legal;
            after = each_any (λ x. omega arith) (in_order p);
            apart = in_order_distinct g lc lp p legal;
          } in
          check_whole (record_form g p) form_multiple
          ∙ ap (check_from g lc lp [] 0 0) form_records
          ∙ follows_accepted g lc lp fit 0 (in_order p) f
          ∙ ap (λ k. accepted k) (in_order_total (member_worth g) p)

    -- the record form determines the plan in order
    pub form_determines : (p q : List (List ℕ)) → Legal g lc lp p → Legal g lc lp q → record_form g p ≡ record_form g q → in_order p ≡ in_order q
    form_determines p q h k e = sym (form_lists p h) ∙ ap lists_in e ∙ form_lists q k

    pub legal_accepted : (bytes : List ℕ) (k : ℕ) → LegalForm g lc lp bytes k → check g lc lp bytes ≡ accepted k
    legal_accepted bytes k h = ap (check g lc lp) (sym h.2) ∙ form_accepted h.0 h.1 ∙ ap (λ n. accepted n) h.3

    -- the members that a legal plan serves are those among the places its records list, and the sum of their bytes 15
    pub legal_listed : (bytes : List ℕ) (k : ℕ) → LegalForm g lc lp bytes k → served g (flat (lists_in bytes)) ≡ k
    legal_listed bytes k (p, legal, form, count) =
        ap (λ bs. served g (flat (lists_in bs))) (sym form)
        ∙ ap (λ q. served g (flat q)) (form_lists p legal)
        ∙ in_order_total (member_worth g) p
        ∙ count

    pub legal_counts : (bytes : List ℕ) (k : ℕ) → LegalForm g lc lp bytes k → counts (records_in bytes) ≡ k
    legal_counts bytes k (p, legal, form, count) = ap (λ bs. counts (records_in bs)) (sym form) ∙ form_counts p legal ∙ count

    -- ---- what is refused is the record form of no legal plan, and any such bytes are refused

    pub refused_none : (bytes : List ℕ) {cause at : ℕ} → check g lc lp bytes ≡ refused cause at → (k : ℕ) → LegalForm g lc lp bytes k → ⊥
    refused_none bytes e k h = let z : ◌≡◌ {A = ℕ} 0 1 = cc (legal_accepted bytes k h) in omega arith

  pub none_refused : WellFormed g → (bytes : List ℕ) → ((k : ℕ) → LegalForm g lc lp bytes k → ⊥)
      → (cause : ℕ) × (at : ℕ) × (check g lc lp bytes ≡ refused cause at)
  none_refused wf bytes n = go (check g lc lp bytes) refl
    where
      go : (v : Outcome ℕ) → check g lc lp bytes ≡ v → (cause : ℕ) × (at : ℕ) × (check g lc lp bytes ≡ refused cause at)
      go (accepted k) e = absurd (n k (accepted_legal wf bytes k e))
      go (refused cause at) e = (cause, at, e)
