-- The text of the program, the call that writes it, and its numbers.
use mathlib.Core.Bool.{Bool, true, false, ◌&&◌}
use mathlib.Core.List.{List, [], ◌∷◌, ◌++◌, map}
use mathlib.Core.Logic.{◌↔◌, ◌⊎◌, inl, inr, ⊎_elim}
use mathlib.Core.Path.{◌≡◌, refl, ap, ap₂, ◌∙◌}
use Prim.Native.Nat.{ℕ, zero, suc, ◌+◌, ◌-◌, ◌*◌, ◌/◌, ◌%◌, ◌≤◌, ◌<◌}
use native.Mathlib.Decide.{dec_le}
use native.Mathlib.Omega.{arith}
use lib.Dec.{T, eqb, leb, eqb→eq}
use lib.ListN.{length, take, drop}
use lib.Seq.{take-append_seam, drop-append_seam}
use borrow.Author.Tests.{leb-false}
use Rattle.pool.specs.declared.value.Pool.{Pool}
use Rattle.kep.specs.Lists.{Each, none, also, flat}
use Rattle.kep.specs.Graph.{Graph}
use Rattle.kep.specs.Exchange.{head_of}
use Rattle.kep.specs.Table.{member_worth, served}
use Rattle.kep.specs.Plan.{is_legal, in_order, record_of, record_form, FitRecords}
use Rattle.pool.specs.Refusals.{accepted, refused}
use Rattle.pool.specs.Limits.{limits_fit}
use Rattle.reading.specs.Records.{read_pool}
use Rattle.pool.specs.Value.{graph_of, weeks_in}
use Rattle.tables.specs.Calls.{worth_in}
use Rattle.plans.specs.Check.{records_in}
use Rattle.clearing.specs.computed.Cleared.{plan_of}
use Rattle.std.specs.Prelude.{Option, Some, None}
use Rattle.report.specs.Text.{kind_word, line_feed, decimal, served_line, places_text, record_line, record_lines, plan_text, outcome_text, limits_in, printed, whole_text, counted, text_of, text_outcome, text_left}
use Rattle.claims.specs.Printed.{limits_tests, exchange_lines, PrintsPlan, number, BaseTen}
use Rattle.kep.proofs.Tests.{and_iff, eq→eqb}
use Rattle.kep.proofs.Each.{each_append, each_first}
use Rattle.kep.proofs.ExchangeFacts.{Told, fits_few}
use Rattle.kep.proofs.InOrder.{in_order_total}
use Rattle.kep.proofs.Legal.{in_order_told}
use Rattle.kep.proofs.Answer.{answer_legal, in_order_form}
use Rattle.kep.proofs.Canonical.{plan_legal, legal_plan, plan_in_order}
use Rattle.pool.specs.Causes.{FirstFails}
use Rattle.pool.proofs.Causes.{alone_refused, alone_accepted, then_refused, then_accepted}
use Rattle.pool.proofs.ValueLaws.{few_weeks}
use Rattle.reading.proofs.ReadPool.{read_fits}
use Rattle.reading.proofs.Houses.{read_members_count}
use Rattle.plans.proofs.Records.{record_kind_lem}
use Rattle.plans.proofs.CheckRecord.{exchange_back}
use Rattle.plans.proofs.PlanChecked.{form_records}
use Rattle.report.proofs.Decimal.{decimal_one, decimal_more}
use Rattle.claims.proofs.Problem.{answer_is_optimum}
use Rattle.claims.proofs.CheckerLaws.{read_fit_records}

-- ---- what is accepted

module _ (pool limits : List ℕ) where
  pub printed_refused_by : {n at : ℕ} → (printed pool limits ≡ refused n at)
      ↔ ((read_pool pool ≡ refused n at) ⊎ ((p : Pool) × (read_pool pool ≡ accepted p) × FirstFails (limits_tests limits) n × (at ≡ 0)))
  unfolding printed
  printed_refused_by = (
    λ e. ⊎_elim inl (λ h. let f = (alone_refused h.0 (limits_tests limits) 0).0 h.2 in inr (h.0, h.1, f.0, f.1)) ((then_refused (read_pool pool)).0 e),
    λ h. (then_refused (read_pool pool)).1 (⊎_elim inl (λ t. inr (t.0, t.1, (alone_refused t.0 (limits_tests limits) 0).1 (t.2, t.3))) h),
  )

  pub printed_accepted_by : {p : Pool} → (printed pool limits ≡ accepted p) ↔ ((read_pool pool ≡ accepted p) × (length limits ≡ 2) × T (limits_fit (limits_in limits)))
  unfolding printed
  printed_accepted_by {p} = (to, λ h. (then_accepted (read_pool pool)).1 (p, h.0, (alone_accepted p (limits_tests limits) 0).1 (also (both.1 (eq→eqb (length limits) 2 h.1, h.2)) none, refl)))
    where
      both : T (eqb (length limits) 2 && limits_fit (limits_in limits)) ↔ (T (eqb (length limits) 2) × T (limits_fit (limits_in limits)))
      both = and_iff (eqb (length limits) 2) (limits_fit (limits_in limits))

      to : printed pool limits ≡ accepted p → (read_pool pool ≡ accepted p) × (length limits ≡ 2) × T (limits_fit (limits_in limits))
      to e =
          let (q, read, rest) = (then_accepted (read_pool pool)).0 e in
          let (fit, same) = (alone_accepted q (limits_tests limits) 0).0 rest in
          let (two, within) = both.0 (each_first fit) in
          (read ∙ ap (λ x. accepted x) same, eqb→eq (length limits) 2 two, within)

-- ---- a plan

-- the lines of records are those of the exchanges that they tell
module _ (g : Graph) (lc lp : ℕ) (fit : FitRecords g lc lp) where
  told_lines : {p : List (List ℕ)} → Each (Told g lc lp) p → record_lines (map (record_of g) p) ≡ exchange_lines g p
  unfolding record_lines record_line exchange_lines
  told_lines none = refl
  told_lines (also {x = x} {xs = p} t ts) =
      ap₂ (λ a b. a ++ b)
      (ap₂ (λ kind places. kind_word kind ++ places_text places ++ line_feed) (record_kind_lem g x (fits_few fit t.0)) (exchange_back g lc lp fit t.0))
      (told_lines ts)

module _ (pool limits : List ℕ) where
  pub plan_printed : {p : Pool} → printed (counted pool) limits ≡ accepted p → PrintsPlan pool limits p
  unfolding whole_text outcome_text plan_text
  plan_printed {p} e =
      let g = graph_of p in
      let lc = (limits_in limits).cycle in
      let lp = (limits_in limits).chain in
      let q = plan_of p (limits_in limits) in
      let legal = answer_legal g lc lp (worth_in p) in
      let ordered = legal_plan g lc lp q legal in
      let same : record_form g (in_order q) ≡ record_form g q = in_order_form g lc lp q legal in
      record {
        read = known.0;
        two = known.1;
        fitting_limits = known.2;
        plan = in_order q;
        count = served g (flat q);
        legal = plan_legal g lc lp ordered;
        stands_in_order = plan_in_order g lc lp ordered;
        serves = in_order_total (member_worth g) q;
        optimum = rw same (answer_is_optimum g lc lp (weeks_in p) (few_weeks p (read_fits (counted pool) known.0)));
        text = ap (λ o. outcome_text o (limits_in limits)) e ∙ ap₂ (λ m ls. served_line (served g (flat q)) m ++ ls) (read_members_count (counted pool) known.0) (lines q legal);
      }
    where
      known : (read_pool (counted pool) ≡ accepted p) × (length limits ≡ 2) × T (limits_fit (limits_in limits))
      known = (printed_accepted_by (counted pool) limits).0 e

      lines : (q : List (List ℕ)) → T (is_legal (graph_of p) (limits_in limits).cycle (limits_in limits).chain q)
          → record_lines (records_in (record_form (graph_of p) q)) ≡ exchange_lines (graph_of p) (in_order q)
      lines q legal =
          let fit = read_fit_records (counted pool) known.0 (limits_in limits).cycle (limits_in limits).chain in
          ap record_lines (form_records (graph_of p) (limits_in limits).cycle (limits_in limits).chain fit q legal)
          ∙ told_lines (graph_of p) (limits_in limits).cycle (limits_in limits).chain fit (in_order_told (graph_of p) (limits_in limits).cycle (limits_in limits).chain q legal)

-- ---- the call `report`

module _ (pool limits out : List ℕ) where
  pub text_written : {n : ℕ} → text_outcome pool limits (length out) ≡ Some n
      → (n ≡ length (text_of pool limits)) × (take n (text_left pool limits out) ≡ text_of pool limits) × (drop n (text_left pool limits out) ≡ drop n out)
  text_written {n} = go (leb (length text) (length out))
    where
      text : List ℕ
      text = text_of pool limits

      go : (b : Bool) → elim b as (λ _. Option ℕ) [ true ↦ Some (length text) | false ↦ None ] ≡ Some n
          → (n ≡ length text) × (take n (elim b as (λ _. List ℕ) [ true ↦ text ++ drop (length text) out | false ↦ out ]) ≡ text)
          × (drop n (elim b as (λ _. List ℕ) [ true ↦ text ++ drop (length text) out | false ↦ out ]) ≡ drop n out)
      go true e =
          let same : n ≡ length text = cc in
          (same, rw same (take-append_seam text (drop (length text) out)), rw same (drop-append_seam text (drop (length text) out)))
      go false e = let never : ◌≡◌ {A = ℕ} 0 1 = cc in absurd (omega arith)

  pub text_short : text_outcome pool limits (length out) ≡ None → (length out < length (text_of pool limits)) × (text_left pool limits out ≡ out)
  text_short = go (leb (length (text_of pool limits)) (length out)) (leb-false (length (text_of pool limits)) (length out))
    where
      go : (b : Bool) → (b ≡ false → length out < length (text_of pool limits))
          → elim b as (λ _. Option ℕ) [ true ↦ Some (length (text_of pool limits)) | false ↦ None ] ≡ None
          → (length out < length (text_of pool limits)) × (elim b as (λ _. List ℕ) [ true ↦ text_of pool limits ++ drop (length (text_of pool limits)) out | false ↦ out ] ≡ out)
      go true short e = let never : ◌≡◌ {A = ℕ} 0 1 = cc in absurd (omega arith)
      go false short e = (short refl, refl)

-- ---- numbers

number_more : (high : ℕ) (ds es : List ℕ) → number high (ds ++ es) ≡ number (number high ds) es
unfolding number
number_more high [] es = refl
number_more high (d ∷ ds) es = number_more (10 * high + (d - 48)) ds es

head_stays : (ds es : List ℕ) → 49 ≤ head_of ds → head_of (ds ++ es) ≡ head_of ds
unfolding head_of
head_stays [] es h = absurd (omega arith)
head_stays (d ∷ ds) es h = refl

one_digit : (n : ℕ) → n < 10 → BaseTen n ((48 + n) ∷ [])
unfolding number head_of
one_digit n h = record {
  value = omega arith;
  are_digits = also {x = 48 + n} (omega arith, omega arith) none;
  no_zero = λ some. omega arith;
  zero_alone = λ z. ap (λ k. (48 + k) ∷ []) z;
}

digit_more : (n : ℕ) {ds : List ℕ} → 10 ≤ n → BaseTen (n / 10) ds → BaseTen n (ds ++ ((48 + n % 10) ∷ []))
unfolding number
digit_more n {ds} h tenth =
    let some : 1 ≤ n / 10 = omega arith in
    let last : number (number 0 ds) ((48 + n % 10) ∷ []) ≡ n = omega (arith, tenth.value) in
    record {
      value = number_more 0 ds ((48 + n % 10) ∷ []) ∙ last;
      are_digits = each_append tenth.are_digits (also {x = 48 + n % 10} (omega arith, omega arith) none);
      no_zero = λ _. rw (head_stays ds ((48 + n % 10) ∷ []) (tenth.no_zero some)) (tenth.no_zero some);
      zero_alone = λ z. absurd (omega arith);
    }

pub decimal_base_ten : (n : ℕ) → BaseTen n (decimal n)
decimal_base_ten n = below (suc n) n (omega arith)
  where
    below : (k n : ℕ) → n < k → BaseTen n (decimal n)
    below zero n l = absurd (omega arith)
    below (suc k) n l =
        elim (dec_le 10 n) [
          | yes big ↦ rw (decimal_more n big) (digit_more n big (below k (n / 10) (omega arith)))
          | no small ↦ rw (decimal_one n (omega arith)) (one_digit n (omega arith))
        ]
