-- From what reading and clearing answer to the text.
use mathlib.Core.Bool.{Bool, true, false}
use mathlib.Core.List.{List, [], ◌∷◌, ◌++◌}
use mathlib.Core.Path.{◌≡◌, refl, sym, ap, ap₂, ◌∙◌}
use mathlib.Core.Logic.{◌≢◌, ◌⊎◌, inl, inr, ⊎_elim}
use Prim.Native.Nat.{ℕ, zero, suc, ◌-◌, ◌*◌, ◌/◌, ◌^◌, ◌≤◌, ◌<◌}
use native.Mathlib.Omega.{arith}
use lib.Dec.{T, leb, le→leb, leb→le}
use lib.ListN.{length, drop, length-append, length-drop}
use lib.Pow.{pow_mono}
use lib.Seq.{take-append-le, drop-append-le}
use borrow.Author.Tests.{eq-eqb, ne_eqb, le-leb, lt-leb}
use Rattle.pool.specs.declared.value.Pool.{Pool}
use Rattle.pool.specs.declared.limits.Limits.{Limits}
use Rattle.pool.specs.Limits.{limits_fit}
use Rattle.kep.specs.Lists.{cut, Each, none, also, flat}
use Rattle.reading.specs.Records.{read_pool}
use Rattle.pool.specs.Refusals.{Outcome, accepted, refused, tested}
use Rattle.pool.specs.Value.{graph_of, pool_fits}
use Rattle.pool.proofs.Tested.{passes, all_pass, not_both}
use Rattle.pool.specs.Causes.{Pass}
use Rattle.pool.proofs.ValueLaws.{fits_size}
use Rattle.kep.specs.Table.{served}
use Rattle.tables.specs.Calls.{worth_in}
use Rattle.plans.specs.Check.{records_in}
use Rattle.clearing.specs.Clearing.{clear_tests, clearable_value}
use Rattle.clearing.specs.computed.Cleared.{clear_outcome, plan_of, plan_written, plan_cleared}
use Rattle.kep.specs.Plan.{record_form}
use Rattle.kep.proofs.Answer.{answer_legal}
use Rattle.kep.proofs.ExchangeFacts.{small_fits}
use Rattle.clearing.proofs.ChoosingCode.{form_length}
use Rattle.std.specs.Prelude.{Option, Some, None}
use Rattle.report.specs.Text.{served_line, refused_line, record_lines, plan_text, outcome_text, limits_in, printed, whole_text, told_of, left_of}
use Rattle.report.specs.inner.Writing.{cleared_text}

-- ---- a pool file and limits of any length

module _ (pool limits : List ℕ) where
  pub pool_refused : {n at : ℕ} → refused n at ≡ read_pool pool → refused_line n at ≡ whole_text pool limits
  unfolding whole_text printed outcome_text
  pool_refused e = rw (← e) refl

  module _ {p : Pool} (read : accepted p ≡ read_pool pool) where
    pub limits_refused : length limits ≢ 2 → refused_line 7 0 ≡ whole_text pool limits
    unfolding whole_text printed outcome_text tested
    limits_refused n = rw (← read, ne_eqb (length limits) 2 n) refl

    pub limits_two : length limits ≡ 2 → cleared_text p (limits_in limits) ≡ whole_text pool limits
    unfolding whole_text printed cleared_text
    limits_two e = rw (← read, eq-eqb (length limits) 2 e) refl

-- ---- clearing with room for the tables and plans of all pools refuses only limits

abbrev pub fitted : Pool → Limits → Outcome Pool
fitted p l = tested ((7, limits_fit l) ∷ []) 0 (accepted p)

pub only_limits : (p : Pool) (l : Limits) (exchanges best plan : List ℕ) → T (pool_fits p) → length exchanges ≡ 16384 → length best ≡ 16384 → length plan ≡ 224
    → clearable_value p l exchanges best plan ≡ fitted p l
unfolding clearable_value tested
only_limits p l exchanges best plan fits x b w =
    let small = fits_size p fits in
    let entries : 2 ^ p.size ≤ 2 ^ 14 = pow_mono small in
    let passed : Each Pass ((8, leb (2 ^ p.size) (length exchanges)) ∷ (9, leb (2 ^ p.size) (length best)) ∷ (10, leb (16 * p.size) (length plan)) ∷ []) =
    also (le→leb (2 ^ p.size) (length exchanges) (omega arith))
    (also (le→leb (2 ^ p.size) (length best) (omega arith)) (also (le→leb (16 * p.size) (length plan) (omega arith)) none)) in
    passes 6 (pool_fits p) (drop 1 (clear_tests p l exchanges best plan)) 0 (accepted p) fits ∙ ap (tested ((7, limits_fit l) ∷ []) 0) (all_pass 0 (accepted p) passed)

fit_or_not : (p : Pool) (l : Limits) → (fitted p l ≡ accepted p) ⊎ (fitted p l ≡ refused 7 0)
unfolding tested
fit_or_not p l = go (limits_fit l)
  where
    go : (b : Bool) → (tested ((7, b) ∷ []) 0 (accepted p) ≡ accepted p) ⊎ (tested ((7, b) ∷ []) 0 (accepted p) ≡ refused 7 0)
    go true = inl refl
    go false = inr refl

-- ---- what clearing told

same_pair : {a b c d : ℕ} → ◌≡◌ {A = Outcome (ℕ × ℕ)} (accepted (a, b)) (accepted (c, d)) → (a ≡ c) × (b ≡ d)
same_pair {a} {b} {c} {d} e = let both : ◌≡◌ {A = ℕ × ℕ} (a, b) (c, d) = cc in (ap (λ x. x.0) both, ap (λ x. x.1) both)

same_refusal : {n m at i : ℕ} → ◌≡◌ {A = Outcome (ℕ × ℕ)} (refused n at) (refused m i) → (n ≡ m) × (at ≡ i)
same_refusal e = (cc, cc)

-- a plan
pub record PlanTold (p : Pool) (l : Limits) (count records : ℕ) (plan₀ plan : List ℕ) : Type 0 where
  pub count_is : count ≡ served (graph_of p) (flat (plan_of p l))
  pub records_are : records ≡ length (plan_of p l)
  pub plan_is : plan ≡ plan_written p l plan₀
  pub text_is : plan_text p l ≡ cleared_text p l

module _ (p : Pool) (l : Limits) {o : Outcome Pool} (only : o ≡ fitted p l) where
  pub told_plan : {count records : ℕ} (plan₀ : List ℕ) {plan : List ℕ} → accepted (count, records) ≡ clear_outcome l o → plan ≡ plan_cleared l o plan₀
      → PlanTold p l count records plan₀ plan
  unfolding cleared_text outcome_text
  told_plan {count} {records} plan₀ {plan} told left = ⊎_elim fit (λ bad. absurd (not_both (told ∙ ap (clear_outcome l) (only ∙ bad)))) (fit_or_not p l)
    where
      fit : fitted p l ≡ accepted p → PlanTold p l count records plan₀ plan
      fit ok =
          let (c, r) = same_pair (told ∙ ap (clear_outcome l) (only ∙ ok)) in
          record { count_is = c; records_are = r; plan_is = left ∙ ap (λ q. plan_cleared l q plan₀) (only ∙ ok); text_is = sym (ap (λ q. outcome_text q l) ok) }

  -- or that the limits are refused
  pub told_refused : {n at : ℕ} → refused n at ≡ clear_outcome l o → (at ≡ 0) × (refused_line n at ≡ cleared_text p l)
  unfolding cleared_text outcome_text
  told_refused {n} {at} told = ⊎_elim (λ ok. absurd (not_both (sym (told ∙ ap (clear_outcome l) (only ∙ ok))))) unfit (fit_or_not p l)
    where
      unfit : fitted p l ≡ refused 7 0 → (at ≡ 0) × (refused_line n at ≡ outcome_text (fitted p l) l)
      unfit bad = let (a, b) = same_refusal (told ∙ ap (clear_outcome l) (only ∙ bad)) in (b, ap₂ refused_line a b ∙ sym (ap (λ q. outcome_text q l) bad))

-- ---- the records of the plan stand at the front of the buffer

cut_front : (k : ℕ) (xs ys : List ℕ) → 16 * k ≤ length xs → cut 16 k (xs ++ ys) ≡ cut 16 k xs
unfolding cut
cut_front zero xs ys h = refl
cut_front (suc k) xs ys h =
    let more : 16 ≤ length xs = omega arith in
    ap₂ (λ r rs. r ∷ rs) (take-append-le 16 xs ys more)
    (ap (cut 16 k) (drop-append-le 16 xs ys more) ∙ cut_front k (drop 16 xs) ys (omega (arith, length-drop 16 xs)))

module _ (p : Pool) (l : Limits) (fits : T (pool_fits p)) {count records : ℕ} {plan₀ plan : List ℕ} (told : PlanTold p l count records plan₀ plan) where
  form_long : length (record_form (graph_of p) (plan_of p l)) ≡ 16 * records
  form_long =
      form_length (graph_of p) l.cycle l.chain (small_fits (fits_size p fits)) (plan_of p l) (answer_legal (graph_of p) l.cycle l.chain (worth_in p))
      ∙ ap (λ k. 16 * k) (sym told.records_are)

  pub records_few : length plan ≡ 224 → records ≤ 14
  records_few e =
      let f = record_form (graph_of p) (plan_of p l) in
      omega (arith, form_long, ap length told.plan_is, length-append f (drop (length f) plan₀))

  records_are_form : cut 16 records plan ≡ records_in (record_form (graph_of p) (plan_of p l))
  records_are_form =
      let f = record_form (graph_of p) (plan_of p l) in
      let many : records ≡ length f / 16 = omega (arith, form_long) in
      ap (cut 16 records) told.plan_is ∙ cut_front records f (drop (length f) plan₀) (omega (arith, form_long)) ∙ ap (λ k. cut 16 k f) many

  pub plan_text_lem : served_line count (p.size - p.altruists) ++ record_lines (cut 16 records plan) ≡ cleared_text p l
  unfolding plan_text
  plan_text_lem = ap₂ (λ s rs. served_line s (p.size - p.altruists) ++ record_lines rs) told.count_is records_are_form ∙ told.text_is

-- ---- the text in the caller's buffer

-- what the call promises of a text
abbrev pub Reports : List ℕ → List ℕ → Option ℕ → List ℕ → Type 0
Reports text out told left = (told ≡ told_of text (length out)) × ((left ≡ left_of text out) × (length text ≤ 1024))

module _ (text out : List ℕ) (short : length text ≤ 1024) where
  pub no_room : length out < length text → Reports text out None out
  no_room h = (rw (lt-leb (length text) (length out) h, told_of), (rw (lt-leb (length text) (length out) h, left_of), short))

  pub room : {word new : List ℕ} → length text ≤ length out → word ≡ text → new ≡ word ++ drop (length word) out → Reports text out (Some (length word)) new
  room h e f = (
    ap (λ w. Some (length w)) e ∙ rw (le-leb (length text) (length out) h, told_of),
    (f ∙ ap (λ w. w ++ drop (length w) out) e ∙ rw (le-leb (length text) (length out) h, left_of), short),
  )

-- what is told to stand there has room there
pub told_inside : (text : List ℕ) (room : ℕ) {end : ℕ} → Some end ≡ told_of text room → end ≤ room
told_inside text room {end} = go (leb (length text) room) (λ t. leb→le (length text) room t)
  where
    go : (b : Bool) → (T b → length text ≤ room) → Some end ≡ elim b as (λ _. Option ℕ) [ true ↦ Some (length text) | false ↦ None ] → end ≤ room
    go true h e = let same : end ≡ length text = cc in omega (arith, h tt)
    go false h e = let never : ◌≡◌ {A = ℕ} 0 1 = cc in absurd (omega arith)
