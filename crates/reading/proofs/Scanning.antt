-- The loop that tests the records of a pool one by one and counts the houses.
use mathlib.Core.Bool.{Bool, true, false, not, ◌&&◌, ◌||◌, and-true, and-false}
use mathlib.Core.List.{List, [], ◌∷◌, ◌++◌}
use mathlib.Core.Logic.{⊎_elim}
use mathlib.Core.Path.{◌≡◌, refl, sym, ap, ap₂, ◌∙◌}
use Prim.Native.Nat.{ℕ, suc, ◌+◌, ◌≤◌, ◌<◌}
use native.Mathlib.Numerals.{add-one}
use native.Mathlib.Omega.{arith}
use lib.ListN.{length, get_or, take, drop, drop_of_length-le}
use lib.Seq.{take-suc, drop-cons, take_all, length-take-le}
use borrow.Author.Tests.{eqb-true}
use Rattle.std.specs.Prelude.{Result}
use Rattle.pool.specs.declared.refusal.Cause.{Cause}
use Rattle.reading.specs.declared.kind.Kind.{Kind}
use Rattle.kep.specs.Lists.{keep}
use Rattle.pool.specs.Refusals.{Outcome, accepted, refused, tested}
use Rattle.reading.specs.Records.{none_of, field_tests, records_tested}
use Rattle.reading.specs.Fields.{tells_house, tells_member}
use Rattle.reading.specs.inner.Reading.{record_outcome}
use Rattle.kep.proofs.Tests.{or_cases, is_true, from_false}
use Rattle.kep.proofs.Each.{keep_yes, keep_no, keep_more}
use Rattle.pool.proofs.Tested.{with_rest, held}
use Rattle.reading.proofs.RecordLaws.{here, other_kind, none_more}

-- how many houses
abbrev pub houses : List (List ℕ) → ℕ
houses rs = length (keep tells_house rs)

module _ (rs : List (List ℕ)) where
  -- what the scan comes to
  abbrev pub whole : Outcome ℕ
  whole = records_tested [] rs (accepted (houses rs))

  -- records 0 to i - 1 met no cause, and so many of them are houses'; the test of the rest is the test of the whole
  pub record Scanning (only_houses : Bool) (count i : ℕ) : Type 0 where
    pub few : count ≤ i
    pub counts : count ≡ houses (take i rs)
    pub members : only_houses ≡ none_of tells_member (take i rs)
    pub left : records_tested (take i rs) (drop i rs) (accepted (houses rs)) ≡ whole

  -- by whatever name code has the numbers
  pub scan_same : {a b : Bool} {m n i : ℕ} → m ≡ n → a ≡ b → Scanning b n i → Scanning a m i
  scan_same p q s = rw (p, q) s

  pub scan_start : Scanning true 0 0
  unfolding keep
  scan_start = record { few = omega arith; counts = refl; members = refl; left = refl }

  pub scan_end : {only_houses : Bool} {count i : ℕ} → length rs ≤ i → Scanning only_houses count i → accepted count ≡ whole
  unfolding records_tested
  scan_end {only_houses} {count} {i} l s =
      ap (λ k. accepted k) (s.counts ∙ ap houses (take_all i rs l))
      ∙ sym (ap (λ left. records_tested (take i rs) left (accepted (houses rs))) (drop_of_length-le rs l))
      ∙ s.left

  module _ {only_houses : Bool} {count i : ℕ} (h : i < length rs) (s : Scanning only_houses count i) where
    abbrev before : List (List ℕ)
    before = take i rs

    abbrev r : List ℕ
    r = get_or rs i []

    more : take (suc i) rs ≡ before ++ (r ∷ [])
    more = take-suc rs i [] h

    -- as code learns the outcome of record i
    pub read_here : {read : Result Kind Cause} (known : Result Kind Cause) → read ≡ known
        → ((b : List (List ℕ)) → only_houses ≡ none_of tells_member b → record_outcome read (length b) ≡ here b r) → record_outcome known (length before) ≡ here before r
    read_here known q f = sym (ap (λ x. record_outcome x (length before)) q) ∙ f before s.members

    later : Outcome ℕ
    later = records_tested (before ++ (r ∷ [])) (drop (suc i) rs) (accepted (houses rs))

    first : tested (field_tests before r) (length before) later ≡ whole
    unfolding records_tested later
    first =
        sym (ap (λ left. records_tested before left (accepted (houses rs))) (drop-cons rs i [] h))
        ∙ s.left

    -- record i meets a cause
    pub scan_stop : {n : ℕ} → refused n (length before) ≡ here before r → refused n i ≡ whole
    scan_stop {n} e =
        ap (λ at. refused n at) (sym (length-take-le i rs (omega arith)))
        ∙ sym (with_rest (tells_member r) (field_tests before r) (length before) (sym e) later)
        ∙ first

    -- it meets none
    module _ {b : Bool} (e : accepted b ≡ here before r) where
      goes : later ≡ whole
      goes = sym (with_rest (tells_member r) (field_tests before r) (length before) (sym e) later) ∙ first

      kind : tells_member r ≡ b
      kind =
          let same : accepted (tells_member r) ≡ accepted b =
          sym (with_rest (tells_member r) (field_tests before r) (length before) (sym e) (accepted (tells_member r))) ∙ sym e in
          cc

      next : {count' : ℕ} → count' ≤ suc i → count' ≡ houses (r ∷ []) + houses before → Scanning (only_houses && not b) count' (i + 1)
      unfolding later
      next few counts =
          rw (add-one i)
          (record {
            few = few;
            counts = counts ∙ sym (ap houses more ∙ keep_more tells_house r before);
            members =
                ap₂ (λ x y. x && not y) s.members (sym kind)
                ∙ sym (ap (λ rs. none_of tells_member rs) more ∙ none_more tells_member r before);
            left = ap (λ b'. records_tested b' (drop (suc i) rs) (accepted (houses rs))) more ∙ goes;
          })

    -- it is a member's
    pub scan_member : accepted true ≡ here before r → Scanning false count (i + 1)
    unfolding keep
    scan_member e =
        let house = ap length (keep_no tells_house r [] (other_kind r (eqb-true _ _ (kind e)))) in
        scan_same refl (sym (and-false only_houses)) (next e (omega (arith, s.few)) (omega (arith, house, s.counts)))

    -- it is a house's
    pub scan_house : accepted false ≡ here before r → Scanning only_houses (count + 1) (i + 1)
    unfolding keep field_tests
    scan_house e =
        let known = held 3 (tells_house r || tells_member r) _ (length before) (tells_member r) (sym e) in
        let is_house = is_true _ (⊎_elim (λ t. t) (λ t. absurd (from_false (kind e) t)) (or_cases (tells_house r) (tells_member r) known)) in
        let house = ap length (keep_yes tells_house r [] is_house) in
        scan_same refl (sym (and-true only_houses)) (next e (omega (arith, s.few)) (omega (arith, house, s.counts)))
