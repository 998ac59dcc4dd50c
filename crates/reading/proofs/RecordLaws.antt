-- One record more: its kind, and the outcome of its tests, however code finds them.
use mathlib.Core.Bool.{Bool, true, false, not, ◌&&◌, ◌||◌, and-true, and-false}
use mathlib.Core.List.{List, [], ◌∷◌, ◌++◌}
use mathlib.Core.Path.{◌≡◌, refl, sym, ap, ◌∙◌}
use Prim.Native.Nat.{ℕ, ◌+◌}
use native.Mathlib.Omega.{arith}
use lib.Dec.{T, eqb}
use lib.ListN.{length}
use borrow.Author.Tests.{ne_eqb}
use Rattle.kep.specs.Lists.{keep}
use Rattle.pool.specs.Refusals.{Outcome, accepted, tested}
use Rattle.reading.specs.Records.{class_fits, grades_fit, takes_nothing, weeks_and_machine_fit, none_of, field_tests}
use Rattle.reading.specs.Fields.{record_kind, tells_house, tells_member}
use Rattle.kep.proofs.Each.{keep_yes, keep_no, keep_more}
use Rattle.pool.proofs.Tested.{passes}

-- a member's record is no house's
pub other_kind : (r : List ℕ) → record_kind r ≡ 77 → tells_house r ≡ false
other_kind r e = ne_eqb (record_kind r) 72 (λ f. omega arith)

-- ---- one record more

module _ (p : List ℕ → Bool) (r : List ℕ) where
  pub none_more : (rs : List (List ℕ)) → none_of p (rs ++ (r ∷ [])) ≡ (none_of p rs && not (p r))
  unfolding keep
  none_more rs = ap (λ k. eqb k 0) (keep_more p r rs) ∙ go (p r) refl (length (keep p rs))
    where
      go : (b : Bool) → p r ≡ b → (k : ℕ) → eqb (length (keep p (r ∷ [])) + k) 0 ≡ (eqb k 0 && not b)
      go true e k = rw (keep_yes p r [] e) (ne_eqb (1 + k) 0 (λ f. omega arith) ∙ sym (and-false (eqb k 0)))
      go false e k = rw (keep_no p r [] e) (let zero : 0 + k ≡ k = omega arith in ap (λ j. eqb j 0) zero ∙ sym (and-true (eqb k 0)))

-- the outcome of a record alone, behind the records before it
abbrev pub here : List (List ℕ) → List ℕ → Outcome Bool
here before r = tested (field_tests before r) (length before) (accepted (tells_member r))

-- what code that decided the kind knows of a record
pub record KindIs (r : List ℕ) (house : Bool) : Type 0 where
  pub is_house : house ≡ tells_house r
  pub is_member : not house ≡ tells_member r

module _ (before : List (List ℕ)) (r : List ℕ) where
  -- how a record's outcome follows from what code found of its tests
  pub tests_found : {house grades nothing first weeks : Bool} {o : Outcome Bool} → KindIs r house → grades ≡ grades_fit r → nothing ≡ takes_nothing r
      → first ≡ none_of tells_member before → weeks ≡ weeks_and_machine_fit r
      → o ≡ tested ((4, class_fits r) ∷ (19, grades) ∷ (20, not house || nothing) ∷ (5, not house || first) ∷ (18, weeks) ∷ []) (length before) (accepted (not house))
      → o ≡ here before r
  unfolding field_tests
  tests_found {house} kind g n f w e =
      e ∙ rw (g, n, f, w, ← kind.is_house, ← kind.is_member) (sym (passes 3 (house || not house) _ (length before) (accepted (not house)) (one house)))
    where
      one : (b : Bool) → T (b || not b)
      one true = tt
      one false = tt
