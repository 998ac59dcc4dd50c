-- What holds of the records of a pool that pass their tests.
use mathlib.Core.Bool.{not}
use mathlib.Core.List.{List, [], ◌∷◌, ◌++◌, append-nil}
use mathlib.Core.Logic.{◌⊎◌}
use mathlib.Core.Path.{◌≡◌}
use Prim.Native.Nat.{ℕ, zero, suc, ◌≤◌, ◌<◌}
use native.Mathlib.Omega.{arith}
use lib.Dec.{T, eqb, leb, eqb→eq, leb→le}
use lib.ListN.{length, get_or, take}
use lib.Seq.{append_snoc}
use Rattle.kep.specs.Lists.{Each, none, also}
use Rattle.pool.specs.Causes.{Pass}
use Rattle.pool.specs.Refusals.{Outcome, accepted}
use Rattle.pool.specs.Value.{most_weeks_waited}
use Rattle.reading.specs.Records.{takes_nothing, none_of, field_tests, records_tested}
use Rattle.reading.specs.Fields.{tells_house, tells_member, class_of, grade_of, least_of, taken_of, weeks_of, machine_of}
use Rattle.kep.proofs.Tests.{and_iff, or_cases, implies_iff, differ_iff}
use Rattle.pool.proofs.Tested.{all_held}

-- a record behind those before it meets no cause
pub record Passes (before : List (List ℕ)) (r : List ℕ) : Type 0 where
  pub kind : T (tells_house r) ⊎ T (tells_member r)
  pub class : class_of r ≤ 31
  pub grades : (grade_of r ≤ 100) × (least_of r ≤ 100)
  pub house_takes_nothing : T (tells_house r) → (least_of r ≡ 0) × (taken_of r ≡ 0)
  pub in_turn : T (tells_house r) → T (none_of tells_member before)
  pub weeks : weeks_of r ≤ most_weeks_waited
  pub machine : 0 < machine_of r

passes : {before : List (List ℕ)} {r : List ℕ} → Each Pass (field_tests before r) → Passes before r
unfolding field_tests
passes {before} {r} (also k (also c (also g (also n (also t (also w none)))))) =
    let (high, least) = (and_iff (leb (grade_of r) 100) (leb (least_of r) 100)).0 g in
    let (weeks, machine) = (and_iff (leb (weeks_of r) most_weeks_waited) (not (eqb (machine_of r) 0))).0 w in
    record {
      kind = or_cases (tells_house r) (tells_member r) k;
      class = leb→le (class_of r) 31 c;
      grades = (leb→le (grade_of r) 100 high, leb→le (least_of r) 100 least);
      house_takes_nothing =
          λ h.
          let (no_least, none_taken) = (and_iff (eqb (least_of r) 0) (eqb (taken_of r) 0)).0 ((implies_iff (tells_house r) (takes_nothing r)).0 n h) in
          (eqb→eq (least_of r) 0 no_least, eqb→eq (taken_of r) 0 none_taken);
      in_turn = (implies_iff (tells_house r) (none_of tells_member before)).0 t;
      weeks = leb→le (weeks_of r) most_weeks_waited weeks;
      machine = let other = (differ_iff (machine_of r) 0).0 machine in omega arith;
    }

module _ {A : Type 0} {a : A} (o : Outcome A) where
  -- the first of them, and the rest behind it
  pub first_passed : (before : List (List ℕ)) (r : List ℕ) (rs : List (List ℕ)) → records_tested before (r ∷ rs) o ≡ accepted a
      → Passes before r × (records_tested (before ++ (r ∷ [])) rs o ≡ accepted a)
  unfolding records_tested
  first_passed before r rs e =
      let (hs, rest) = all_held (field_tests before r) (length before) (records_tested (before ++ (r ∷ [])) rs o) e in
      (passes hs, rest)

  -- each of them, behind all before it
  pub each_passed : (before rs : List (List ℕ)) → records_tested before rs o ≡ accepted a → (v : ℕ) → v < length rs → Passes (before ++ take v rs) (get_or rs v [])
  each_passed before [] e v l = absurd (omega arith)
  each_passed before (r ∷ rs) e zero l = rw (append-nil before) (first_passed before r rs e).0
  each_passed before (r ∷ rs) e (suc v) l =
      rw (← append_snoc before r (take v rs)) (each_passed (before ++ (r ∷ [])) rs (first_passed before r rs e).1 v (omega arith))
