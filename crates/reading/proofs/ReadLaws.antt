-- Reading pool bytes: what follows the records follows the tests of them, and what an accepted pool is.
use mathlib.Core.List.{List, [], ◌∷◌, ◌++◌}
use mathlib.Core.Path.{◌≡◌, refl, sym, ap, ◌∙◌}
use Prim.Native.Nat.{ℕ, ◌/◌, ◌%◌, ◌≤◌}
use lib.Dec.{le→leb}
use lib.ListN.{length}
use Rattle.kep.specs.Lists.{none, also}
use Rattle.pool.specs.Refusals.{Outcome, accepted, tested, and_then}
use Rattle.reading.specs.Fields.{record_width, most_records, pool_records}
use Rattle.reading.specs.Records.{field_tests, records_tested, read_pool}
use Rattle.reading.specs.computed.Pool.{takers_of, weeks_at, for_places, pool_of}
use Rattle.kep.proofs.Tests.{eq→eqb}
use Rattle.pool.proofs.Tested.{tested_then, all_pass}
use Rattle.reading.proofs.Scanning.{houses}

-- what follows the rest follows the records
records_then : {A B : Type 0} (before rs : List (List ℕ)) (o : Outcome A) (f : A → Outcome B)
    → records_tested before rs (and_then o f) ≡ and_then (records_tested before rs o) f
unfolding records_tested
records_then before [] o f = refl
records_then before (r ∷ rs) o f =
    ap (λ x. tested (field_tests before r) (length before) x) (records_then (before ++ (r ∷ [])) rs o f)
    ∙ tested_then (field_tests before r) (length before) (records_tested (before ++ (r ∷ [])) rs o) f

-- what was accepted is what was to be
pub records_accepted : {A : Type 0} {a b : A} (before rs : List (List ℕ)) → records_tested before rs (accepted a) ≡ accepted b → b ≡ a
records_accepted {A} {a} {b} before rs e =
    let same : accepted b ≡ accepted a = sym e ∙ records_then before rs (accepted a) (λ _. accepted a) ∙ ap (λ o. and_then o (λ _. accepted a)) e in
    cc

-- where the lengths pass, the records decide
module _ (bytes : List ℕ) {rs : List (List ℕ)} (same : rs ≡ pool_records bytes) (even : length bytes % record_width ≡ 0) (few : length bytes / record_width ≤ most_records) where
  pub read_by : {o : Outcome ℕ} → o ≡ records_tested [] rs (accepted (houses rs)) → and_then o (λ _. accepted (pool_of rs)) ≡ read_pool bytes
  unfolding read_pool
  read_by e =
      ap (λ o. and_then o (λ _. accepted (pool_of rs))) e
      ∙ sym (records_then [] rs (accepted (houses rs)) (λ _. accepted (pool_of rs)))
      ∙ ap (λ x. records_tested [] x (accepted (pool_of x))) same
      ∙ sym (all_pass 0 _ (also (eq→eqb (length bytes % record_width) 0 even) (also (le→leb (length bytes / record_width) most_records few) none)))

-- the pool put together from what was counted, the takers and the weeks
pub pool_read : (rs : List (List ℕ)) {altruists : ℕ} {gives weeks : List ℕ} → accepted altruists ≡ records_tested [] rs (accepted (houses rs))
    → gives ≡ for_places (takers_of rs) (length rs) → weeks ≡ for_places (weeks_at rs) (length rs)
    → record { size = length rs; altruists = altruists; gives = gives; weeks = weeks } ≡ pool_of rs
unfolding pool_of
pool_read rs e g w = rw (records_accepted [] rs (sym e), g, w)
