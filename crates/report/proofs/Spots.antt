-- The spot of a refused pool is no more than the most records, since more of them are refused before any record is read.
use mathlib.Core.Bool.{Bool, true, false}
use mathlib.Core.List.{List, [], ◌∷◌, ◌++◌}
use mathlib.Core.Path.{◌≡◌, sym}
use Prim.Native.Nat.{ℕ, ◌+◌, ◌/◌, ◌%◌, ◌≤◌}
use native.Mathlib.Omega.{arith}
use lib.Dec.{T, eqb, leb, leb→le}
use lib.ListN.{length, length-append}
use Rattle.pool.specs.Refusals.{Outcome, accepted, refused, tested}
use Rattle.reading.specs.Records.{field_tests, records_tested, read_pool}
use Rattle.reading.specs.computed.Pool.{pool_of}
use Rattle.reading.specs.Fields.{record_width, most_records, pool_records}
use Rattle.kep.proofs.Cut.{length_cut}
use Rattle.pool.proofs.Tested.{not_both}

-- what is refused at a spot beyond the bound is never an outcome
abbrev Spots : {A : Type 0} → ℕ → Outcome A → Type 0
Spots {A} most o = (n at : ℕ) → o ≡ refused n at → at ≤ most

same_spot : {A : Type 0} {n m at i : ℕ} → ◌≡◌ {A = Outcome A} (refused n at) (refused m i) → at ≡ i
same_spot {A} e = cc

tested_spots : {A : Type 0} (most : ℕ) (ts : List (ℕ × Bool)) (at : ℕ) (o : Outcome A) → at ≤ most → Spots most o → Spots most (tested ts at o)
unfolding tested
tested_spots most [] at o h s = s
tested_spots {A} most (t ∷ ts) at o h s = go t.1 (tested_spots most ts at o h s)
  where
    go : (b : Bool) → Spots {A = A} most (tested ts at o) → Spots {A = A} most (elim b as (λ _. Outcome A) [ true ↦ tested ts at o | false ↦ refused t.0 at ])
    go true ih = ih
    go false ih = λ n i e. omega (arith, same_spot e)

records_spots : {A : Type 0} (most : ℕ) (before rs : List (List ℕ)) (o : Outcome A) → length before + length rs ≤ most → Spots most o
    → Spots most (records_tested before rs o)
unfolding records_tested
records_spots most before [] o h s = s
records_spots most before (r ∷ rs) o h s =
    tested_spots most (field_tests before r) (length before) (records_tested (before ++ (r ∷ [])) rs o) (omega arith)
    (records_spots most (before ++ (r ∷ [])) rs o (simp length-append (omega arith)) s)

-- the first two tests: the second bounds the number of records
two_spots : {A : Type 0} (a b : Bool) (o : Outcome A) → (T b → Spots most_records o) → Spots most_records (tested ((1, a) ∷ (2, b) ∷ []) 0 o)
unfolding tested
two_spots true true o s = s tt
two_spots true false o s = λ n i e. omega (arith, same_spot e)
two_spots false b o s = λ n i e. omega (arith, same_spot e)

pub read_spot : (bytes : List ℕ) {n at : ℕ} → refused n at ≡ read_pool bytes → at ≤ most_records
unfolding read_pool
read_spot bytes {n} {at} e =
    two_spots (eqb (length bytes % record_width) 0) (leb (length bytes / record_width) most_records)
    (records_tested [] (pool_records bytes) (accepted (pool_of (pool_records bytes))))
    (λ t. records_spots most_records [] (pool_records bytes) (accepted (pool_of (pool_records bytes))) (few t) (λ n at f. absurd (not_both f)))
    n at (sym e)
  where
    few : T (leb (length bytes / record_width) most_records) → 0 + length (pool_records bytes) ≤ most_records
    few t = omega (arith, leb→le (length bytes / record_width) most_records t, length_cut record_width (length bytes / record_width) bytes)
