-- A number for each place, as code finds it.
use mathlib.Core.List.{List, ◌++◌}
use mathlib.Core.Path.{◌≡◌, refl, sym, ap, ◌∙◌}
use Prim.Native.Nat.{ℕ, zero, suc, ◌-◌, ◌≤◌, ◌<◌}
use native.Mathlib.Nat.{sub-zero, suc-sub-suc}
use native.Mathlib.Decide.{dec_lt}
use native.Mathlib.Omega.{arith}
use lib.Dec.{ltb}
use lib.ListN.{length, length-append, length-replicate, get_or, drop, replicate}
use lib.Seq.{ext_get_or}
use borrow.Author.Tests.{lt-ltb, le-ltb}
use Rattle.kep.specs.Lists.{tabulate}
use Rattle.kep.specs.Sets.{counted}
use Rattle.kep.proofs.Tables.{length_tabulate, get_d_whole, get_d_tabulate, get_d_after}
use Rattle.reading.specs.Fields.{most_records}
use Rattle.reading.specs.computed.Pool.{for_places}

get_d_zeros : (n i : ℕ) → get_or (replicate {A = ℕ} n 0) i 0 ≡ 0
get_d_zeros zero i = refl
get_d_zeros (suc n) zero = refl
get_d_zeros (suc n) (suc i) = get_d_zeros n i

-- the number of place u, and 0 for a place that is not there
pub place_at : (f : ℕ → ℕ) (places u : ℕ) → u < places → get_or (for_places f places) u 0 ≡ f u
place_at f places u h = get_d_tabulate f places u (replicate (most_records - places) 0) h

pub place_behind : (f : ℕ → ℕ) (places u : ℕ) → places ≤ u → get_or (for_places f places) u 0 ≡ 0
place_behind f places u h = get_d_after f places u (replicate (most_records - places) 0) h ∙ get_d_zeros (most_records - places) (u - places)

-- an array of all that a pool has room for, by whether the place is there
pub places_told : (f : ℕ → ℕ) (places : ℕ) → places ≤ most_records → tabulate (λ u. counted (ltb u places) (f u)) most_records ≡ for_places f places
places_told f places few = ext_get_or 0 _ (for_places f places) (length_tabulate told most_records ∙ sym long) (λ u l. get_d_whole told most_records u (omega (arith, length_tabulate told most_records)) ∙ go u (dec_lt u places))
  where
    told : ℕ → ℕ
    told u = counted (ltb u places) (f u)

    long : length (for_places f places) ≡ most_records
    long = length-append (tabulate f places) (replicate (most_records - places) 0) ∙ omega (arith, length_tabulate f places, length-replicate {A = ℕ} (most_records - places) 0)

    go : (u : ℕ) → Dec (u < places) → told u ≡ get_or (for_places f places) u 0
    go u (yes l) = rw (lt-ltb u places l) (sym (place_at f places u l))
    go u (no n) = rw (le-ltb u places (omega arith)) (sym (place_behind f places u (omega arith)))

-- the same as a loop fills it over zeros: from place u on those are left
replicate_behind : (k n : ℕ) → k ≤ n → drop k (replicate {A = ℕ} n 0) ≡ replicate (n - k) 0
replicate_behind zero n h = rw sub-zero
replicate_behind (suc k) zero h = absurd (omega arith)
replicate_behind (suc k) (suc n) h = replicate_behind k n (omega arith) ∙ ap (λ j. replicate {A = ℕ} j 0) (sym (suc-sub-suc n k))

pub places_filled : (f : ℕ → ℕ) {places u : ℕ} {filled : List ℕ} → places ≤ most_records → u ≡ places → filled ≡ tabulate f u ++ drop u (replicate most_records 0)
    → filled ≡ for_places f places
places_filled f {places} few done e =
    e ∙ ap (λ k. tabulate f k ++ drop k (replicate most_records 0)) done ∙ ap (λ r. tabulate f places ++ r) (replicate_behind places most_records few)
