-- The pool value that records make, worked out. `arcs_by_rule`, `altruists_by_kind`, `weeks_by_record` and `places_are_records` (claims, proofs/Pools) say what it holds.
use Rattle.std.specs.Prelude.{Bool, ◌&&◌, List, [], ◌++◌, ℕ, ◌-◌, leb, length, get_or, replicate}
use Rattle.pool.specs.declared.value.Pool.{Pool}
use Rattle.kep.specs.Lists.{keep, tabulate}
use Rattle.kep.specs.Sets.{has, set_where}
use Rattle.reading.specs.Fields.{most_records, class_of, grade_of, least_of, taken_of, weeks_of, tells_house, tells_member}

-- the giver's record gives to the taker's: the taker is a member, takes the class given, and the grade is at least its least
unfoldable pub record_gives : List ℕ → List ℕ → Bool
record_gives giver taker = tells_member taker && has (taken_of taker) (class_of giver) && leb (least_of taker) (grade_of giver)

-- the set of the places that place u gives to
unfoldable pub takers_of : List (List ℕ) → ℕ → ℕ
takers_of rs u = set_where (length rs) (λ v. record_gives (get_or rs u []) (get_or rs v []))

-- the weeks that place u has waited
abbrev pub weeks_at : List (List ℕ) → ℕ → ℕ
weeks_at rs u = weeks_of (get_or rs u [])

-- a number for each place that is there, and 0 for the others that a pool value has room for
abbrev pub for_places : (ℕ → ℕ) → ℕ → List ℕ
for_places f places = tabulate f places ++ replicate (most_records - places) 0

-- places, houses, and for each place the set that it gives to and the weeks that it has waited
unfoldable pub pool_of : List (List ℕ) → Pool
pool_of rs = record {
  size = length rs;
  altruists = length (keep tells_house rs);
  gives = for_places (takers_of rs) (length rs);
  weeks = for_places (weeks_at rs) (length rs);
}
