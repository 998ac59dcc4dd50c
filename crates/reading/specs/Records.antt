-- Reading pool bytes: its causes in their order, and the rule of arcs.
use Rattle.std.specs.Prelude.{Bool, not, ◌&&◌, ◌||◌, List, [], ◌∷◌, ◌++◌, ℕ, ◌/◌, ◌%◌, ◌≤◌, ◌<◌, T, eqb, leb, length, get_or}
use Rattle.pool.specs.declared.value.Pool.{Pool}
use Rattle.kep.specs.Lists.{keep}
use Rattle.kep.specs.Sets.{has}
use Rattle.pool.specs.Refusals.{Outcome, accepted, tested}
use Rattle.pool.specs.Value.{most_weeks_waited}
use Rattle.reading.specs.Fields.{record_width, most_records, pool_records, tells_house, tells_member, class_of, grade_of, least_of, taken_of, weeks_of, machine_of}
use Rattle.reading.specs.computed.Pool.{pool_of}

-- ---- the causes of a record

-- class 0 to 31
abbrev pub class_fits : List ℕ → Bool
class_fits r = leb (class_of r) 31

-- both grades 0 to 100
abbrev pub grades_fit : List ℕ → Bool
grades_fit r = leb (grade_of r) 100 && leb (least_of r) 100

-- no least grade and no class taken
abbrev pub takes_nothing : List ℕ → Bool
takes_nothing r = eqb (least_of r) 0 && eqb (taken_of r) 0

-- weeks 0 to 999, machine numbers from 1 on
abbrev pub weeks_and_machine_fit : List ℕ → Bool
weeks_and_machine_fit r = leb (weeks_of r) most_weeks_waited && not (eqb (machine_of r) 0)

-- no record among them is such
abbrev pub none_of : (List ℕ → Bool) → List (List ℕ) → Bool
none_of p rs = eqb (length (keep p rs)) 0

-- the tests of a record behind the records before it, in their order, each under the cause that is met where it fails
unfoldable pub field_tests : List (List ℕ) → List ℕ → List (ℕ × Bool)
field_tests before r =
    -- kind neither 72 nor 77
    (3, tells_house r || tells_member r)
    -- class above 31
    ∷ (4, class_fits r)
    -- a grade or a least grade above 100
    ∷ (19, grades_fit r)
    -- a house with a least grade or a class taken
    ∷ (20, not (tells_house r) || takes_nothing r)
    -- a house after a member
    ∷ (5, not (tells_house r) || none_of tells_member before)
    -- weeks above 999 or machine number 0
    ∷ (18, weeks_and_machine_fit r)
    ∷ []

-- record by record behind those before: `rest` where no record meets a cause
unfoldable pub records_tested : {A : Type 0} → List (List ℕ) → List (List ℕ) → Outcome A → Outcome A
records_tested before [] rest = rest
records_tested before (r ∷ rs) rest =
    tested (field_tests before r) (length before) (records_tested (before ++ (r ∷ [])) rs rest)

-- the tests of each record, behind those before it
unfoldable pub pool_tests : List (List ℕ) → List (List ℕ) → List (List (ℕ × Bool))
pool_tests before [] = []
pool_tests before (r ∷ rs) = field_tests before r ∷ pool_tests (before ++ (r ∷ [])) rs

-- ---- reading

-- 1: pool length no multiple of 12; 2: more than 14 records
abbrev pub length_tests : List ℕ → List (ℕ × Bool)
length_tests bytes = (1, eqb (length bytes % record_width) 0) ∷ (2, leb (length bytes / record_width) most_records) ∷ []

-- 1 and 2, and then the records
unfoldable pub read_pool : List ℕ → Outcome Pool
read_pool bytes =
    tested (length_tests bytes) 0 (records_tested [] (pool_records bytes) (accepted (pool_of (pool_records bytes))))

-- ---- the rule of arcs, as document 01 says it

-- place u gives to place v
pub record GivesTo (bytes : List ℕ) (u v : ℕ) : Type 0 where
  pub giver_there : u < length bytes / record_width
  pub taker_there : v < length bytes / record_width
  pub taker_member : T (tells_member (get_or (pool_records bytes) v []))
  pub class_taken : T (has (taken_of (get_or (pool_records bytes) v [])) (class_of (get_or (pool_records bytes) u [])))
  pub grade_enough : least_of (get_or (pool_records bytes) v []) ≤ grade_of (get_or (pool_records bytes) u [])
