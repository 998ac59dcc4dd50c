-- A pool record: its width, how many a pool has at most, and its fields.
use Rattle.std.specs.Prelude.{Bool, List, ℕ, ◌+◌, ◌*◌, ◌/◌, eqb, length, get_or}
use Rattle.kep.specs.Lists.{cut}

-- how many bytes a record has
abbrev pub record_width : ℕ
record_width = 12

-- how many records a pool has at most
abbrev pub most_records : ℕ
most_records = 14

-- the records of pool bytes
abbrev pub pool_records : List ℕ → List (List ℕ)
pool_records bytes = cut record_width (length bytes / record_width) bytes

-- 72 house, 77 member
abbrev pub record_kind : List ℕ → ℕ
record_kind r = get_or r 0 0

-- a record of a house
abbrev pub tells_house : List ℕ → Bool
tells_house r = eqb (record_kind r) 72

-- a record of a member
abbrev pub tells_member : List ℕ → Bool
tells_member r = eqb (record_kind r) 77

-- the class of the machine given
abbrev pub class_of : List ℕ → ℕ
class_of r = get_or r 1 0

-- its bench grade
abbrev pub grade_of : List ℕ → ℕ
grade_of r = get_or r 2 0

-- the least grade taken
abbrev pub least_of : List ℕ → ℕ
least_of r = get_or r 3 0

-- the number that two bytes hold, the low one first
abbrev pub pair_at : List ℕ → ℕ → ℕ
pair_at r at = get_or r at 0 + 256 * get_or r (at + 1) 0

-- the classes taken, as a set
abbrev pub taken_of : List ℕ → ℕ
taken_of r = pair_at r 4 + 65536 * pair_at r 6

-- the weeks waited
abbrev pub weeks_of : List ℕ → ℕ
weeks_of r = pair_at r 8

-- the machine's number
abbrev pub machine_of : List ℕ → ℕ
machine_of r = pair_at r 10
