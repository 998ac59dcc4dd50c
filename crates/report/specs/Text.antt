-- The text that the workshop program prints (document 01, Pool A and its answers), from the bytes of its two files.
use Rattle.std.specs.Prelude.{true, false, ◌&&◌, List, [], ◌∷◌, ◌++◌, ℕ, zero, suc, ◌+◌, ◌-◌, ◌*◌, ◌/◌, ◌%◌, eqb, ltb, leb, length, take, drop, get_or}
use Rattle.pool.specs.declared.value.Pool.{Pool}
use Rattle.pool.specs.declared.limits.Limits.{Limits}
use Rattle.pool.specs.Limits.{limits_of, limits_fit}
use Rattle.reading.specs.Fields.{record_width, most_records}
use Rattle.reading.specs.Records.{read_pool}
use Rattle.pool.specs.Refusals.{Outcome, accepted, refused, tested, and_then}
use Rattle.pool.specs.Value.{graph_of}
use Rattle.kep.specs.Table.{served}
use Rattle.plans.specs.Check.{vertices_of, records_in}
use Rattle.clearing.specs.computed.Cleared.{plan_of}
use Rattle.kep.specs.Lists.{flat}
use Rattle.kep.specs.Plan.{record_form}
use Rattle.std.specs.Prelude.{Option, Some, None}

-- ---- characters and words, in ASCII

-- one space
abbrev pub space : List ℕ
space = 32 ∷ []

-- the end of a line
abbrev pub line_feed : List ℕ
line_feed = 10 ∷ []

-- `served `
abbrev pub served_word : List ℕ
served_word = 115 ∷ 101 ∷ 114 ∷ 118 ∷ 101 ∷ 100 ∷ 32 ∷ []

-- ` of `
abbrev pub of_word : List ℕ
of_word = 32 ∷ 111 ∷ 102 ∷ 32 ∷ []

-- `refused `
abbrev pub refused_word : List ℕ
refused_word = 114 ∷ 101 ∷ 102 ∷ 117 ∷ 115 ∷ 101 ∷ 100 ∷ 32 ∷ []

-- `chain` for the kind 67, else `ring`
unfoldable pub kind_word : ℕ → List ℕ
kind_word kind = elim (eqb kind 67) [ true ↦ 99 ∷ 104 ∷ 97 ∷ 105 ∷ 110 ∷ [] | false ↦ 114 ∷ 105 ∷ 110 ∷ 103 ∷ [] ]

-- the digits of n in base ten, the last at the end; at most k
unfoldable pub digits : ℕ → ℕ → List ℕ
digits zero n = []
digits (suc k) n = elim (ltb n 10) [ true ↦ (48 + n) ∷ [] | false ↦ digits k (n / 10) ++ ((48 + n % 10) ∷ []) ]

-- all of them, for a number below k has no more than k; with no needless zero in front
unfoldable pub decimal : ℕ → List ℕ
decimal n = digits (suc n) n

-- ---- lines

-- `served S of M`
abbrev pub served_line : ℕ → ℕ → List ℕ
served_line s m = (served_word ++ decimal s) ++ (of_word ++ decimal m) ++ line_feed

-- `refused N P`
abbrev pub refused_line : ℕ → ℕ → List ℕ
refused_line number at = (refused_word ++ decimal number) ++ (space ++ decimal at) ++ line_feed

-- places in order, each after one space
unfoldable pub place_text : ℕ → List ℕ
place_text v = space ++ decimal v

-- of all places of a list
unfoldable pub places_text : List ℕ → List ℕ
places_text [] = []
places_text (v ∷ vs) = place_text v ++ places_text vs

-- of a plan record: `ring` or `chain` and its places
unfoldable pub record_line : List ℕ → List ℕ
record_line r = kind_word (get_or r 14 0) ++ places_text (vertices_of r) ++ line_feed

-- of all records
unfoldable pub record_lines : List (List ℕ) → List ℕ
record_lines [] = []
record_lines (r ∷ rs) = record_line r ++ record_lines rs

-- ---- the text

-- of a pool under limits that fit: the members served of all members, and the records of the plan that clearing answers with
unfoldable pub plan_text : Pool → Limits → List ℕ
plan_text p l =
    served_line (served (graph_of p) (flat (plan_of p l))) (p.size - p.altruists)
    ++ record_lines (records_in (record_form (graph_of p) (plan_of p l)))

-- of what was accepted, or of the refusal
unfoldable pub outcome_text : Outcome Pool → Limits → List ℕ
outcome_text (accepted p) l = plan_text p l
outcome_text (refused number at) l = refused_line number at

-- Lc and Lp
abbrev pub limits_in : List ℕ → Limits
limits_in bytes = limits_of (get_or bytes 0 0) (get_or bytes 1 0)

-- the pool is refused first; then 7: other than two bytes, or a limit above 14
unfoldable pub printed : List ℕ → List ℕ → Outcome Pool
printed pool limits = and_then (read_pool pool) (λ p. tested ((7, eqb (length limits) 2 && limits_fit (limits_in limits)) ∷ []) 0 (accepted p))

-- of a whole pool file
unfoldable pub whole_text : List ℕ → List ℕ → List ℕ
whole_text pool limits = outcome_text (printed pool limits) (limits_in limits)

-- what counts of a pool file as the whole file: its first 192 bytes, two records more than a pool has at most
abbrev pub counted : List ℕ → List ℕ
counted pool = take (record_width * (most_records + 2)) pool

-- of any pool file
abbrev pub text_of : List ℕ → List ℕ → List ℕ
text_of pool limits = whole_text (counted pool) limits

-- ---- what the call tells and leaves

-- the answer for a text and so much room: its length, or that there is no room for it
abbrev pub told_of : List ℕ → ℕ → Option ℕ
told_of text room = elim (leb (length text) room) as (λ _. Option ℕ) [ true ↦ Some (length text) | false ↦ None ]

-- the text at the front of the buffer, if it has room for all of it
abbrev pub left_of : List ℕ → List ℕ → List ℕ
left_of text out = elim (leb (length text) (length out)) as (λ _. List ℕ) [ true ↦ text ++ drop (length text) out | false ↦ out ]

-- what the call tells of two files
abbrev pub text_outcome : List ℕ → List ℕ → ℕ → Option ℕ
text_outcome pool limits room = told_of (text_of pool limits) room

-- what it leaves in the buffer
abbrev pub text_left : List ℕ → List ℕ → List ℕ → List ℕ
text_left pool limits out = left_of (text_of pool limits) out
