-- The rows of document 01's table, its whole output for pool A, and some refusals, computed from the definitions: one theorem.
use mathlib.Core.Bool.{true, false}
use mathlib.Core.List.{List, [], ◌∷◌, ◌++◌}
use mathlib.Core.Path.{◌≡◌, refl}
use Prim.Native.Nat.{ℕ, suc}
use lib.ListN.{length, replicate}
use Rattle.pool.specs.declared.value.Pool.{Pool}
use Rattle.kep.specs.Lists.{all, elem, distinct, keep, upto, total, tabulate, cut, flat, before}
use Rattle.kep.specs.computed.Answer.{sublists, plans, better, pick, answer}
use Rattle.kep.specs.Sets.{set_of, has, set_where, worth_of}
use Rattle.pool.specs.Refusals.{accepted, refused, tested}
use Rattle.pool.specs.Limits.{limits_of}
use Rattle.pool.specs.Value.{graph_of, empty_pool, takers_fit, arcs_fit, weeks_fit, test_pool}
use Rattle.reading.specs.Records.{field_tests, records_tested, read_pool}
use Rattle.reading.specs.computed.Pool.{record_gives, takers_of, pool_of}
use Rattle.kep.specs.computed.Arrangements.{concat_map, remove, arrangements}
use Rattle.kep.specs.Exchange.{walk, last_of, is_cycle, is_chain, is_exchange, turned_by, turned, head_of}
use Rattle.kep.specs.Table.{lowest_first, member_worth, served}
use Rattle.kep.specs.computed.Table.{exchanges, ends_at, some, entry, marks, marked_parts, greatest_of, most, best}
use Rattle.kep.specs.Plan.{insert, in_order, kind_of, record_of, records_of, record_form}
use Rattle.plans.specs.Check.{listed, vertices_of}
use Rattle.kep.specs.Trying.{down_from, falling_parts, tried_of, serves_all, tried, tried_over}
use Rattle.tables.specs.Calls.{set_worth, best_tried, best_outcome}
use Rattle.clearing.specs.computed.Cleared.{plan_of}
use Rattle.report.specs.Text.{kind_word, digits, decimal, place_text, places_text, record_line, record_lines, plan_text, outcome_text, printed, whole_text, counted, text_of}

-- ---- the pools

-- document 01's eight bytes of a place, and document 02's four behind them: weeks 0, and place plus 1 as machine number
unfoldable pub placed : ℕ → List ℕ → List ℕ
placed place eight = eight ++ (0 ∷ 0 ∷ suc place ∷ 0 ∷ [])

unfoldable pub pool_a : List ℕ
unfolding placed
pool_a =
    placed 0 (72 ∷ 0 ∷ 50 ∷ 0 ∷ 0 ∷ 0 ∷ 0 ∷ 0 ∷ [])
    ++ placed 1 (77 ∷ 1 ∷ 50 ∷ 40 ∷ 5 ∷ 0 ∷ 0 ∷ 0 ∷ [])
    ++ placed 2 (77 ∷ 2 ∷ 50 ∷ 40 ∷ 2 ∷ 0 ∷ 0 ∷ 0 ∷ [])
    ++ placed 3 (77 ∷ 3 ∷ 50 ∷ 40 ∷ 20 ∷ 0 ∷ 0 ∷ 0 ∷ [])
    ++ placed 4 (77 ∷ 4 ∷ 50 ∷ 40 ∷ 8 ∷ 0 ∷ 0 ∷ 0 ∷ [])
    ++ placed 5 (77 ∷ 5 ∷ 50 ∷ 40 ∷ 16 ∷ 0 ∷ 0 ∷ 0 ∷ [])

-- arcs 0→1, 1→2, 2→1, 2→3, 3→4, 4→3, 4→5
unfoldable pub value_a : Pool
value_a = record { size = 6; altruists = 1; gives = 2 ∷ 4 ∷ 10 ∷ 16 ∷ 40 ∷ 0 ∷ 0 ∷ 0 ∷ 0 ∷ 0 ∷ 0 ∷ 0 ∷ 0 ∷ 0 ∷ []; weeks = replicate 14 0 }

unfoldable pub pool_b : List ℕ
unfolding placed
pool_b =
    placed 0 (77 ∷ 0 ∷ 50 ∷ 40 ∷ 12 ∷ 0 ∷ 0 ∷ 0 ∷ [])
    ++ placed 1 (77 ∷ 1 ∷ 50 ∷ 40 ∷ 5 ∷ 0 ∷ 0 ∷ 0 ∷ [])
    ++ placed 2 (77 ∷ 2 ∷ 50 ∷ 40 ∷ 2 ∷ 0 ∷ 0 ∷ 0 ∷ [])
    ++ placed 3 (77 ∷ 3 ∷ 50 ∷ 40 ∷ 1 ∷ 0 ∷ 0 ∷ 0 ∷ [])

-- arcs 0→1, 1→2, 2→0, 0→3, 3→0, 2→1
unfoldable pub value_b : Pool
value_b = record { size = 4; altruists = 0; gives = 10 ∷ 4 ∷ 3 ∷ 1 ∷ 0 ∷ 0 ∷ 0 ∷ 0 ∷ 0 ∷ 0 ∷ 0 ∷ 0 ∷ 0 ∷ 0 ∷ []; weeks = replicate 14 0 }

-- three members, of whom 0 can swap with 1 or with 2; the last has waited so many weeks
unfoldable pub star : ℕ → Pool
star weeks = record { size = 3; altruists = 0; gives = 6 ∷ 1 ∷ 1 ∷ replicate 11 0; weeks = 0 ∷ 0 ∷ weeks ∷ replicate 11 0 }

-- a member of class 1 and grade 50 whose least grade is given, and who takes class 1
unfoldable pub member : ℕ → List ℕ
unfolding placed
member least = placed 0 (77 ∷ 1 ∷ 50 ∷ least ∷ 2 ∷ 0 ∷ 0 ∷ 0 ∷ [])

-- the plan of a pool value under limits, and the members that it serves: the best
unfoldable pub plan : Pool → ℕ → ℕ → List (List ℕ)
plan p lc lp = plan_of p (limits_of lc lp)

unfoldable pub best_served : Pool → ℕ → ℕ → ℕ
unfolding plan
best_served p lc lp = served (graph_of p) (flat (plan p lc lp))

unfoldable pub entry_of : Pool → ℕ → ℕ → ℕ → ℕ
entry_of p lc lp s = entry (graph_of p) lc lp s

-- ---- the rows

pub rows :
    (read_pool pool_a ≡ accepted value_a)
    × (read_pool pool_b ≡ accepted value_b)
    × (read_pool [] ≡ accepted empty_pool)
    -- A, 2, 2
    × (entry_of value_a 2 2 3 ≡ 2)
    × (entry_of value_a 2 2 6 ≡ 4)
    × (entry_of value_a 2 2 7 ≡ 4)
    × (entry_of value_a 2 2 15 ≡ 0)
    × (entry_of value_a 2 2 1 ≡ 0)
    × (plan value_a 2 2 ≡ (0 ∷ 1 ∷ 2 ∷ []) ∷ (3 ∷ 4 ∷ []) ∷ [])
    × (best_served value_a 2 2 ≡ 4)
    -- A, 2, 3
    × (entry_of value_a 2 3 15 ≡ 8)
    × (best_served value_a 2 3 ≡ 4)
    -- A, 2, 4
    × (best_served value_a 2 4 ≡ 4)
    × (plan value_a 2 4 ≡ (0 ∷ 1 ∷ 2 ∷ 3 ∷ 4 ∷ []) ∷ [])
    -- A, 2, 5
    × (best_served value_a 2 5 ≡ 5)
    × (plan value_a 2 5 ≡ (0 ∷ 1 ∷ 2 ∷ 3 ∷ 4 ∷ 5 ∷ []) ∷ [])
    -- A, 2, 0
    × (best_served value_a 2 0 ≡ 4)
    × (plan value_a 2 0 ≡ (1 ∷ 2 ∷ []) ∷ (3 ∷ 4 ∷ []) ∷ [])
    -- A, 0, 2
    × (best_served value_a 0 2 ≡ 2)
    × (plan value_a 0 2 ≡ (0 ∷ 1 ∷ 2 ∷ []) ∷ [])
    -- A, 0, 0
    × (best_served value_a 0 0 ≡ 0)
    × (plan value_a 0 0 ≡ [])
    -- B, 3, 0
    × (entry_of value_b 3 0 7 ≡ 4)
    × (best_served value_b 3 0 ≡ 4)
    × (plan value_b 3 0 ≡ (0 ∷ 3 ∷ []) ∷ (1 ∷ 2 ∷ []) ∷ [])
    × (best (worth_of (member_worth (graph_of value_b)) 4) (marks (graph_of value_b) 3 0) 15 ≡ 4)
    -- weeks between plans that serve as many: the records decide where nobody has waited; an entry tells both; weeks above 999 are refused
    × (plan (star 0) 2 0 ≡ (0 ∷ 1 ∷ []) ∷ [])
    × (plan (star 5) 2 0 ≡ (0 ∷ 2 ∷ []) ∷ [])
    × (best (set_worth (star 5)) (marks (graph_of (star 5)) 2 0) 7 ≡ 131077)
    × (test_pool (star 999) ≡ accepted (star 999))
    × (test_pool (star 1000) ≡ refused 6 0)
    -- parts tried: A with nothing marked
    × (best_outcome value_a (replicate 64 0) (replicate 64 0) ≡ accepted (record { entries = 64; tried = 664 }))
    -- empty, 3, 3
    × (best_served empty_pool 3 3 ≡ 0)
    -- grade 50, least 50: arc; least 51: none
    × (record_gives (member 0) (member 50) ≡ true)
    × (record_gives (member 0) (member 51) ≡ false)
    -- a house's least grade of 101: 19, not 20; a house after a member that takes a class: 20, not 5
    × (read_pool (placed 0 (72 ∷ 0 ∷ 50 ∷ 101 ∷ 0 ∷ 0 ∷ 0 ∷ 0 ∷ [])) ≡ refused 19 0)
    × (read_pool (member 0 ++ placed 1 (72 ∷ 0 ∷ 50 ∷ 0 ∷ 1 ∷ 0 ∷ 0 ∷ 0 ∷ [])) ≡ refused 20 1)
    -- 192 bytes of a longer file count
    × (length (counted (replicate 200 0)) ≡ 192)
    -- the printed text: A, 2, 2; limits that are not two bytes; a record of another kind; weeks 1000
    × (
    text_of pool_a (2 ∷ 2 ∷ [])
    -- served 4 of 5
    ≡ (115 ∷ 101 ∷ 114 ∷ 118 ∷ 101 ∷ 100 ∷ 32 ∷ 52 ∷ 32 ∷ 111 ∷ 102 ∷ 32 ∷ 53 ∷ 10 ∷ [])
    -- chain 0 1 2
    ++ (99 ∷ 104 ∷ 97 ∷ 105 ∷ 110 ∷ 32 ∷ 48 ∷ 32 ∷ 49 ∷ 32 ∷ 50 ∷ 10 ∷ [])
    -- ring 3 4
    ++ (114 ∷ 105 ∷ 110 ∷ 103 ∷ 32 ∷ 51 ∷ 32 ∷ 52 ∷ 10 ∷ [])
    )
    × (
    text_of pool_a (2 ∷ 2 ∷ 2 ∷ [])
    -- refused 7 0
    ≡ 114 ∷ 101 ∷ 102 ∷ 117 ∷ 115 ∷ 101 ∷ 100 ∷ 32 ∷ 55 ∷ 32 ∷ 48 ∷ 10 ∷ []
    )
    -- refused 3 0, whatever the limits
    × (text_of (placed 0 (71 ∷ 0 ∷ 0 ∷ 0 ∷ 0 ∷ 0 ∷ 0 ∷ 0 ∷ [])) [] ≡ 114 ∷ 101 ∷ 102 ∷ 117 ∷ 115 ∷ 101 ∷ 100 ∷ 32 ∷ 51 ∷ 32 ∷ 48 ∷ 10 ∷ [])
    -- refused 18 0
    × (
    text_of (72 ∷ 0 ∷ 50 ∷ 0 ∷ 0 ∷ 0 ∷ 0 ∷ 0 ∷ 232 ∷ 3 ∷ 1 ∷ 0 ∷ []) []
    ≡ 114 ∷ 101 ∷ 102 ∷ 117 ∷ 115 ∷ 101 ∷ 100 ∷ 32 ∷ 49 ∷ 56 ∷ 32 ∷ 48 ∷ 10 ∷ []
    )
unfolding
    takers_fit arcs_fit weeks_fit test_pool all elem distinct keep upto total tabulate cut set_of has set_where worth_of tested field_tests records_tested record_gives takers_of pool_of read_pool
    concat_map remove arrangements walk last_of is_cycle is_chain is_exchange turned_by turned head_of lowest_first exchanges ends_at some entry marks marked_parts
    greatest_of most best flat sublists before insert in_order kind_of record_of records_of record_form plans better pick answer placed pool_a value_a pool_b value_b star member plan best_served entry_of
    down_from falling_parts tried_of serves_all tried tried_over best_tried best_outcome
    listed vertices_of kind_word digits decimal place_text places_text record_line record_lines plan_text outcome_text printed whole_text
rows =
    (refl, refl, refl, refl, refl, refl, refl, refl, refl, refl, refl, refl, refl, refl, refl, refl, refl, refl, refl, refl, refl, refl, refl, refl, refl, refl, refl, refl, refl, refl, refl, refl, refl, refl, refl, refl, refl, refl, refl, refl, refl, refl)
