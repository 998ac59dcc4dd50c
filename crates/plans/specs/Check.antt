-- The checker of plan bytes: causes 11 to 17 of document 01, as they stand in its table.
use Rattle.std.specs.Prelude.{Bool, true, false, ◌&&◌, ◌||◌, List, [], ◌∷◌, ◌++◌, map, ◌≡◌, ℕ, suc, ◌+◌, ◌/◌, ◌%◌, T, eqb, ltb, leb, length, take, get_or}
use Rattle.kep.specs.Lists.{all, distinct, cut, flat}
use Rattle.kep.specs.Graph.{Graph, is_altruist}
use Rattle.pool.specs.Refusals.{Outcome, accepted, tested}
use Rattle.kep.specs.Exchange.{walk, last_of, head_of}
use Rattle.kep.specs.Table.{served}
use Rattle.kep.specs.Plan.{kind_of, is_legal, record_form}

-- ---- reading plan bytes

-- the bytes before the first 255
unfoldable pub listed : List ℕ → List ℕ
listed [] = []
listed (b ∷ bs) = elim (eqb b 255) [ true ↦ [] | false ↦ b ∷ listed bs ]

-- and those from there on
unfoldable pub unlisted : List ℕ → List ℕ
unlisted [] = []
unlisted (b ∷ bs) = elim (eqb b 255) [ true ↦ b ∷ bs | false ↦ unlisted bs ]

-- the vertices of a record stand in its bytes 0 to 13, filled up with 255
unfoldable pub vertices_of : List ℕ → List ℕ
vertices_of r = listed (take 14 r)

-- and what stands behind them
unfoldable pub filler_of : List ℕ → List ℕ
filler_of r = unlisted (take 14 r)

-- the records of plan bytes
abbrev pub records_in : List ℕ → List (List ℕ)
records_in bytes = cut 16 (length bytes / 16) bytes

-- the lists of vertices that they tell
abbrev pub lists_in : List ℕ → List (List ℕ)
lists_in bytes = map vertices_of (records_in bytes)

-- the sum of the bytes 15 of records
unfoldable pub counts : List (List ℕ) → ℕ
counts [] = 0
counts (r ∷ rs) = get_or r 15 0 + counts rs

-- ---- the tests of a record, each of which fails where its cause is met

-- all are below n
abbrev pub all_below : ℕ → List ℕ → Bool
all_below n xs = all (λ x. ltb x n) xs

-- all are 255
abbrev pub all_filler : List ℕ → Bool
all_filler bs = all (λ b. eqb b 255) bs

-- none is lower than the first
abbrev pub none_lower : ℕ → List ℕ → Bool
none_lower first xs = all (λ y. leb first y) xs

-- 12: first byte 255, a place not below n, or a place after 255
unfoldable pub lists_vertices : Graph → List ℕ → Bool
lists_vertices g r = leb 1 (length (vertices_of r)) && all_below g.size (vertices_of r) && all_filler (filler_of r)

-- 13: a place met before, here or in an earlier record
unfoldable pub fresh : List ℕ → List ℕ → Bool
fresh met xs = distinct (met ++ xs)

-- 14: first place not above that of the record before (so under the least allowed), or a place lower than its record's first
unfoldable pub rising : ℕ → List ℕ → Bool
rising least xs = leb least (head_of xs) && none_lower (head_of xs) xs

-- 15: a needed arc missing (of a ring the last place also gives to the first)
unfoldable pub joined : Graph → List ℕ → Bool
joined g [] = true
joined g (x ∷ xs) = walk g x xs && (is_altruist g x || g.arc (last_of x xs) x)

-- 16: too long, or a chain with no member
unfoldable pub within_limits : Graph → ℕ → ℕ → List ℕ → Bool
within_limits g lc lp [] = true
within_limits g lc lp (x ∷ xs) =
    elim (is_altruist g x) [ true ↦ leb 1 (length xs) && leb (length xs) lp | false ↦ leb (length (x ∷ xs)) lc ]

-- 17: byte 14 or 15 wrong
unfoldable pub ends_right : Graph → List ℕ → Bool
ends_right g r = eqb (get_or r 14 0) (kind_of g (vertices_of r)) && eqb (get_or r 15 0) (served g (vertices_of r))

-- all of them, in the order of their numbers. `new` is the test of 13, and the first vertex may be `least` or more.
unfoldable pub record_tests : Graph → ℕ → ℕ → (List ℕ → Bool) → ℕ → List ℕ → List (ℕ × Bool)
record_tests g lc lp new least r =
    let xs = vertices_of r in
    (12, lists_vertices g r)
    ∷ (13, new xs)
    ∷ (14, rising least xs)
    ∷ (15, joined g xs)
    ∷ (16, within_limits g lc lp xs)
    ∷ (17, ends_right g r)
    ∷ []

-- ---- the check

-- record by record, from record i on; before it stood the vertices `met`
unfoldable pub check_from : Graph → ℕ → ℕ → List ℕ → ℕ → ℕ → List (List ℕ) → Outcome ℕ
check_from g lc lp met least i [] = accepted (served g met)
check_from g lc lp met least i (r ∷ rs) =
    tested (record_tests g lc lp (fresh met) least r) i
    (check_from g lc lp (met ++ vertices_of r) (suc (head_of (vertices_of r))) (suc i) rs)

-- the whole plan; 11: plan length no multiple of 16
unfoldable pub check : Graph → ℕ → ℕ → List ℕ → Outcome ℕ
check g lc lp bytes = tested ((11, eqb (length bytes % 16) 0) ∷ []) 0 (check_from g lc lp [] 0 0 (records_in bytes))

-- what its yes means: bytes are the record form of a legal plan, told in any order and with cycles begun anywhere, that serves k
abbrev pub LegalForm : Graph → ℕ → ℕ → List ℕ → ℕ → Type 0
LegalForm g lc lp bytes k = (p : List (List ℕ)) × T (is_legal g lc lp p) × (record_form g p ≡ bytes) × (served g (flat p) ≡ k)
