-- Legal plans, their record form, and what is best among them.
use Rattle.std.specs.Prelude.{◌≡◌, ◌↔◌, Bool, true, false, ◌&&◌, List, [], ◌∷◌, ◌++◌, ℕ, ◌-◌, ◌≤◌, length, replicate, T, ltb}
use Rattle.kep.specs.Lists.{distinct, flat, before}
use Rattle.kep.specs.Graph.{Graph, is_altruist}
use Rattle.kep.specs.Exchange.{is_exchange, turned, head_of}
use Rattle.kep.specs.Table.{served, waited}

-- each of the lists is an exchange
unfoldable pub all_exchanges : Graph → ℕ → ℕ → List (List ℕ) → Bool
all_exchanges g lc lp [] = true
all_exchanges g lc lp (x ∷ xs) = elim (is_exchange g lc lp x) [ true ↦ all_exchanges g lc lp xs | false ↦ false ]

-- a legal plan: exchanges in any order, cycles begun anywhere, no vertex in two of them. "A set of vertex-disjoint directed cycles and paths" (001, (Lc, Lp)-KEP)
unfoldable pub is_legal : Graph → ℕ → ℕ → List (List ℕ) → Bool
is_legal g lc lp p = all_exchanges g lc lp p && distinct (flat p)

-- ---- the record form

-- a list put in by its first vertex
unfoldable pub insert : List ℕ → List (List ℕ) → List (List ℕ)
insert x [] = x ∷ []
insert x (y ∷ ys) = elim (ltb (head_of x) (head_of y)) [ true ↦ x ∷ y ∷ ys | false ↦ y ∷ insert x ys ]

-- each exchange turned, in rising order of first vertex
unfoldable pub in_order : List (List ℕ) → List (List ℕ)
in_order [] = []
in_order (x ∷ xs) = insert (turned x) (in_order xs)

-- the kind of an exchange in its record: 67 for a chain, 82 for a cycle
unfoldable pub kind_of : Graph → List ℕ → ℕ
kind_of g [] = 82
kind_of g (x ∷ xs) = elim (is_altruist g x) [ true ↦ 67 | false ↦ 82 ]

-- the record of an exchange: its vertices filled up with 255 to fourteen bytes, its kind, and the members that it serves
unfoldable pub record_of : Graph → List ℕ → List ℕ
record_of g xs = xs ++ replicate (14 - length xs) 255 ++ (kind_of g xs ∷ served g xs ∷ [])

-- records one after another
unfoldable pub records_of : Graph → List (List ℕ) → List ℕ
records_of g [] = []
records_of g (x ∷ xs) = record_of g x ++ records_of g xs

-- the one record form of a plan, in whatever order and from wherever its exchanges are told
unfoldable pub record_form : Graph → List (List ℕ) → List ℕ
record_form g p = records_of g (in_order p)

-- every exchange fits into a record: it has at most 14 vertices, and they are below the filler
pub record FitRecords (g : Graph) (lc lp : ℕ) : Type 0 where
  pub few : (xs : List ℕ) → T (is_exchange g lc lp xs) → length xs ≤ 14
  pub below_filler : g.size ≤ 255

-- ---- what is best

-- records and a count are those of the best of the plans allowed, where each vertex has waited some weeks:
pub record Best (Allowed : List (List ℕ) → Type 0) (g : Graph) (weeks : ℕ → ℕ) (records : List ℕ) (count : ℕ) : Type 0 where
  -- a plan allowed has these records and serves so many members;
  pub plan : List (List ℕ)
  pub allowed : Allowed plan × (record_form g plan ≡ records) × (served g (flat plan) ≡ count)
  -- none serves more members: it is one "covering maximum number of non-altruistic vertices" (001, (Lc, Lp)-KEP);
  pub most_members : (q : List (List ℕ)) → Allowed q → served g (flat q) ≤ count
  -- of those that serve as many none has more weeks;
  pub most_weeks : (q : List (List ℕ)) → Allowed q → served g (flat q) ≡ count → waited g weeks (flat q) ≤ waited g weeks (flat plan)
  -- of those that also have as many weeks none has a record form that comes before.
  pub first : (q : List (List ℕ)) → Allowed q → served g (flat q) ≡ count → waited g weeks (flat q) ≡ waited g weeks (flat plan)
      → T (before records (record_form g q))

-- the zero clause: the count is 0 exactly where there is no exchange
abbrev pub ZeroClause : Graph → ℕ → ℕ → ℕ → Type 0
ZeroClause g lc lp count = (count ≡ 0) ↔ ((xs : List ℕ) → T (is_exchange g lc lp xs) → ⊥)

-- demand 3 of document 01, with P3: the best of the legal plans, and the zero clause
pub record Optimum (g : Graph) (weeks : ℕ → ℕ) (lc lp : ℕ) (records : List ℕ) (count : ℕ) : Type 0 where
  pub best : Best (λ p. T (is_legal g lc lp p)) g weeks records count
  pub zero_clause : ZeroClause g lc lp count
