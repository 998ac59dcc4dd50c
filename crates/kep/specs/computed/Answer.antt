-- The answer of clearing, worked out by trying all legal plans. `answer_is_optimum` (claims, proofs/Problem) says what it means.
use Rattle.std.specs.Prelude.{true, false, List, [], ◌∷◌, ◌++◌, map, ℕ, ltb}
use Rattle.kep.specs.Lists.{distinct, keep, total, flat, before}
use Rattle.kep.specs.Graph.{Graph}
use Rattle.kep.specs.Plan.{record_form}
use Rattle.kep.specs.computed.Table.{exchanges}

-- every part of a list, in the order of the list
unfoldable pub sublists : {A : Type 0} → List A → List (List A)
sublists [] = [] ∷ []
sublists (x ∷ xs) = let r = sublists xs in map (λ l. x ∷ l) r ++ r

-- every legal plan, once
unfoldable pub plans : Graph → ℕ → ℕ → List (List (List ℕ))
plans g lc lp = keep (λ p. distinct (flat p)) (sublists (exchanges g lc lp))

-- of two things the one with the greater score, and of equal scores the one whose form comes first
unfoldable pub better : {A : Type 0} → (A → ℕ) → (A → List ℕ) → A → A → A
better score form p q =
    elim (ltb (score q) (score p)) [
      | true ↦ p
      | false ↦ elim (ltb (score p) (score q)) [ true ↦ q | false ↦ elim (before (form p) (form q)) [ true ↦ p | false ↦ q ] ]
    ]

-- the best of a list and of one thing more
unfoldable pub pick : {A : Type 0} → (A → ℕ) → (A → List ℕ) → A → List A → A
pick score form p [] = p
pick score form p (q ∷ qs) = better score form q (pick score form p qs)

-- the answer of clearing for any worth w of the vertices: of the legal plans one that is worth most, and of those the one
-- whose records come first. Clearing's worth is `member_weeks`: most members, and of those most weeks (`weeks_optimum`, proofs/Weeks)
unfoldable pub answer : (ℕ → ℕ) → Graph → ℕ → ℕ → List (List ℕ)
answer w g lc lp = pick (λ p. total w (flat p)) (record_form g) [] (plans g lc lp)
