-- The best of the plans allowed by one worth of the vertices: what the choice of a plan goes by.
use Rattle.std.specs.Prelude.{List, ◌≡◌, ℕ, ◌≤◌, T}
use Rattle.kep.specs.Lists.{total, flat, before}
use Rattle.kep.specs.Graph.{Graph}
use Rattle.kep.specs.Plan.{is_legal, record_form}

-- a plan allowed has these records and is worth so much; none is worth more; of those worth as much none has records that come before
pub record BestBy (Allowed : List (List ℕ) → Type 0) (w : ℕ → ℕ) (g : Graph) (records : List ℕ) (worth : ℕ) : Type 0 where
  pub plan : (p : List (List ℕ)) × Allowed p × (record_form g p ≡ records) × (total w (flat p) ≡ worth)
  pub greatest : (q : List (List ℕ)) → Allowed q → total w (flat q) ≤ worth
  pub first : (q : List (List ℕ)) → Allowed q → total w (flat q) ≡ worth → T (before records (record_form g q))

-- of the legal plans
abbrev pub BestLegal : (ℕ → ℕ) → Graph → ℕ → ℕ → List ℕ → ℕ → Type 0
BestLegal w g lc lp records worth = BestBy (λ p. T (is_legal g lc lp p)) w g records worth
