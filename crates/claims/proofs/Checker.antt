-- Demand 2, the checker: its yes and its no.
use mathlib.Core.List.{List}
use mathlib.Core.Logic.{◌↔◌}
use mathlib.Core.Path.{◌≡◌}
use Prim.Native.Nat.{ℕ}
use Rattle.pool.specs.declared.limits.Limits.{Limits}
use Rattle.kep.specs.Lists.{flat}
use Rattle.kep.specs.Table.{served}
use Rattle.pool.specs.Refusals.{accepted, refused}
use Rattle.pool.specs.Value.{graph_of}
use Rattle.plans.specs.Check.{records_in, lists_in, counts}
use Rattle.plans.specs.CheckCall.{check_outcome}
use Rattle.claims.specs.Plans.{LegalPlan}
use Rattle.claims.proofs.CheckerLaws.{accepts_legal, refuses_others, plan_counts}

module _ (bytes : List ℕ) (l : Limits) (plan : List ℕ) where
  -- The checker accepts plan bytes with a count exactly where they are the record form of a legal plan that serves so many.
  pub checker_accepts : (k : ℕ) → (check_outcome bytes l plan ≡ accepted k) ↔ LegalPlan bytes l plan k
  checker_accepts k = accepts_legal bytes l plan k

  -- It refuses exactly where they are that for no count. (By which cause: `check_refuses`, proofs/Refusals.)
  pub checker_refuses : ((n : ℕ) × (at : ℕ) × (check_outcome bytes l plan ≡ refused n at)) ↔ ((k : ℕ) → LegalPlan bytes l plan k → ⊥)
  checker_refuses = refuses_others bytes l plan

-- The members served are the member places listed in the records, and the sum of their bytes 15.
pub legal_plan_counts : {bytes plan : List ℕ} {l : Limits} {k : ℕ} (h : LegalPlan bytes l plan k)
    → (served (graph_of h.pool) (flat (lists_in plan)) ≡ k) × (counts (records_in plan) ≡ k)
legal_plan_counts h = plan_counts h
