-- The causes of the documents by their numbers, and what a call tells.
use Rattle.std.specs.Prelude.{Bool, true, false, List, [], ◌∷◌, ℕ, Result, Ok, Err}
use Rattle.pool.specs.declared.refusal.Cause.{Cause}
use Rattle.pool.specs.declared.refusal.Cause.TheVariants as cause
use Rattle.pool.specs.declared.refusal.Refusal.{Refusal}

-- document 01, Causes and numbers; from 18 on document 02
abbrev pub number_of : Cause → ℕ
number_of cause.PoolLength = 1
number_of cause.PoolSize = 2
number_of cause.RecordKind = 3
number_of cause.RecordClass = 4
number_of cause.AltruistAfterMember = 5
number_of cause.PoolValue = 6
number_of cause.Limit = 7
number_of cause.ExchangeTable = 8
number_of cause.BestTable = 9
number_of cause.PlanBuffer = 10
number_of cause.PlanLength = 11
number_of cause.PlanVertex = 12
number_of cause.VertexMet = 13
number_of cause.PlanOrder = 14
number_of cause.ArcMissing = 15
number_of cause.ExchangeLength = 16
number_of cause.PlanEnd = 17
number_of cause.WeeksOrMachine = 18
number_of cause.RecordGrade = 19
number_of cause.AltruistTakes = 20

-- how a call ends: with what it gives back of accepted input, or with the number and the spot of the first cause met
pub data Outcome (A : Type 0) : Type 0 where
  accepted : A → Outcome A
  refused : ℕ → ℕ → Outcome A

-- the outcome that a result stands for
abbrev pub outcome : {A : Type 0} → Result A Refusal → Outcome A
outcome (Ok a) = accepted a
outcome (Err r) = refused (number_of r.cause) r.at

-- the outcome that the result of a test of a stands for
abbrev pub outcome_of : {A B : Type 0} → Result B Refusal → A → Outcome A
outcome_of (Ok b) a = accepted a
outcome_of (Err r) a = refused (number_of r.cause) r.at

-- tests in the order given, each with the number of the cause that is met where it fails; `rest` where all pass
unfoldable pub tested : {A : Type 0} → List (ℕ × Bool) → ℕ → Outcome A → Outcome A
tested [] at rest = rest
tested (t ∷ ts) at rest = elim t.1 [ true ↦ tested ts at rest | false ↦ refused t.0 at ]

-- on with what was accepted; a refusal stays
abbrev pub and_then : {A B : Type 0} → Outcome A → (A → Outcome B) → Outcome B
and_then (accepted a) f = f a
and_then (refused number at) f = refused number at

-- what lent memory holds afterwards: something new where the call accepted, else what it held
abbrev pub left_by : {A B : Type 0} → Outcome A → (A → B) → B → B
left_by (accepted a) new old = new a
left_by (refused number at) new old = old
